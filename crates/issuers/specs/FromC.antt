-- Lengths from C: two bytes each, high first.
use Rattle.std.specs.Prelude.{ℕ, ◌+◌, ◌*◌, ◌/◌, ◌%◌, ◌≡◌, refl, List, [], ◌∷◌, length}
use Rattle.std.proofs.Math.Option.{none, some}
use Rattle.std.proofs.Common.{arith}
use Rattle.rules.specs.Seen.{lengths_from_c}

-- each two bytes; an odd one at the end is left out
unfoldable pub pairs : List ℕ → List ℕ
pairs [] = []
pairs (high ∷ []) = []
pairs (high ∷ low ∷ b) = (high * 256 + low) ∷ pairs b

pub from_even : (b : List ℕ) → length b % 2 ≡ 0 → lengths_from_c b ≡ some (pairs b)
unfolding lengths_from_c pairs
from_even [] e = refl
from_even (x ∷ []) e = absurd (omega arith)
from_even (x ∷ y ∷ b) e = rw (from_even b (omega arith))

pub from_odd : (b : List ℕ) → length b % 2 ≡ 1 → lengths_from_c b ≡ none
unfolding lengths_from_c
from_odd [] e = absurd (omega arith)
from_odd (x ∷ []) e = refl
from_odd (x ∷ y ∷ b) e = rw (from_odd b (omega arith))

pub pairs_length : (b : List ℕ) → length (pairs b) ≡ length b / 2
unfolding pairs
pairs_length [] = omega arith
pairs_length (x ∷ []) = omega arith
pairs_length (x ∷ y ∷ b) = let h = pairs_length b in omega arith
