-- Texts that stand end to end, cut by their lengths.
use Prim.Native.Nat.{ℕ}
use mathlib.Core.Path.{◌≡◌, refl}
use mathlib.Core.List.{List, [], ◌∷◌, map}
use native.Mathlib.Omega.{arith}
use lib.ListN.{length, take, drop, length-drop}
use lib.Seq.{length-take-le}
use Rattle.rules.specs.Bytes.{sum, cut}

-- each is as long as its length says, where the lengths add up
pub cut_sizes : (ns b : List ℕ) → sum ns ≡ length b → map length (cut ns b) ≡ ns
unfolding sum cut
cut_sizes [] b e = refl
cut_sizes (n ∷ ns) b e =
    let f = length-drop n b in
    let p : length (take n b) ≡ n = length-take-le n b (omega arith) in
    let q : map length (cut ns (drop n b)) ≡ ns = cut_sizes ns (drop n b) (omega arith) in
    λ i. p i ∷ q i
