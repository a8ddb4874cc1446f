-- Lists that agree, cut into the first name's part and the others'.
use Prim.Native.Nat.{ℕ, suc, ◌+◌, ◌*◌, ◌/◌, ◌%◌, ◌<◌, ◌≤◌}
use mathlib.Core.Path.{◌≡◌, refl, sym, ap, ◌∙◌}
use mathlib.Core.Bool.{Bool, true, false, not, and-false}
use mathlib.Core.List.{List, [], ◌∷◌, ◌++◌}
use native.Mathlib.Nat.{mul-div_cancel_left, mul-mod_right}
use native.Mathlib.Omega.{arith}
use lib.ListN.{length, take, drop, take-append-drop, length-drop}
use lib.Seq.{take-append-le, drop-append-le}
use lib.Dec.{eqb}
use borrow.Author.Tests.{eq-eqb, ne_eqb, not-true, not-false}
use Rattle.std.specs.List as list
use Rattle.std.proofs.lemmas.List.Sums.{sum_by_from}
use Rattle.rules.specs.Bytes.{cut, sum}
use Rattle.rules.specs.Writing.{Request, agree}

-- ---- whether lists agree

module _ (per : ℕ) (q : Request) where
  pub other_lengths : 0 < per → (length q.lengths / per ≡ length q.kinds → ⊥) → agree per q ≡ false
  unfolding agree
  other_lengths h n =
      rw (ne_eqb (length q.lengths) (per * length q.kinds) (λ e. n (ap (λ m. m / per) e ∙ mul-div_cancel_left (length q.kinds) h)))

  pub odd_lengths : (length q.lengths % per ≡ 0 → ⊥) → agree per q ≡ false
  unfolding agree
  odd_lengths n =
      rw (ne_eqb (length q.lengths) (per * length q.kinds) (λ e. n (ap (λ m. m % per) e ∙ mul-mod_right per (length q.kinds))))

  module _ (s : Bool) (s_is : s ≡ eqb (sum q.lengths) (length q.texts)) where
    pub other_sum : not s ≡ true → agree per q ≡ false
    unfolding agree
    other_sum e = rw (← s_is, not-true s e) (and-false _)

    pub lists_agree : length q.lengths ≡ per * length q.kinds → not s ≡ false → agree per q ≡ true
    unfolding agree
    lists_agree h e = rw (eq-eqb _ _ h, ← s_is, not-false s e)

-- ---- sums

pub sum_append : (a b : List ℕ) → sum (a ++ b) ≡ sum a + sum b
unfolding sum
sum_append [] b = omega arith
sum_append (n ∷ a) b = let h = sum_append a b in omega arith

pub sum_std : (ns : List ℕ) → list.sum ns ≡ sum ns
unfolding sum
sum_std [] = refl
sum_std (n ∷ ns) = let h = sum_std ns in let e : list.sum (n ∷ ns) ≡ 0 + n + list.sum ns = sum_by_from (λ (x : ℕ). x) (0 + n) ns in omega arith

-- the first lengths and the others add up to all
pub sum_parts : (ns own rest : List ℕ) (per : ℕ) → own ≡ take per ns → rest ≡ drop per ns → sum own + sum rest ≡ sum ns
sum_parts ns own rest per e f = rw (e, f) (sym (sum_append (take per ns) (drop per ns)) ∙ ap sum (take-append-drop per ns))

-- ---- the texts of the first name, and the others'

pub cut_append : (a b s t : List ℕ) → sum a ≡ length s → cut (a ++ b) (s ++ t) ≡ cut a s ++ cut b t
unfolding cut sum
cut_append [] b [] t e = refl
cut_append [] b (x ∷ s) t e = absurd (omega arith)
cut_append (n ∷ a) b s t e =
    let k : n ≤ length s = omega arith in
    rw (take-append-le n s t k, drop-append-le n s t k, cut_append a b (drop n s) t (omega (arith, length-drop n s)))

pub cut_length : (ns ts : List ℕ) → length (cut ns ts) ≡ length ns
unfolding cut
cut_length [] ts = refl
cut_length (n ∷ ns) ts = ap suc (cut_length ns (drop n ts))

pub ruleset laws = (other_lengths, odd_lengths, other_sum, lists_agree)
