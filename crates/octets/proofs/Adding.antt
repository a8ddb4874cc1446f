-- Lengths added up, as the loop does it.
use Prim.Native.Nat.{ℕ, ◌+◌, ◌-◌, ◌<◌, ◌≤◌}
use mathlib.Core.Path.{◌≡◌, refl, sym, ◌∙◌}
use mathlib.Core.Bool.{false}
use mathlib.Core.List.{List}
use native.Mathlib.Numerals.{add-one}
use native.Mathlib.Omega.{arith}
use lib.ListN.{length, get_or, drop, drop_of_length-le}
use lib.Seq.{drop-cons}
use lib.Dec.{eqb}
use borrow.Author.Tests.{eq-eqb, ne_eqb, eqb-true, eqb-false}
use Rattle.rules.specs.Bytes.{sum}
use Rattle.rules.proofs.Cases.{by_cases, eqb_swap}

-- those from i on add up to what is left just where all add up to the total
unfoldable pub AddsUp : List ℕ → ℕ → ℕ → ℕ → Type 0
AddsUp ns total i left = eqb (sum (drop i ns)) left ≡ eqb (sum ns) total

pub adds_begin : (ns : List ℕ) (total : ℕ) → AddsUp ns total 0 total
unfolding AddsUp
adds_begin ns total = refl

-- the same taken from both sides
less : (n m left : ℕ) → n ≤ left → eqb (n + m) left ≡ eqb m (left - n)
less n m left h =
    by_cases (eqb m (left - n)) (λ e. rw e (eq-eqb (n + m) left (omega (arith, eqb-true m (left - n) e))))
    (λ e. rw e (ne_eqb (n + m) left (λ z. eqb-false m (left - n) e (omega arith))))

module _ (ns : List ℕ) (total i left : ℕ) (inv : AddsUp ns total i left) where
  module _ (h : i < length ns) where
    pub adds_next : get_or ns i 0 ≤ left → AddsUp ns total (i + 1) (left - get_or ns i 0)
    unfolding AddsUp sum
    adds_next k = rw add-one (sym (less (get_or ns i 0) _ left k) ∙ (rw (drop-cons ns i 0 h) at inv))

    pub adds_fail : left < get_or ns i 0 → false ≡ eqb (sum ns) total
    unfolding AddsUp sum
    adds_fail k = sym (ne_eqb (get_or ns i 0 + sum (drop (i + 1) ns)) left (λ z. omega arith)) ∙ rw add-one (rw (drop-cons ns i 0 h) at inv)

  pub adds_end : length ns ≤ i → eqb left 0 ≡ eqb (sum ns) total
  unfolding AddsUp sum
  adds_end h = eqb_swap left 0 ∙ (rw (drop_of_length-le ns h) at inv)

pub ruleset laws = (adds_begin, adds_next, adds_fail, adds_end)
