-- The laws that the functions' proofs search: one for each return, and that a wildcard has the two bytes that are cut off.
use Prim.Native.Nat.{ℕ, ◌+◌, ◌-◌, ◌<◌, ◌≤◌}
use mathlib.Core.Path.{◌≡◌, refl, sym, ◌∙◌}
use mathlib.Core.List.{List, [], ◌∷◌}
use mathlib.Core.Bool.{Bool, true, false, and-false}
use native.Mathlib.Omega.{arith}
use lib.ListN.{length, get_or, take, drop}
use lib.Dec.{eqb}
use borrow.Author.Tests.{eq-eqb, ne_eqb, eqb-true, eqb-false}
use Rattle.octets.proofs.Cases.{by_cases, and_right, fails, clash}
use Rattle.octets.proofs.Place.{passes_at, part_after, one_passes}
use Rattle.octets.proofs.Parts.{rest_is}
use Rattle.rules.specs.Bytes.{any, begins, before, after}
use Rattle.rules.specs.Names.{is, star, dot, same_text}
use Rattle.dns.specs.Wildcard.{past_first}
use Rattle.dns.proofs.Known.{first_at}
use Rattle.dns.proofs.Matching.{wild, wild_is}

-- ---- past_star

pub wild_short : (s : List ℕ) → length s < 2 → wild s ≡ false
unfolding begins
wild_short [] h = refl
wild_short (x ∷ []) h = and-false (eqb star x)
wild_short (x ∷ y ∷ t) h = absurd (omega arith)

pub wild_first : (s : List ℕ) → 2 ≤ length s → (get_or s 0 0 ≡ 0x2A → ⊥) → wild s ≡ false
unfolding begins
wild_first [] h n = absurd (omega arith)
wild_first (x ∷ t) h n = simp (ne_eqb star x (λ e. n (sym e)))

pub wild_second : (s : List ℕ) → 2 ≤ length s → (get_or s 1 0 ≡ 0x2E → ⊥) → wild s ≡ false
unfolding begins
wild_second [] h n = absurd (omega arith)
wild_second (x ∷ []) h n = absurd (omega arith)
wild_second (x ∷ y ∷ t) h n = simp (ne_eqb dot y (λ e. n (sym e)), and-false)

pub wild_here : (s : List ℕ) → 2 ≤ length s → get_or s 0 0 ≡ 0x2A → get_or s 1 0 ≡ 0x2E → wild s ≡ true
unfolding begins
wild_here [] h e f = absurd (omega arith)
wild_here (x ∷ []) h e f = absurd (omega arith)
wild_here (x ∷ y ∷ t) h e f = simp (eq-eqb star x (sym e), eq-eqb dot y (sym f))

-- ---- past_first

module _ (text t : List ℕ) where
  pub past_short : length text ≤ length t → false ≡ past_first text t
  past_short h = fails (past_first text t) (λ e. omega (arith, (first_at text t e).0))

  module _ (h : length t < length text) where
    abbrev at : ℕ
    at = length text - length t - 1

    pub past_no_dot : (get_or text at 0 ≡ 0x2E → ⊥) → false ≡ past_first text t
    past_no_dot n =
        fails (past_first text t) (λ e. n (eqb-true (get_or text at 0) dot (passes_at (is dot) text at (first_at text t e).1 (omega arith))))

    module _ (same : Bool) (is_same : same ≡ same_text t (take (length text - (at + 1)) (drop (at + 1) text))) where
      pub past_other : same ≡ false → false ≡ past_first text t
      unfolding past_first
      past_other n =
          fails (past_first text t) (λ e.
          clash (rw (← part_after (is dot) text at (first_at text t e).1) at (and_right (any (is dot) text) (same_text t (after (is dot) text)) e))
          (sym (rw (rest_is text (at + 1)) at is_same) ∙ n))

      -- the dot is the first
      past_first_dot : same ≡ true → at ≡ length (before (is dot) text) → true ≡ past_first text t
      unfolding past_first
      past_first_dot n k =
          rw (one_passes (is dot) text at k (omega arith), ← part_after (is dot) text at k) (sym (sym (rw (rest_is text (at + 1)) at is_same) ∙ n))

      pub past_is : same ≡ true → (first : ℕ) → first ≡ length (before (is dot) text) → eqb first at ≡ past_first text t
      past_is n first is_first =
          by_cases (eqb first at) (λ e. e ∙ past_first_dot n (sym (eqb-true first at e) ∙ is_first))
          (λ e. e ∙ fails (past_first text t) (λ p. eqb-false first at e (is_first ∙ sym (first_at text t p).1)))

-- ---- for callers

pub wild_long : (s : List ℕ) (w : Bool) → w ≡ wild s → w ≡ true → 2 ≤ length s
wild_long s w is_wild e = rw (wild_is s (sym is_wild ∙ e)) (omega arith)
