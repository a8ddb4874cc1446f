-- How the program hands over nc.der: one string, or none where it is empty.
use Rattle.std.proofs.Common.{arith, ◌≡◌, ℕ, List, [], ◌∷◌, length, refl, ap, ◌∙◌}
use Rattle.std.proofs.Math.Option.{some}
use Rattle.rules.specs.declared.Verdict.{Verdict}
use Rattle.reading.specs.Calls.{inputs, verdict_on}
use Rattle.namecheck.specs.Status.{one_length}

no_length : (C : List ℕ) → length C ≡ 0 → [] ≡ one_length C
unfolding one_length
no_length [] e = refl
no_length (x ∷ C) e = absurd (omega arith)

one_length_lem : (C : List ℕ) → (length C ≡ 0 → ⊥) → length C ∷ [] ≡ one_length C
unfolding one_length
one_length_lem [] h = absurd (h refl)
one_length_lem (x ∷ C) h = refl

module _ (S J C R : List ℕ) (v : Verdict) where
  pub no_string : length C ≡ 0 → v ≡ verdict_on (inputs S J C (some []) R) → v ≡ verdict_on (inputs S J C (some (one_length C)) R)
  no_string h e = e ∙ ap (λ l. verdict_on (inputs S J C (some l) R)) (no_length C h)

  pub one_string : (length C ≡ 0 → ⊥) → v ≡ verdict_on (inputs S J C (some (length C ∷ [])) R) → v ≡ verdict_on (inputs S J C (some (one_length C)) R)
  one_string h e = e ∙ ap (λ l. verdict_on (inputs S J C (some l) R)) (one_length_lem C h)

pub ruleset laws = (no_string, one_string)
