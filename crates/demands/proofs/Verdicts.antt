-- The verdict's answers in order, and what names give.
use Prim.Native.Nat.{ℕ, ◌≤◌}
use mathlib.Core.Path.{◌≡◌, refl, sym, ap, subst, ◌∙◌}
use mathlib.Core.Logic.{◌↔◌, ◌≢◌, inl, inr}
use mathlib.Core.List.{List, [], ◌∷◌}
use native.Mathlib.Omega.{arith}
use Rattle.rules.specs.declared.Verdict.{Verdict}
use Rattle.rules.specs.Matching.{Presented}
use Rattle.rules.specs.Verdict.{witness_of, numbers, numbers_of, verdict_of, with_place, all_numbers}
use Rattle.rules.specs.declared.Outcome.TheVariants.{Broken, Matched, Mismatched}
use Rattle.reading.specs.Calls.{Inputs, outcome_on, verdict_on, witness_part_on}
use Rattle.demands.specs.Statements.{Names, Read, BreaksAt, PairAt, Answer, when, verdict_answers, Verdicts}
use Rattle.demands.proofs.Order.{Chosen, each_exactly}
use Rattle.demands.proofs.Endings.{Ending, long, records, san, subject, constraints, read, ending, fits_not_long, outcome_of_names, read_fits, read_records, read_constraints_lem, read_unique}
use Rattle.demands.proofs.Judged.{Judged, broken, matched, mismatched, judge, pair_of, FirstBroken}

-- "the witnessing pair, and its element's place"
abbrev pub pair_numbers : ℕ → Presented → Verdict
pair_numbers i p = numbers 0 i p.row.group p.row.start p.row.length 0

-- the answer of six numbers
pub answer : {v : Verdict} {a b c d e f : ℕ} → v ≡ numbers a b c d e f → v.answer ≡ a
answer e = ap (λ x. x.answer) e

-- the numbers of each outcome where all is read
module _ (s : Inputs) where
  pub is_broken : {k i : ℕ} → outcome_on s ≡ Broken (record { issuer = k; presented = i }) → verdict_on s ≡ numbers 2 0 i 0 0 k
  unfolding verdict_on verdict_of outcome_on numbers_of
  is_broken e = ap numbers_of e

  pub is_matched : {l : Names} {i j : ℕ} (p : PairAt l i j) → outcome_on s ≡ Matched (witness_of (pair_of p)) → verdict_on s ≡ pair_numbers i p.match.presented
  unfolding verdict_on verdict_of outcome_on numbers_of witness_of
  is_matched p e = ap numbers_of e

  pub is_mismatched : outcome_on s ≡ Mismatched → verdict_on s ≡ numbers 1 0 0 0 0 0
  unfolding verdict_on verdict_of outcome_on numbers_of
  is_mismatched e = ap numbers_of e

module _ (s : Inputs) (l : Names) (r : Read s l) where
  -- how the names of these strings are judged
  pub judged_on : Judged l (outcome_on s)
  judged_on = subst (Judged l) (sym (outcome_of_names s l r)) (judge l)

-- the rows of the table that are about names
abbrev name_answers : Inputs → List Answer
name_answers s =
    when 2 ((l : Names) × Read s l × (k : ℕ) × (i : ℕ) × BreaksAt l k i)
    ∷ when 0 ((l : Names) × Read s l × (i : ℕ) × (j : ℕ) × PairAt l i j)
    ∷ when 1 Unit
    ∷ []

module _ (s : Inputs) (l : Names) (r : Read s l) where
  -- where names are read, no refusal before 2 is given
  past_refusals : (verdict_on s).answer ≤ 2 → Chosen (name_answers s) (verdict_on s).answer → Chosen (verdict_answers s) (verdict_on s).answer
  past_refusals h c =
      inr (
        fits_not_long s (read_fits s l r),
        omega arith,
        inr (
          read_records s l r,
          omega arith,
          inr (
            λ u. u l.san r.san_is.1,
            omega arith,
            inr (
              λ u. u l.subject r.subject_is.1,
              omega arith,
              inr (read_constraints_lem s l r, omega arith, c),
            ),
          ),
        ),
      )

  -- the strings have no other names that could break the constraints, or match
  unbroken : ((k i : ℕ) → ¬ BreaksAt l k i) → ¬ ((m : Names) × Read s m × (k : ℕ) × (i : ℕ) × BreaksAt m k i)
  unbroken u h = u h.2 h.3 (subst (λ x. BreaksAt x h.2 h.3) (read_unique s h.0 l h.1 r) h.4)

  unpaired : ((i j : ℕ) → ¬ PairAt l i j) → ¬ ((m : Names) × Read s m × (i : ℕ) × (j : ℕ) × PairAt m i j)
  unpaired u h = u h.2 h.3 (subst (λ x. PairAt x h.2 h.3) (read_unique s h.0 l h.1 r) h.4)

  -- the row of the table that is given
  chosen_names : Judged l (outcome_on s) → Chosen (verdict_answers s) (verdict_on s).answer
  chosen_names (broken k i b f e) =
      let a = answer (is_broken s e) in
      past_refusals (omega arith) (inl ((l, r, k, i, b), a, omega arith))
  chosen_names (matched u i j p f e) =
      let a = answer (is_matched s p e) in
      past_refusals (omega arith) (inr (unbroken u, omega arith, inl ((l, r, i, j, p), a, omega arith)))
  chosen_names (mismatched u n e) =
      let a = answer (is_mismatched s e) in
      past_refusals (omega arith) (inr (unbroken u, omega arith, inr (unpaired n, omega arith, inl (tt, a, tt))))

chosen : (s : Inputs) → Ending s → Chosen (verdict_answers s) (verdict_on s).answer
chosen s (long h e) =
    let a = answer e in
    inl (h, a, omega arith)
chosen s (records f h e) =
    let a = answer e in
    inr (fits_not_long s f, omega arith, inl (h, a, omega arith))
chosen s (san f g h e) =
    let a = answer e in
    inr (fits_not_long s f, omega arith, inr (g, omega arith, inl (h, a, omega arith)))
chosen s (subject f g i h e) =
    let a = answer e in
    inr (fits_not_long s f, omega arith, inr (g, omega arith, inr (i, omega arith, inl (h, a, omega arith))))
chosen s (constraints f g i k h e) =
    let a = answer e in
    inr (fits_not_long s f, omega arith, inr (g, omega arith, inr (i, omega arith, inr (k, omega arith, inl (h, a, omega arith)))))
chosen s (read l r) = chosen_names s l r (judged_on s l r)

-- ---- the statements of names

module _ (s : Inputs) (l : Names) (r : Read s l) where
  -- answer 2 tells the first issuer whose constraints are broken, and the first entry that breaks them
  pub first_broken_lem : (verdict_on s).answer ≡ 2 → (k : ℕ) × (i : ℕ) × (verdict_on s ≡ numbers 2 0 i 0 0 k) × BreaksAt l k i × FirstBroken l k i
  first_broken_lem = go (judged_on s l r)
    where
      go : Judged l (outcome_on s) → (verdict_on s).answer ≡ 2 → (k : ℕ) × (i : ℕ) × (verdict_on s ≡ numbers 2 0 i 0 0 k) × BreaksAt l k i × FirstBroken l k i
      go (broken k i b f e) h = (k, i, is_broken s e, b, f)
      go (matched u i j p f e) h = let a = answer (is_matched s p e) in absurd (omega arith)
      go (mismatched u n e) h = let a = answer (is_mismatched s e) in absurd (omega arith)

  -- any entry that does is enough, whatever matches
  pub any_broken : (k i : ℕ) → BreaksAt l k i → (verdict_on s).answer ≡ 2
  any_broken k i b = go (judged_on s l r)
    where
      go : Judged l (outcome_on s) → (verdict_on s).answer ≡ 2
      go (broken k' i' c f e) = answer (is_broken s e)
      go (matched u i' j p f e) = absurd (u k i b)
      go (mismatched u n e) = absurd (u k i b)

  -- where none does, 0 tells whether a pair matches
  pub match_exactly : ((k i : ℕ) → ¬ BreaksAt l k i) → ((verdict_on s).answer ≡ 0 ↔ (i : ℕ) × (j : ℕ) × PairAt l i j)
  match_exactly whole = go (judged_on s l r)
    where
      go : Judged l (outcome_on s) → ((verdict_on s).answer ≡ 0 ↔ (i : ℕ) × (j : ℕ) × PairAt l i j)
      go (broken k i b f e) = absurd (whole k i b)
      go (matched u i j p f e) = (λ h. (i, j, p), λ h. answer (is_matched s p e))
      go (mismatched u n e) = let a = answer (is_mismatched s e) in (λ h. absurd (omega arith), λ h. absurd (n h.0 h.1 h.2))

-- ---- the other five numbers of a refusal and of a mismatch

zeros : (s : Inputs) → (verdict_on s).answer ≢ 0 → (verdict_on s).answer ≢ 2 → verdict_on s ≡ numbers (verdict_on s).answer 0 0 0 0 0
zeros s no_match unbroken = go (ending s)
  where
    same : (n : ℕ) → verdict_on s ≡ numbers n 0 0 0 0 0 → verdict_on s ≡ numbers (verdict_on s).answer 0 0 0 0 0
    same n e = e ∙ ap (λ x. numbers x 0 0 0 0 0) (sym (answer e))

    judging : (l : Names) → Judged l (outcome_on s) → verdict_on s ≡ numbers (verdict_on s).answer 0 0 0 0 0
    judging l (broken k i b f e) = absurd (unbroken (answer (is_broken s e)))
    judging l (matched u i j p f e) = absurd (no_match (answer (is_matched s p e)))
    judging l (mismatched u n e) = same 1 (is_mismatched s e)

    go : Ending s → verdict_on s ≡ numbers (verdict_on s).answer 0 0 0 0 0
    go (long h e) = same 7 e
    go (records f h e) = same 6 e
    go (san f g h e) = same 3 e
    go (subject f g i h e) = same 4 e
    go (constraints f g i k h e) = same 5 e
    go (read l r) = judging l (judged_on s l r)

from_c_lem : (s : Inputs) → all_numbers (outcome_on s) ≡ with_place (verdict_on s) (witness_part_on s)
unfolding verdict_on verdict_of outcome_on witness_part_on all_numbers
from_c_lem s = refl

pub verdicts : (s : Inputs) → Verdicts s
verdicts s = record {
  order = each_exactly [] (verdict_answers s) (verdict_on s).answer tt (chosen s (ending s));
  zeros = zeros s;
  first_broken_lem = λ l r. first_broken_lem s l r;
  from_c_lem = from_c_lem s;
}
