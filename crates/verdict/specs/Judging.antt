-- What the code of the verdict decides step by step: the refusals in their order, and how large the numbers of an outcome are.
use Rattle.std.specs.Prelude.{ℕ, ◌+◌, ◌≤◌, ◌≡◌, Bool, true, cond, not, ◌||◌, List, length, T, ltb, Result, Ok, Err}
use Rattle.std.proofs.Math.Path.{ap}
use Rattle.std.proofs.Common.{◌∙◌, arith}
use Rattle.rules.specs.Bytes.{all, any}
use Rattle.rules.specs.Numbers.{san_limit, subject_limit, constraints_limit, records_limit}
use Rattle.rules.specs.Records.{good_records}
use Rattle.rules.specs.Seen.{lengths_fit}
use Rattle.rules.specs.Verdict.{numbers_of, verdict_of, witness_part}
use Rattle.rules.specs.declared.Place.{Place}
use Rattle.rules.specs.declared.Witness.{Witness}
use Rattle.rules.specs.declared.Verdict.{Verdict}
use Rattle.rules.specs.declared.Refusal.{Refusal}
use Rattle.rules.specs.declared.Refusal.TheVariants.{InputTooLong, RecordsUnreadable, SanUnreadable, SubjectUnreadable, ConstraintsUnreadable}
use Rattle.rules.specs.declared.Outcome.{Outcome}
use Rattle.rules.specs.declared.Outcome.TheVariants.{Refused, Broken, Matched, Mismatched}
use Rattle.reading.specs.Reader.{is_some}
use Rattle.reading.specs.Calls.{Inputs, outcome_on, verdict_on, witness_part_on}
use Rattle.reading.specs.Strings.{read_san, read_subject, read_constraints}
use Rattle.der.specs.Runs.{validated}
use Rattle.issuers.specs.Strings.{strings_in}

-- 6/13: "a ninth, or lengths with another sum, is 7, and each keeps its own length limit"
unfoldable pub constraints_long : List ℕ → ℕ → Bool
constraints_long lengths size = not (lengths_fit lengths size) || any (ltb constraints_limit) lengths

-- "7 for any of the four inputs"
unfoldable pub any_long : List ℕ → List ℕ → List ℕ → List ℕ → List ℕ → Bool
any_long references san subject constraints lengths =
    ltb records_limit (length references)
    || ltb san_limit (length san)
    || ltb subject_limit (length subject)
    || constraints_long lengths (length constraints)

unfoldable pub subject_read : List ℕ → Bool
subject_read s = is_some (read_subject s)

-- the constraints of every issuer are absent or read
unfoldable pub constraints_read : List ℕ → List ℕ → Bool
constraints_read constraints lengths = all (validated read_constraints) (strings_in lengths constraints)

-- the refusal that comes first, "7 .., then 6, 3, 4, 5", or none where all four inputs are read
unfoldable pub first_refusal : List ℕ → List ℕ → List ℕ → List ℕ → List ℕ → Result (Unit {0}) Refusal
first_refusal references san subject constraints lengths =
    cond (any_long references san subject constraints lengths) (Err InputTooLong)
    (cond (not (good_records references)) (Err RecordsUnreadable)
    (cond (not (validated read_san san)) (Err SanUnreadable)
    (cond (not (subject_read subject)) (Err SubjectUnreadable)
    (cond (not (constraints_read constraints lengths)) (Err ConstraintsUnreadable) (Ok tt)))))

-- the numbers of a witness: its text lies in its string, and all of them are small
pub record SmallWitness (san subject : List ℕ) (w : Witness) : Type 0 where
  pub reference_small : w.reference ≤ records_limit
  pub presented_small : w.presented ≤ san_limit
  pub start_small : w.element.start ≤ san_limit
  pub length_small : w.element.length ≤ san_limit
  pub text_small : w.text.start + w.text.length ≤ san_limit
  pub text_fits : w.text.start + w.text.length ≤ length (cond w.subject subject san)

unfoldable pub Small : List ℕ → List ℕ → Outcome → Type 0
Small san subject (Refused n) = n ≤ san_limit
Small san subject (Broken b) = (b.issuer ≤ san_limit) × (b.presented ≤ san_limit)
Small san subject (Matched w) = SmallWitness san subject w
Small san subject Mismatched = T true

pub record SmallNumbers (v : Verdict) : Type 0 where
  pub answer_small : v.answer ≤ san_limit
  pub reference_small : v.reference ≤ san_limit
  pub presented_small : v.presented ≤ san_limit
  pub start_small : v.start ≤ san_limit
  pub length_small : v.length ≤ san_limit
  pub issuer_small : v.issuer ≤ san_limit

pub record SmallPlace (p : Place) : Type 0 where
  pub start_small : p.start ≤ san_limit
  pub length_small : p.length ≤ san_limit

-- the numbers of a small outcome are small
numbers_small : (S J : List ℕ) (p : Outcome) → Small S J p → SmallNumbers (numbers_of p)
unfolding numbers_of Small
numbers_small S J (Refused n) q = record {
  answer_small = q;
  reference_small = omega arith;
  presented_small = omega arith;
  start_small = omega arith;
  length_small = omega arith;
  issuer_small = omega arith;
}
numbers_small S J (Broken b) q = record {
  answer_small = omega arith;
  reference_small = omega arith;
  presented_small = q.1;
  start_small = omega arith;
  length_small = omega arith;
  issuer_small = q.0;
}
numbers_small S J (Matched w) q = record {
  answer_small = omega arith;
  reference_small = omega (arith, q.reference_small);
  presented_small = q.presented_small;
  start_small = q.start_small;
  length_small = q.length_small;
  issuer_small = omega arith;
}
numbers_small S J Mismatched q = record {
  answer_small = omega arith;
  reference_small = omega arith;
  presented_small = omega arith;
  start_small = omega arith;
  length_small = omega arith;
  issuer_small = omega arith;
}

part_small : (S J : List ℕ) (p : Outcome) → Small S J p → SmallPlace (witness_part p)
unfolding Small witness_part
part_small S J (Refused n) q = record { start_small = omega arith; length_small = omega arith }
part_small S J (Broken b) q = record { start_small = omega arith; length_small = omega arith }
part_small S J (Matched w) q = record { start_small = omega (arith, q.text_small); length_small = omega (arith, q.text_small) }
part_small S J Mismatched q = record { start_small = omega arith; length_small = omega arith }

module _ (S J : List ℕ) (o : Outcome) (small : Small S J o) where
  pub numbers_are_small : (v : Verdict) → v ≡ numbers_of o → SmallNumbers v
  numbers_are_small v e = rw e (numbers_small S J o small)

  pub place_is_small : (p : Place) → p ≡ witness_part o → SmallPlace p
  place_is_small p e = rw e (part_small S J o small)

-- the numbers and the text's place of an outcome are those of the inputs that it is the outcome of
module _ (i : Inputs) (o : Outcome) (o_is : o ≡ outcome_on i) where
  pub numbers_of_inputs : (v : Verdict) → v ≡ numbers_of o → v ≡ verdict_on i
  unfolding verdict_on verdict_of outcome_on
  numbers_of_inputs v e = e ∙ ap numbers_of o_is

  pub place_of_inputs : (p : Place) → p ≡ witness_part o → p ≡ witness_part_on i
  unfolding witness_part_on
  place_of_inputs p e = e ∙ ap witness_part o_is
