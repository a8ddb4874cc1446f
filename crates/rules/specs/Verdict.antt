-- The verdict: its outcome, its six numbers, and the witness's text. Document 01, "Numbers the kiosk sees".
use Rattle.std.specs.Prelude.{ℕ, ◌+◌, ◌-◌, Bool, true, false, cond, ◌||◌, List, [], length, eqb}
use Rattle.std.proofs.Math.Option.{Option, none, some, get_or}
use Rattle.rules.specs.Bytes.{part}
use Rattle.rules.specs.Numbers.{match, mismatch, constraints_broken, san_unreadable, subject_unreadable, constraints_unreadable, records_unreadable, input_too_long, cn_kind}
use Rattle.rules.specs.Records.{Reference}
use Rattle.rules.specs.Der.{Member}
use Rattle.rules.specs.San.{GeneralName}
use Rattle.rules.specs.Subject.{Attribute}
use Rattle.rules.specs.Seen.{Seen, too_long, unreadable, listed}
use Rattle.rules.specs.Matching.{Presented, Pair, first_pair, first_breach}
use Rattle.rules.specs.declared.Place.{Place}
use Rattle.rules.specs.declared.Witness.{Witness}
use Rattle.rules.specs.declared.Verdict.{Verdict}
use Rattle.rules.specs.declared.VerdictNumbers.{VerdictNumbers}
use Rattle.rules.specs.declared.Breach.{Breach}
use Rattle.rules.specs.declared.Outcome.{Outcome}
use Rattle.rules.specs.declared.Outcome.TheVariants.{Refused, Broken, Matched, Mismatched}

-- ---- the witness

abbrev pub text_of : Presented → List ℕ
text_of p = get_or p.text []

-- the text stands at the end of its element: the content of a dNSName or a URI, the IA5String of an SRVName, the value of a CN
abbrev pub text_place : Presented → Place
text_place p = record { start = p.row.start + p.row.length - length (text_of p); length = length (text_of p) }

unfoldable pub witness_of : Pair → Witness
witness_of w =
    let row = w.presented.row in
    record {
      reference = w.index;
      presented = row.group;
      element = record { start = row.start; length = row.length };
      text = text_place w.presented;
      subject = eqb w.reference.kind cn_kind;
    }

-- ---- the outcome

abbrev pub is_long : {A : Type 0} → Seen A → Bool
is_long too_long = true
is_long unreadable = false
is_long (listed l) = false

abbrev pub is_unreadable : {A : Type 0} → Seen A → Bool
is_unreadable too_long = false
is_unreadable unreadable = true
is_unreadable (listed l) = false

abbrev pub list_of : {A : Type 0} → Seen A → List A
list_of too_long = []
list_of unreadable = []
list_of (listed l) = l

abbrev pub matched_or : Option Pair → Outcome
matched_or none = Mismatched
matched_or (some w) = Matched (witness_of w)

abbrev pub broken_or : Option Breach → Outcome → Outcome
broken_or none o = o
broken_or (some b) o = Broken b

-- all four inputs are read: the constraints first, "even if another name would match", then the first pair
unfoldable pub judged : List Reference → List GeneralName → List (Member Attribute) → List (List (Member GeneralName)) → Outcome
judged references san subject constraints =
    broken_or (first_breach 0 constraints san) (matched_or (first_pair 0 references san subject))

-- "Order for a verdict: 7 for any of the four inputs, then 6, 3, 4, 5, 2, then 0 or 1." The constraints are those of all issuers
unfoldable pub outcome_of : Seen Reference → Seen GeneralName → Seen (Member Attribute) → Seen (List (Member GeneralName)) → Outcome
outcome_of references san subject constraints =
    cond (is_long references || is_long san || is_long subject || is_long constraints) (Refused input_too_long)
    (cond (is_unreadable references) (Refused records_unreadable)
    (cond (is_unreadable san) (Refused san_unreadable)
    (cond (is_unreadable subject) (Refused subject_unreadable)
    (cond (is_unreadable constraints) (Refused constraints_unreadable)
    (judged (list_of references) (list_of san) (list_of subject) (list_of constraints))))))

-- ---- the six numbers

-- "A verdict is five numbers: answer, reference index, presented index, start, length." 6/13: "The verdict record grows a sixth number,
-- the issuer's index, zero except with answer 2"
abbrev pub numbers : ℕ → ℕ → ℕ → ℕ → ℕ → ℕ → Verdict
numbers answer reference presented start size issuer =
    record { answer = answer; reference = reference; presented = presented; start = start; length = size; issuer = issuer }

-- the table of answers: "zeros", "presented index of the first that does; the rest zero", "the witnessing pair, and its
-- element's place"
unfoldable pub numbers_of : Outcome → Verdict
numbers_of (Refused answer) = numbers answer 0 0 0 0 0
numbers_of (Broken b) = numbers constraints_broken 0 b.presented 0 0 b.issuer
numbers_of (Matched w) = numbers match w.reference w.presented w.element.start w.element.length 0
numbers_of Mismatched = numbers mismatch 0 0 0 0 0

unfoldable pub verdict_of : Seen Reference → Seen GeneralName → Seen (Member Attribute) → Seen (List (Member GeneralName)) → Verdict
verdict_of references san subject constraints = numbers_of (outcome_of references san subject constraints)

-- ---- the witness's text, as a part of the certificate's own bytes

-- where the text lies in its string; zeros on any answer but 0
unfoldable pub witness_part : Outcome → Place
witness_part (Refused answer) = record { start = 0; length = 0 }
witness_part (Broken b) = record { start = 0; length = 0 }
witness_part (Matched w) = w.text
witness_part Mismatched = record { start = 0; length = 0 }

-- the numbers and the text's place side by side
abbrev pub with_place : Verdict → Place → VerdictNumbers
with_place v text = record {
  answer = v.answer;
  reference = v.reference;
  presented = v.presented;
  start = v.start;
  length = v.length;
  issuer = v.issuer;
  text_start = text.start;
  text_length = text.length;
}

-- all numbers that one outcome gives
unfoldable pub all_numbers : Outcome → VerdictNumbers
all_numbers o = with_place (numbers_of o) (witness_part o)

-- "On any answer but 0 that part is empty"
unfoldable pub witness_text : List ℕ → List ℕ → Outcome → List ℕ
witness_text san subject (Refused answer) = []
witness_text san subject (Broken b) = []
witness_text san subject (Matched w) = part (cond w.subject subject san) w.text.start w.text.length
witness_text san subject Mismatched = []

-- some bytes past a place; a place in memory is a block and an offset in it
abbrev pub past : ℕ × ℕ → ℕ → ℕ × ℕ
past p n = (p.0, n + p.1)

-- ".. at the start of the SAN": where the part lies, by where the SAN and the subject lie
unfoldable pub witness_place : ℕ × ℕ → ℕ × ℕ → Outcome → ℕ × ℕ
witness_place san subject (Refused answer) = san
witness_place san subject (Broken b) = san
witness_place san subject (Matched w) = past (cond w.subject subject san) w.text.start
witness_place san subject Mismatched = san
