-- Whole calls, as functions of the bytes that they are handed, refused or not. The public contracts cite these names, and the
-- demands are about them.
use Rattle.std.specs.Prelude.{ℕ, cond, List, map, eqb}
use Rattle.std.proofs.Math.Option.{Option, none, some}
use Rattle.rules.specs.Numbers.{san_unreadable, subject_unreadable, constraints_unreadable}
use Rattle.rules.specs.Der.{Member}
use Rattle.rules.specs.San.{GeneralName, san_grammar}
use Rattle.rules.specs.Subject.{subject_grammar}
use Rattle.rules.specs.Constraints.{constraints_grammar}
use Rattle.rules.specs.Seen.{Seen, too_long, strings_by, together, seen_records}
use Rattle.rules.specs.Verdict.{outcome_of, verdict_of, witness_part, witness_text, witness_place}
use Rattle.rules.specs.Listing.{rows_seen, listed_of, table_after}
use Rattle.rules.specs.Viewer.{view_of, opening_of}
use Rattle.rules.specs.declared.Row.{Row}
use Rattle.rules.specs.declared.Listed.{Listed}
use Rattle.rules.specs.declared.View.{View}
use Rattle.rules.specs.declared.Place.{Place}
use Rattle.rules.specs.declared.Verdict.{Verdict}
use Rattle.rules.specs.declared.Outcome.{Outcome}
use Rattle.reading.specs.Views.{seen_san, seen_subject, seen_constraints}

-- ---- the verdict and its witness

-- "It hands over four byte strings": any bytes at all. The constraints are those of all issuers, end to end; their lengths are any
-- numbers, or none at all, where C hands over an odd count of bytes
pub record Inputs : Type 0 where
  pub san : List ℕ
  pub subject : List ℕ
  pub constraints : List ℕ
  pub lengths : Option (List ℕ)
  pub references : List ℕ

abbrev pub inputs : List ℕ → List ℕ → List ℕ → Option (List ℕ) → List ℕ → Inputs
inputs san subject constraints lengths references =
    record { san = san; subject = subject; constraints = constraints; lengths = lengths; references = references }

-- what is seen of the constraints of all issuers: wrong lengths are too long
abbrev pub seen_all : Option (List (List ℕ)) → Seen (List (Member GeneralName))
seen_all none = too_long
seen_all (some strings) = together (map seen_constraints strings)

unfoldable pub seen_issuers : Option (List ℕ) → List ℕ → Seen (List (Member GeneralName))
seen_issuers lengths constraints = seen_all (strings_by lengths constraints)

-- how the verdict ends
unfoldable pub outcome_on : Inputs → Outcome
outcome_on i =
    outcome_of (seen_records i.references) (seen_san i.san) (seen_subject i.subject) (seen_issuers i.lengths i.constraints)

-- its numbers
unfoldable pub verdict_on : Inputs → Verdict
verdict_on i =
    verdict_of (seen_records i.references) (seen_san i.san) (seen_subject i.subject) (seen_issuers i.lengths i.constraints)

-- the witness's text; where it lies in its string; and where in memory, by where the SAN and the subject lie
unfoldable pub witness_text_on : Inputs → List ℕ
witness_text_on i = witness_text i.san i.subject (outcome_on i)

unfoldable pub witness_part_on : Inputs → Place
witness_part_on i = witness_part (outcome_on i)

unfoldable pub witness_place_on : Inputs → ℕ × ℕ → ℕ × ℕ → ℕ × ℕ
witness_place_on i san subject = witness_place san subject (outcome_on i)

-- ---- the listing: `which` is 0 for the SAN, 1 for the subject, any other number for the constraints

-- "3, 4 or 5": the answer where that string is unreadable
unfoldable pub refusal_of : ℕ → ℕ
refusal_of which = cond (eqb which 0) san_unreadable (cond (eqb which 1) subject_unreadable constraints_unreadable)

-- the rows of what is seen of that string
unfoldable pub seen_rows : ℕ → List ℕ → Seen Row
seen_rows which b =
    cond (eqb which 0) (rows_seen san_grammar (seen_san b))
    (cond (eqb which 1) (rows_seen subject_grammar (seen_subject b)) (rows_seen constraints_grammar (seen_constraints b)))

-- answer and count, by the bytes and the number of rows lent
unfoldable pub listing_on : ℕ → List ℕ → ℕ → Listed
listing_on which bytes lent = listed_of (refusal_of which) (seen_rows which bytes) lent

-- the lent table afterwards
unfoldable pub table_on : ℕ → List ℕ → List Row → List Row
table_on which bytes table = table_after (seen_rows which bytes) table

-- ---- the viewer of that string

-- what an opening answers
abbrev pub opening_on : ℕ → List ℕ → ℕ
opening_on which bytes = opening_of (refusal_of which) (seen_rows which bytes)

-- what a step from a position shows, and the position after it
abbrev pub view_on : ℕ → List ℕ → ℕ → View
view_on which bytes = view_of (seen_rows which bytes)
