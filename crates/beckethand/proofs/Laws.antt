-- The lengths that C hands over; and a number of a result that is equal to what the rules say is that number of theirs.
use Prim.Native.Nat.{ℕ, ◌≤◌}
use mathlib.Core.Path.{◌≡◌, refl, sym, ap, ◌∙◌}
use mathlib.Core.Bool.{Bool, true, false, cond, ◌||◌}
use mathlib.Core.List.{List}
use mathlib.Core.Option.{Option, some}
use native.Mathlib.Omega.{arith}
use lib.Dec.{eqb}
use lib.Seq.{length-take-le}
use Rattle.rules.specs.Numbers.{san_limit}
use Rattle.rules.specs.Seen.{Seen, too_long, unreadable, listed, lengths_from_c, strings_of, strings_by}
use Rattle.rules.specs.Verdict.{numbers_of, witness_part, with_place, all_numbers}
use Rattle.rules.specs.Viewer.{opening_of, view_numbers}
use Rattle.rules.specs.declared.Row.{Row}
use Rattle.rules.specs.declared.Verdict.{Verdict}
use Rattle.rules.specs.declared.Place.{Place}
use Rattle.rules.specs.declared.VerdictNumbers.{VerdictNumbers}
use Rattle.rules.specs.declared.Outcome.{Outcome}
use Rattle.rules.specs.declared.Shown.{Shown}
use Rattle.rules.specs.declared.View.{View}
use Rattle.rules.specs.declared.ViewNumbers.{ViewNumbers}
use Rattle.reading.specs.Calls.{Inputs, inputs, seen_issuers, outcome_on, refusal_of, seen_rows, opening_on}
use Rattle.verdict.specs.Judging.{numbers_are_small, place_is_small}

-- ---- the outcome, by the lengths that C hands over

module _ (S J C R : List ℕ) where
  -- of the lengths an outcome depends on the strings that they cut, and on nothing else
  pub same_strings : (l m : Option (List ℕ)) → strings_by l C ≡ strings_by m C → outcome_on (inputs S J C l R) ≡ outcome_on (inputs S J C m R)
  unfolding outcome_on seen_issuers
  same_strings l m e = rw e

  pub outcome_by_lem : (b l : List ℕ) → ((bytes : List ℕ) → strings_of l bytes ≡ strings_by (lengths_from_c b) bytes)
      → (o : Outcome) → o ≡ outcome_on (inputs S J C (some l) R) → o ≡ outcome_on (inputs S J C (lengths_from_c b) R)
  unfolding strings_by
  outcome_by_lem b l e o f = f ∙ same_strings (some l) (lengths_from_c b) (e C)

module _ (i : Inputs) (o : Outcome) (o_is : o ≡ outcome_on i) where
  -- all numbers are those of one outcome
  pub all_by : (v : Verdict) → v ≡ numbers_of o → (p : Place) → p ≡ witness_part o → (r : VerdictNumbers) → r ≡ with_place v p → r ≡ all_numbers (outcome_on i)
  unfolding all_numbers
  all_by v e p f r g = g ∙ rw (e, f, o_is)

pub with_place_lem : (v : Verdict) (p : Place) (a b c d l k t n : ℕ)
    → a ≡ v.answer → b ≡ v.reference → c ≡ v.presented → d ≡ v.start → l ≡ v.length → k ≡ v.issuer → t ≡ p.start → n ≡ p.length
    → record { answer = a; reference = b; presented = c; start = d; length = l; issuer = k; text_start = t; text_length = n } ≡ with_place v p
with_place_lem v p a b c d l k t n ea eb ec ed el ek et en = rw (ea, eb, ec, ed, el, ek, et, en)

-- ---- one number

module _ (s t : Shown) (e : s ≡ t) (n : ℕ) where
  pub record_answer_of : n ≡ s.answer → n ≡ t.answer
  record_answer_of f = f ∙ ap (λ (x : Shown). x.answer) e

  pub kind_of_lem : n ≡ s.kind → n ≡ t.kind
  kind_of_lem f = f ∙ ap (λ (x : Shown). x.kind) e

  pub service_of_lem : n ≡ s.service → n ≡ t.service
  service_of_lem f = f ∙ ap (λ (x : Shown). x.service) e

  pub domain_of_lem : n ≡ s.domain → n ≡ t.domain
  domain_of_lem f = f ∙ ap (λ (x : Shown). x.domain) e

-- ---- the viewer

-- an opening's answer is small
pub opening_small : (which : ℕ) (s : List ℕ) (n : ℕ) → n ≡ opening_on which s → n ≤ san_limit
unfolding opening_of refusal_of
opening_small which s n e = go (eqb which 0) (eqb which 1) (seen_rows which s) e
  where
    go : (t u : Bool) (x : Seen Row) → n ≡ opening_of (cond t 3 (cond u 4 5)) x → n ≤ san_limit
    go t u too_long e = omega arith
    go t u (listed rows) e = omega arith
    go true u unreadable e = omega arith
    go false true unreadable e = omega arith
    go false false unreadable e = omega arith

pub numbers_same : (v w : View) → v ≡ w → (n : ViewNumbers) → n ≡ view_numbers v → n ≡ view_numbers w
numbers_same v w e n f = f ∙ ap view_numbers e

pub ruleset laws = (
  length-take-le,
  outcome_by_lem,
  numbers_are_small,
  place_is_small,
  all_by,
  with_place_lem,
  record_answer_of,
  kind_of_lem,
  service_of_lem,
  domain_of_lem,
  opening_small,
  numbers_same,
)
