-- The desk examples that are refused: no list is written as these bytes.
use Prim.Native.Nat.{ℕ, zero, suc, ◌≤◌, ◌<◌}
use mathlib.Core.Path.{◌≡◌, refl, ap, ◌∙◌}
use mathlib.Core.Option.{some, some-injective}
use mathlib.Core.List.{List, [], ◌∷◌, map}
use mathlib.Core.Logic.{inr}
use native.Mathlib.Omega.{arith}
use lib.ListN.{length, get_elem?}
use lib.Dec.{T, leb, leb→le}
use Rattle.rules.specs.Numbers.{constraints_limit, records_limit, most_issuers}
use Rattle.rules.specs.Records.{good_records}
use Rattle.rules.specs.Bytes
use Rattle.rules.specs.Bytes.{all}
use Rattle.rules.specs.Names
use Rattle.rules.specs.Der.{run}
use Rattle.rules.specs.San
use Rattle.rules.specs.Constraints
use Rattle.rules.specs.Verdict.{numbers}
use Rattle.rules.specs.Listing.{rows_seen}
use Rattle.rules.specs.Viewer.{opening_of}
use Rattle.rules.specs.Seen.{unreadable, listed, san_input, subject_input, constraints_input, Sees}
use Rattle.rules.proofs.Text.{hex}
use Rattle.rules.proofs.Marked.{j, j_names}
use Rattle.reading.specs.Answers.{no_some, and_parts}
use Rattle.reading.specs.Reader
use Rattle.reading.specs.Strings
use Rattle.reading.specs.Views
use Rattle.reading.specs.Views.{seen_san, seen_subject, seen_constraints}
use Rattle.reading.proofs.Views.{sees_san, sees_subject, sees_constraints}
use Rattle.reading.specs.Calls.{Inputs, inputs, verdict_on, refusal_of, seen_rows, opening_on}
use Rattle.demands.specs.Statements.{Unreadable}
use Rattle.demands.proofs.Strings.{Within}
use Rattle.demands.proofs.Endings.{fits_not_long}
use Rattle.demands.proofs.Demands.{demand1}

-- "SAN `30 81 05 82 03 61 2E 62` and `30 00`: answer 3": a length that is not shortest, and no name
abbrev pub long_form : List ℕ
long_form = hex "30 81 05 82 03 61 2E 62"

abbrev pub no_element : List ℕ
no_element = hex "30 00"

-- 2/13: "restriction texts (5)": constraints that permit `_m.7`
abbrev pub address_restriction : List ℕ
address_restriction = hex "30 18 A0 16 30 14 A0 12 06 08 2B 06 01 05 05 07 08 07 A0 06 16 04 5F 6D 2E 37"

-- 6/13: "any other text must be a domain, else 5": constraints that permit the dNSName `.b`; those that permit `c`; and the byte `30` alone
abbrev pub dotted_restriction : List ℕ
dotted_restriction = hex "30 08 A0 06 30 04 82 02 2E 62"

abbrev pub permits_c : List ℕ
permits_c = hex "30 07 A0 05 30 03 82 01 63"

abbrev pub cut_short : List ℕ
cut_short = hex "30"

-- ---- what is seen of them

pub san_long_form : Sees san_input long_form unreadable
unfolding seen_san Views.seen_of Strings.read_san Reader.read_element Reader.read_length Reader.content_after Reader.long1
san_long_form = sees_san long_form

pub san_no_name : Sees san_input no_element unreadable
unfolding seen_san Views.seen_of Strings.read_san Reader.read_element Reader.read_length Reader.content_after Reader.read_items
san_no_name = sees_san no_element

pub constraints_no_side : Sees constraints_input no_element unreadable
unfolding seen_constraints Views.seen_of Strings.read_constraints Strings.read_sides Reader.read_element Reader.read_length Reader.content_after Reader.read_items
constraints_no_side = sees_constraints no_element

pub constraints_address : Sees constraints_input address_restriction unreadable
unfolding seen_constraints Views.seen_of Strings.read_constraints Strings.read_sides Strings.read_side Strings.read_subtree Strings.read_name Strings.name_of Reader.read_element Reader.read_length Reader.content_after Reader.read_items San.good_name San.good_srv_name San.good_value San.sealed Constraints.good_restriction Bytes.same Bytes.begins Bytes.before Bytes.after Bytes.ascii Names.restriction Names.service Names.service_of Names.domain_of Names.srv_id Names.domain Names.labels Names.longer Names.last_of Names.label Names.ldh Names.letter_digit_hyphen Names.letter Names.digit
constraints_address = sees_constraints address_restriction

pub constraints_dotted : Sees constraints_input dotted_restriction unreadable
unfolding seen_constraints Views.seen_of Strings.read_constraints Strings.read_sides Strings.read_side Strings.read_subtree Strings.read_name Strings.name_of Reader.read_element Reader.read_length Reader.content_after Reader.read_items San.good_name San.sealed Constraints.good_restriction Bytes.ascii Names.dns_restriction Names.domain Names.labels Names.longer Names.last_of Names.label Names.ldh Names.letter_digit_hyphen Names.letter Names.digit
constraints_dotted = sees_constraints dotted_restriction

pub constraints_cut_short : Sees constraints_input cut_short unreadable
unfolding seen_constraints Views.seen_of Strings.read_constraints Strings.read_sides Reader.read_element Reader.read_length Reader.content_after
constraints_cut_short = sees_constraints cut_short

-- but a subject may have no set; "It is never absent: an empty string is unreadable"
pub subject_no_set : Sees subject_input no_element (listed [])
unfolding seen_subject Views.seen_of Strings.read_subject Strings.read_sets Strings.number_from Strings.flat Reader.read_element Reader.read_length Reader.content_after Reader.read_items
subject_no_set = sees_subject no_element

pub subject_empty : Sees subject_input [] unreadable
unfolding seen_subject Views.seen_of Strings.read_subject Strings.read_sets Reader.read_element
subject_empty = sees_subject []

-- J is a subject of one CN
pub subject_j : Sees subject_input j (listed j_names)
unfolding seen_subject Views.seen_of Strings.read_subject Strings.read_sets Strings.read_set Strings.read_attribute Strings.number_from Strings.flat Reader.read_element Reader.read_length Reader.content_after Reader.read_items San.good_value San.sealed
subject_j = sees_subject j

-- ---- 3/13: how a viewer opens them, as the SAN, the subject and the constraints; an absent string is opened

pub openings_no_element : (opening_on 0 no_element ≡ 3) × (opening_on 1 no_element ≡ 0) × (opening_on 2 no_element ≡ 5)
unfolding refusal_of seen_rows rows_seen opening_of seen_san seen_subject seen_constraints Views.seen_of Strings.read_san Strings.read_subject Strings.read_sets Strings.number_from Strings.flat Strings.read_constraints Strings.read_sides Reader.read_element Reader.read_length Reader.content_after Reader.read_items
openings_no_element = (refl, refl, refl)

pub openings_empty : (opening_on 0 [] ≡ 0) × (opening_on 1 [] ≡ 4) × (opening_on 2 [] ≡ 0)
unfolding refusal_of seen_rows rows_seen opening_of seen_san seen_subject seen_constraints Views.seen_of Strings.read_subject Strings.read_sets Reader.read_element
openings_empty = (refl, refl, refl)

-- ---- the answers, whatever our records are, if they are good

-- strings that are short enough, by a test
each_fits : (strings : List (List ℕ)) → T (all (λ string. leb (length string) constraints_limit) strings)
    → (k : ℕ) (string : List ℕ) → get_elem? strings k ≡ some string → length string ≤ constraints_limit
each_fits [] h k string e = absurd (no_some e)
each_fits (s ∷ l) h zero string e =
    rw (← some-injective s string e) (leb→le (length s) constraints_limit (and_parts (leb (length s) constraints_limit) _ h).0)
each_fits (s ∷ l) h (suc k) string e = each_fits l (and_parts (leb (length s) constraints_limit) _ h).1 k string e

module _ (references : List ℕ) (fits : length references ≤ records_limit) (good : T (good_records references)) where
  -- the examples' certificate, but for the string that is named; the constraints of each issuer are one string
  abbrev certificate : List ℕ → List ℕ → List (List ℕ) → Inputs
  certificate san subject constraints = inputs san subject (run (λ string. string) constraints) (some (map length constraints)) references

  within : (san subject : List ℕ) (constraints : List (List ℕ)) → length constraints ≤ most_issuers
      → T (all (λ string. leb (length string) constraints_limit) constraints) → Within (certificate san subject constraints)
  within san subject constraints few h = record {
    strings = constraints;
    strings_are = record { end_to_end = refl; lengths_are = refl; at_most_eight = few };
    each = each_fits constraints h;
  }

  readable : ¬ (¬ T (good_records references))
  readable h = h good

  -- an answer but 0 and 2 is all there is
  only : (s : Inputs) (n : ℕ) → (verdict_on s).answer ≡ n → 2 < n → verdict_on s ≡ numbers n 0 0 0 0 0
  only s n e h = (demand1.verdict s).zeros (λ z. omega arith) (λ z. omega arith) ∙ ap (λ x. numbers x 0 0 0 0 0) e

  -- a SAN that is unreadable beside J is 3
  unread_san : (san : List ℕ) → Sees san_input san unreadable → verdict_on (certificate san j []) ≡ numbers 3 0 0 0 0 0
  unread_san san u =
      let s = certificate san j [] in
      let short = fits_not_long s (record { references = fits; san = u.0; subject = omega arith; constraints = within san j [] (omega arith) tt }) in
      only s 3 ((demand1.verdict s).order.1.1.0.1 (u.1, (readable, (short, tt)))) (omega arith)

  pub long_form_answer : verdict_on (certificate long_form j []) ≡ numbers 3 0 0 0 0 0
  long_form_answer = unread_san long_form san_long_form

  pub no_name_answer : verdict_on (certificate no_element j []) ≡ numbers 3 0 0 0 0 0
  no_name_answer = unread_san no_element san_no_name

  absent_san : ¬ Unreadable san_input []
  absent_san u = u [] (inr (tt, refl, refl))

  pub empty_subject_answer : verdict_on (certificate [] [] []) ≡ numbers 4 0 0 0 0 0
  empty_subject_answer =
      let s = certificate [] [] [] in
      let short = fits_not_long s (record { references = fits; san = omega arith; subject = omega arith; constraints = within [] [] [] (omega arith) tt }) in
      only s 4 ((demand1.verdict s).order.1.1.1.0.1 (subject_empty.1, (absent_san, (readable, (short, tt))))) (omega arith)

  -- one string of constraints that is unreadable, beside J and others that are short enough, is 5
  unread_constraints : (strings : List (List ℕ)) → length strings ≤ most_issuers → T (all (λ string. leb (length string) constraints_limit) strings)
      → (k : ℕ) (string : List ℕ) → get_elem? strings k ≡ some string → Unreadable constraints_input string
      → verdict_on (certificate [] j strings) ≡ numbers 5 0 0 0 0 0
  unfolding within
  unread_constraints strings few h k string at u =
      let s = certificate [] j strings in
      let w = within [] j strings few h in
      let short = fits_not_long s (record { references = fits; san = omega arith; subject = omega arith; constraints = w }) in
      only s 5 ((demand1.verdict s).order.1.1.1.1.0.1 ((w.strings, w.strings_are, k, string, at, u), ((λ v. v j_names subject_j.1), (absent_san, (readable, (short, tt)))))) (omega arith)

  pub no_side_answer : verdict_on (certificate [] j (no_element ∷ [])) ≡ numbers 5 0 0 0 0 0
  no_side_answer = unread_constraints (no_element ∷ []) (omega arith) tt 0 no_element refl constraints_no_side.1

  pub address_answer : verdict_on (certificate [] j (address_restriction ∷ [])) ≡ numbers 5 0 0 0 0 0
  address_answer = unread_constraints (address_restriction ∷ []) (omega arith) tt 0 address_restriction refl constraints_address.1

  -- 6/13: a leading dot; and `c` permitted, then `30`
  pub dotted_answer : verdict_on (certificate [] j (dotted_restriction ∷ [])) ≡ numbers 5 0 0 0 0 0
  dotted_answer = unread_constraints (dotted_restriction ∷ []) (omega arith) tt 0 dotted_restriction refl constraints_dotted.1

  pub cut_short_answer : verdict_on (certificate [] j (permits_c ∷ cut_short ∷ [])) ≡ numbers 5 0 0 0 0 0
  cut_short_answer = unread_constraints (permits_c ∷ cut_short ∷ []) (omega arith) tt 1 cut_short refl constraints_cut_short.1
