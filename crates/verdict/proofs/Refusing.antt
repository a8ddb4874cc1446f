-- The refusals in their order: what the code decides is what the rules say of the four inputs.
use Prim.Native.Nat.{ℕ, ◌≤◌}
use mathlib.Core.Path.{◌≡◌, refl, sym, ap, ◌∙◌}
use mathlib.Core.Bool.{Bool, true, false, cond, not, ◌||◌}
use mathlib.Core.Option.{none, some}
use mathlib.Core.List.{List, [], map}
use native.Mathlib.Omega.{arith}
use lib.ListN.{length}
use lib.Dec.{ltb}
use borrow.Author.Tests.{ltb-false}
use Rattle.rules.proofs.Cases.{by_cases}
use Rattle.rules.specs.Bytes.{any}
use Rattle.rules.specs.Numbers.{san_limit, subject_limit, constraints_limit, records_limit, answer_of}
use Rattle.rules.specs.Records.{good_records, references_of}
use Rattle.rules.specs.Seen.{together, lengths_fit, strings_by, seen_records, san_input, subject_input, constraints_input}
use Rattle.rules.specs.Verdict.{is_long, is_unreadable, list_of, judged, outcome_of}
use Rattle.std.specs.Prelude.{Result, Ok, Err}
use Rattle.rules.specs.declared.Refusal.{Refusal}
use Rattle.rules.specs.declared.Refusal.TheVariants.{InputTooLong, RecordsUnreadable, SanUnreadable, SubjectUnreadable, ConstraintsUnreadable}
use Rattle.rules.specs.declared.Outcome.{Outcome}
use Rattle.rules.specs.declared.Outcome.TheVariants.{Refused}
use Rattle.reading.specs.Reader.{read_element}
use Rattle.reading.specs.Strings.{read_san, read_subject, read_constraints, read_sides}
use Rattle.reading.specs.Views.{seen_san, seen_subject, seen_constraints}
use Rattle.reading.specs.Calls.{inputs, seen_issuers, outcome_on}
use Rattle.der.specs.Runs.{validated, names_of}
use Rattle.issuers.specs.Strings.{strings_in, fit_strings, fit_cut, fit_sizes, wrong_strings}
use Rattle.verdict.specs.Judging.{constraints_long, any_long, subject_read, constraints_read, first_refusal}
use Rattle.verdict.proofs.Views.{records_long, records_bad, records_list, string_long, optional_bad, optional_list, needed_bad, needed_list, strings_long, strings_bad, strings_list}

-- no test of four passes
none_of : (a b c d : Bool) → (a || b || c || d) ≡ false → (a ≡ false) × (b ≡ false) × (c ≡ false) × (d ≡ false)
none_of false false false false e = (refl, refl, refl, refl)
none_of true b c d e = let z : ◌≡◌ {A = ℕ} 0 1 = cc in absurd (omega arith)
none_of false true c d e = let z : ◌≡◌ {A = ℕ} 0 1 = cc in absurd (omega arith)
none_of false false true d e = let z : ◌≡◌ {A = ℕ} 0 1 = cc in absurd (omega arith)
none_of false false false true e = let z : ◌≡◌ {A = ℕ} 0 1 = cc in absurd (omega arith)

no_san : read_san [] ≡ none
unfolding read_san read_element
no_san = refl

no_constraints : read_constraints [] ≡ none
unfolding read_constraints read_sides read_element
no_constraints = refl

-- ---- the constraints of all issuers, by the tests that the code makes

module _ (C L : List ℕ) where
  -- where the lengths fit, each string is seen by itself
  seen_strings : lengths_fit L (length C) ≡ true → seen_issuers (some L) C ≡ together (map seen_constraints (strings_in L C))
  unfolding seen_issuers strings_by
  seen_strings e = rw (fit_strings L C e, fit_cut L C e)

  wrong_long : lengths_fit L (length C) ≡ false → is_long (seen_issuers (some L) C) ≡ true
  unfolding seen_issuers strings_by
  wrong_long e = rw (wrong_strings L C e)

  pub issuers_long : is_long (seen_issuers (some L) C) ≡ constraints_long L (length C)
  unfolding constraints_long seen_constraints
  issuers_long =
      by_cases (lengths_fit L (length C))
      (λ e. ap is_long (seen_strings e) ∙ strings_long constraints_input read_constraints (strings_in L C) ∙ rw (fit_sizes L C e, e))
      (λ e. wrong_long e ∙ rw e)

  module _ (short : constraints_long L (length C) ≡ false) where
    fit_parts : (f g : Bool) → (not f || g) ≡ false → (f ≡ true) × (g ≡ false)
    fit_parts true g e = (refl, e)
    fit_parts false g e = let z : ◌≡◌ {A = ℕ} 0 1 = cc in absurd (omega arith)

    pub short_fit : lengths_fit L (length C) ≡ true
    unfolding constraints_long
    short_fit = (fit_parts (lengths_fit L (length C)) (any (ltb constraints_limit) L) short).0

    none_long : any (ltb constraints_limit) (map length (strings_in L C)) ≡ false
    unfolding constraints_long
    none_long = rw (fit_sizes L C short_fit) (fit_parts (lengths_fit L (length C)) (any (ltb constraints_limit) L) short).1

    pub issuers_bad : is_unreadable (seen_issuers (some L) C) ≡ not (constraints_read C L)
    unfolding constraints_read seen_constraints
    issuers_bad = ap is_unreadable (seen_strings short_fit) ∙ strings_bad constraints_input read_constraints refl (strings_in L C) none_long

    pub issuers_list : constraints_read C L ≡ true → list_of (seen_issuers (some L) C) ≡ map (names_of read_constraints) (strings_in L C)
    unfolding constraints_read seen_constraints
    issuers_list r = ap list_of (seen_strings short_fit) ∙ strings_list constraints_input read_constraints refl no_constraints (strings_in L C) none_long r

-- ---- all four inputs

module _ (R S J C L : List ℕ) where
  abbrev pub whole : Outcome
  whole = outcome_on (inputs S J C (some L) R)

  -- the outcome of inputs that are all read
  abbrev pub of_names : Outcome
  of_names = judged (references_of R) (names_of read_san S) (names_of read_subject J) (map (names_of read_constraints) (strings_in L C))

  -- all four inputs are read
  pub record AllRead : Type 0 where
    pub short : any_long R S J C L ≡ false
    pub good : good_records R ≡ true
    pub san : validated read_san S ≡ true
    pub subject : subject_read J ≡ true
    pub constraints : constraints_read C L ≡ true

  long_is : (is_long (seen_records R) || is_long (seen_san S) || is_long (seen_subject J) || is_long (seen_issuers (some L) C)) ≡ any_long R S J C L
  unfolding any_long seen_san seen_subject
  long_is = rw (records_long R, string_long san_input read_san S, string_long subject_input read_subject J, issuers_long C L)

  module _ (short : any_long R S J C L ≡ false) where
    sizes : (ltb records_limit (length R) ≡ false) × (ltb san_limit (length S) ≡ false) × (ltb subject_limit (length J) ≡ false) × (constraints_long L (length C) ≡ false)
    unfolding any_long
    sizes = none_of (ltb records_limit (length R)) (ltb san_limit (length S)) (ltb subject_limit (length J)) (constraints_long L (length C)) short

    pub sizes_fit : (length R ≤ records_limit) × (length S ≤ san_limit) × (length J ≤ subject_limit)
    sizes_fit = (ltb-false _ _ sizes.0, ltb-false _ _ sizes.1, ltb-false _ _ sizes.2)

    pub lengths_fit_lem : lengths_fit L (length C) ≡ true
    lengths_fit_lem = short_fit C L sizes.3

    records_is : is_unreadable (seen_records R) ≡ not (good_records R)
    records_is = records_bad R sizes.0

    san_is : is_unreadable (seen_san S) ≡ not (validated read_san S)
    unfolding seen_san
    san_is = optional_bad san_input read_san S sizes.1 refl

    subject_is : is_unreadable (seen_subject J) ≡ not (subject_read J)
    unfolding seen_subject subject_read
    subject_is = needed_bad subject_input read_subject J sizes.2 refl

    constraints_is : is_unreadable (seen_issuers (some L) C) ≡ not (constraints_read C L)
    constraints_is = issuers_bad C L sizes.3

    -- the four lists
    lists : good_records R ≡ true → constraints_read C L ≡ true
        → judged (list_of (seen_records R)) (list_of (seen_san S)) (list_of (seen_subject J)) (list_of (seen_issuers (some L) C)) ≡ of_names
    unfolding seen_san seen_subject names_of
    lists g c =
        rw (
          records_list R sizes.0 g,
          optional_list san_input read_san S sizes.1 refl no_san,
          needed_list subject_input read_subject J sizes.2 refl,
          issuers_list C L sizes.3 c,
        )

  -- the outcome, by the refusal that comes first
  abbrev By : Result (Unit {0}) Refusal → Type 0
  By (Ok u) = AllRead × (whole ≡ of_names)
  By (Err refusal) = Refused (answer_of refusal) ≡ whole

  by : By (first_refusal R S J C L)
  unfolding first_refusal outcome_on outcome_of
  by = go (any_long R S J C L) (good_records R) (validated read_san S) (subject_read J) (constraints_read C L) refl refl refl refl refl
    where
      go : (t g a b c : Bool) → any_long R S J C L ≡ t → good_records R ≡ g → validated read_san S ≡ a → subject_read J ≡ b → constraints_read C L ≡ c
          → By (cond t (Err InputTooLong) (cond (not g) (Err RecordsUnreadable) (cond (not a) (Err SanUnreadable) (cond (not b) (Err SubjectUnreadable) (cond (not c) (Err ConstraintsUnreadable) (Ok tt))))))
      go true g a b c et eg ea eb ec = rw (long_is, et)
      go false false a b c et eg ea eb ec = rw (long_is, et, records_is et, eg)
      go false true false b c et eg ea eb ec = rw (long_is, et, records_is et, eg, san_is et, ea)
      go false true true false c et eg ea eb ec = rw (long_is, et, records_is et, eg, san_is et, ea, subject_is et, eb)
      go false true true true false et eg ea eb ec = rw (long_is, et, records_is et, eg, san_is et, ea, subject_is et, eb, constraints_is et, ec)
      go false true true true true et eg ea eb ec = (
        record { short = et; good = eg; san = ea; subject = eb; constraints = ec },
        rw (long_is, et, records_is et, eg, san_is et, ea, subject_is et, eb, constraints_is et, ec) (lists et eg ec),
      )

  module _ (r : Result (Unit {0}) Refusal) (r_is : r ≡ first_refusal R S J C L) where
    pub refused_is : (refusal : Refusal) → r ≡ Err refusal → Refused (answer_of refusal) ≡ whole
    refused_is refusal e = rw (sym r_is ∙ e) at by

    module _ (u : Unit {0}) (e : r ≡ Ok u) where
      pub all_read : AllRead
      all_read = (rw (sym r_is ∙ e) at by).0

      pub judged_is : whole ≡ of_names
      judged_is = (rw (sym r_is ∙ e) at by).1
