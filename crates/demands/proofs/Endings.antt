-- How a verdict ends: the first condition that holds, and the numbers it gives.
use Prim.Native.Nat.{ℕ, ◌≤◌, ◌<◌}
use mathlib.Core.Path.{◌≡◌, refl, sym, ◌∙◌}
use mathlib.Core.Logic.{◌⊎◌, inl, inr}
use mathlib.Core.Bool.{Bool, true, false, ◌||◌}
use mathlib.Core.List.{List}
use native.Mathlib.Omega.{arith}
use native.Mathlib.Decide.{dec_lt}
use lib.ListN.{length}
use Rattle.rules.specs.Numbers.{records_limit, san_limit, subject_limit}
use Rattle.rules.specs.Records.{Reference, good_records, references_of}
use Rattle.rules.specs.Der.{Member}
use Rattle.rules.specs.San.{GeneralName}
use Rattle.rules.specs.Subject.{Attribute}
use Rattle.rules.specs.Seen.{Seen, too_long, unreadable, listed, san_input, subject_input, constraints_input, Reads, seen_records}
use Rattle.rules.specs.Verdict.{is_long, is_unreadable, judged, outcome_of, numbers, numbers_of, verdict_of}
use Rattle.reading.specs.Views.{seen_san, seen_subject}
use Rattle.reading.specs.Calls.{Inputs, seen_issuers, outcome_on, verdict_on}
use Rattle.demands.specs.Statements.{TooLong, RecordsUnreadable, Unreadable, SomeString, Names, Read}
use Rattle.demands.proofs.Looked.{seen_long, seen_listed, seen_fits, read_or_not, unread, not_unread, same_list, one_list, records_long, records_bad, records_good, san_faithful, subject_faithful}
use Rattle.demands.proofs.Strings.{LongStrings, Within, within_not_long, listed_within, listed_readable, issuers_listed, Handed, long as long_strings, bad, all, handed}

-- ---- by what is seen

-- one of four tests is enough
or_four : (a b c d : Bool) → (a ≡ true) ⊎ (b ≡ true) ⊎ (c ≡ true) ⊎ (d ≡ true) → (a || b || c || d) ≡ true
or_four true b c d h = refl
or_four false true c d h = refl
or_four false false true d h = refl
or_four false false false true h = refl
or_four false false false false (inl e) = e
or_four false false false false (inr (inl e)) = e
or_four false false false false (inr (inr (inl e))) = e
or_four false false false false (inr (inr (inr e))) = e

module _ (R : Seen Reference) (S : Seen GeneralName) (U : Seen (Member Attribute)) (C : Seen (List (Member GeneralName))) where
  -- each refusal, where its test holds and no earlier one does
  seven : (is_long R || is_long S || is_long U || is_long C) ≡ true → numbers_of (outcome_of R S U C) ≡ numbers 7 0 0 0 0 0
  unfolding outcome_of numbers_of
  seven e = simp e

  module _ (fits : (is_long R || is_long S || is_long U || is_long C) ≡ false) where
    six : is_unreadable R ≡ true → numbers_of (outcome_of R S U C) ≡ numbers 6 0 0 0 0 0
    unfolding outcome_of numbers_of
    six a = simp (fits, a)

    three : is_unreadable R ≡ false → is_unreadable S ≡ true → numbers_of (outcome_of R S U C) ≡ numbers 3 0 0 0 0 0
    unfolding outcome_of numbers_of
    three a b = simp (fits, a, b)

    four : is_unreadable R ≡ false → is_unreadable S ≡ false → is_unreadable U ≡ true → numbers_of (outcome_of R S U C) ≡ numbers 4 0 0 0 0 0
    unfolding outcome_of numbers_of
    four a b c = simp (fits, a, b, c)

    five : is_unreadable R ≡ false → is_unreadable S ≡ false → is_unreadable U ≡ false → is_unreadable C ≡ true → numbers_of (outcome_of R S U C) ≡ numbers 5 0 0 0 0 0
    unfolding outcome_of numbers_of
    five a b c d = simp (fits, a, b, c, d)

-- ---- by the bytes

-- all four are within their limits
pub record Fits (s : Inputs) : Type 0 where
  pub references : length s.references ≤ records_limit
  pub san : length s.san ≤ san_limit
  pub subject : length s.subject ≤ subject_limit
  pub constraints : Within s

-- the first of document 01's conditions that holds; where none does, the names
pub data Ending (s : Inputs) : Type 0 where
  long : TooLong s → verdict_on s ≡ numbers 7 0 0 0 0 0 → Ending s
  records : Fits s → RecordsUnreadable s → verdict_on s ≡ numbers 6 0 0 0 0 0 → Ending s
  san : Fits s → ¬ RecordsUnreadable s → Unreadable san_input s.san → verdict_on s ≡ numbers 3 0 0 0 0 0 → Ending s
  subject : Fits s → ¬ RecordsUnreadable s → ¬ Unreadable san_input s.san → Unreadable subject_input s.subject → verdict_on s ≡ numbers 4 0 0 0 0 0 → Ending s
  constraints :
      Fits s → ¬ RecordsUnreadable s → ¬ Unreadable san_input s.san → ¬ Unreadable subject_input s.subject
      → SomeString s (Unreadable constraints_input) → verdict_on s ≡ numbers 5 0 0 0 0 0 → Ending s
  read : (l : Names) → Read s l → Ending s

-- the two are opposites, and one of them holds
pub fits_not_long : (s : Inputs) → Fits s → ¬ TooLong s
fits_not_long s f (inl h) = omega arith
fits_not_long s f (inr (inl h)) = omega arith
fits_not_long s f (inr (inr (inl h))) = omega arith
fits_not_long s f (inr (inr (inr h))) = within_not_long s f.constraints h

-- what is seen of the constraints
module _ (s : Inputs) where
  abbrev issuers : Seen (List (Member GeneralName))
  issuers = seen_issuers s.lengths s.constraints

  issuers_long : LongStrings s → is_long issuers ≡ true
  issuers_long h = go (handed s)
    where
      go : Handed s → is_long issuers ≡ true
      go (long_strings k e) = rw e
      go (bad w k e) = absurd (within_not_long s w h)
      go (all strings k ls t) = absurd (within_not_long s (listed_within s strings k ls t) h)

  issuers_fit : Within s → is_long issuers ≡ false
  issuers_fit w = go (handed s)
    where
      go : Handed s → is_long issuers ≡ false
      go (long_strings h e) = absurd (within_not_long s w h)
      go (bad v h e) = rw e
      go (all strings h ls t) = rw (issuers_listed s strings ls h t)

module _ (s : Inputs) where
  -- a string that is too long is seen so, and answered 7
  pub long_seen : TooLong s → verdict_on s ≡ numbers 7 0 0 0 0 0
  unfolding verdict_on verdict_of outcome_on
  long_seen h = seven _ _ _ _ (or_four _ _ _ _ (go h))
    where
      go : TooLong s → (is_long (seen_records s.references) ≡ true) ⊎ (is_long (seen_san s.san) ≡ true) ⊎ (is_long (seen_subject s.subject) ≡ true) ⊎ (is_long (issuers s) ≡ true)
      go (inl t) = inl (rw (records_long s.references t))
      go (inr (inl t)) = inr (inl (rw (seen_long san_faithful s.san t)))
      go (inr (inr (inl t))) = inr (inr (inl (rw (seen_long subject_faithful s.subject t))))
      go (inr (inr (inr t))) = inr (inr (inr (issuers_long s t)))

  long_or_fits : TooLong s ⊎ Fits s
  long_or_fits = go (dec_lt _ _) (dec_lt _ _) (dec_lt _ _) (handed s)
    where
      go : Dec (records_limit < length s.references) → Dec (san_limit < length s.san) → Dec (subject_limit < length s.subject) → Handed s → TooLong s ⊎ Fits s
      go (yes h) b c d = inl (inl h)
      go (no a) (yes h) c d = inl (inr (inl h))
      go (no a) (no b) (yes h) d = inl (inr (inr (inl h)))
      go (no a) (no b) (no c) (long_strings h e) = inl (inr (inr (inr h)))
      go (no a) (no b) (no c) (bad w h e) = inr (record { references = omega arith; san = omega arith; subject = omega arith; constraints = w })
      go (no a) (no b) (no c) (all strings h ls t) =
          inr (record { references = omega arith; san = omega arith; subject = omega arith; constraints = listed_within s strings h ls t })

  module _ (f : Fits s) where
    -- within the limits no string is seen as too long
    none_long : (is_long (seen_records s.references) || is_long (seen_san s.san) || is_long (seen_subject s.subject) || is_long (issuers s)) ≡ false
    none_long =
        rw (seen_fits san_faithful s.san f.san, seen_fits subject_faithful s.subject f.subject, issuers_fit s f.constraints) (go (good_records s.references) refl)
      where
        go : (t : Bool) → good_records s.references ≡ t → (is_long (seen_records s.references) || false || false || false) ≡ false
        go true e = rw (records_good s.references f.references e)
        go false e = rw (records_bad s.references f.references e)

    -- records that are good, and what is left to judge
    past_records : good_records s.references ≡ true → Ending s
    unfolding verdict_on verdict_of outcome_on
    past_records e = go (read_or_not san_faithful s.san f.san) (read_or_not subject_faithful s.subject f.subject) (handed s)
      where
        a : is_unreadable (seen_records s.references) ≡ false
        a = rw (records_good s.references f.references e)

        here : ¬ RecordsUnreadable s
        here h = h (rw e tt)

        go :
            Unreadable san_input s.san ⊎ ((l : List GeneralName) × Reads san_input s.san l)
            → Unreadable subject_input s.subject ⊎ ((l : List (Member Attribute)) × Reads subject_input s.subject l)
            → Handed s
            → Ending s
        go (inl b) U C = san f here b (three _ _ _ _ none_long a (unread san_faithful s.san f.san b))
        go (inr b) (inl c) C = subject f here (λ h. h b.0 b.1) c (four _ _ _ _ none_long a (not_unread san_faithful s.san f.san b) (unread subject_faithful s.subject f.subject c))
        go (inr b) (inr c) (long_strings h e) = absurd (within_not_long s f.constraints h)
        go (inr b) (inr c) (bad w d e) = constraints f here (λ h. h b.0 b.1) (λ h. h c.0 c.1) d (five _ _ _ _ none_long a (not_unread san_faithful s.san f.san b) (not_unread subject_faithful s.subject f.subject c) (rw e))
        go (inr b) (inr c) (all strings h ls t) =
            read (record { references = references_of s.references; san = b.0; subject = c.0; constraints = ls })
            (record {
              references_are = records_good s.references f.references e;
              san_is = (f.san, b.1);
              subject_is = (f.subject, c.1);
              strings = strings;
              strings_are = h;
              constraints_are = t;
            })

  -- every four strings end in one of these ways
  pub ending : Ending s
  unfolding verdict_on verdict_of outcome_on
  ending = go long_or_fits
    where
      past : (f : Fits s) (t : Bool) → good_records s.references ≡ t → Ending s
      past f true e = past_records f e
      past f false e = records f (rw e (λ h. h)) (six _ _ _ _ (none_long f) (rw (records_bad s.references f.references e)))

      go : TooLong s ⊎ Fits s → Ending s
      go (inl h) = long h (long_seen h)
      go (inr f) = past f (good_records s.references) refl

-- ---- where all are read

module _ (s : Inputs) (l : Names) (r : Read s l) where
  read_issuers : issuers s ≡ listed l.constraints
  read_issuers = issuers_listed s r.strings l.constraints r.strings_are r.constraints_are

  -- the names are what is judged
  pub outcome_of_names : outcome_on s ≡ judged l.references l.san l.subject l.constraints
  unfolding outcome_on outcome_of
  outcome_of_names =
      rw (r.references_are, seen_listed san_faithful s.san l.san r.san_is, seen_listed subject_faithful s.subject l.subject r.subject_is, read_issuers)

  -- and none of the refusals' conditions holds
  pub read_fits : Fits s
  read_fits = record { references = go (dec_lt _ _); san = r.san_is.0; subject = r.subject_is.0; constraints = listed_within s r.strings r.strings_are l.constraints r.constraints_are }
    where
      go : Dec (records_limit < length s.references) → length s.references ≤ records_limit
      go (yes h) =
          let e : too_long ≡ listed l.references = sym (records_long s.references h) ∙ r.references_are in
          let z : ◌≡◌ {A = ℕ} 0 1 = cc in
          omega arith
      go (no h) = omega arith

  pub read_records : ¬ RecordsUnreadable s
  read_records h = go (good_records s.references) refl
    where
      go : (t : Bool) → good_records s.references ≡ t → ⊥
      go true e = h (rw e tt)
      go false e =
          let f : unreadable ≡ listed l.references = sym (records_bad s.references read_fits.references e) ∙ r.references_are in
          let z : ◌≡◌ {A = ℕ} 0 1 = cc in
          omega arith

  pub read_constraints_lem : ¬ SomeString s (Unreadable constraints_input)
  read_constraints_lem = listed_readable s r.strings r.strings_are l.constraints r.constraints_are

-- the strings have one list each
pub read_unique : (s : Inputs) (l m : Names) → Read s l → Read s m → l ≡ m
read_unique s l m r q =
    let a : l.references ≡ m.references = same_list r.references_are q.references_are in
    let b : l.san ≡ m.san = one_list san_faithful s.san l.san m.san r.san_is q.san_is in
    let c : l.subject ≡ m.subject = one_list subject_faithful s.subject l.subject m.subject r.subject_is q.subject_is in
    let d : l.constraints ≡ m.constraints = same_list (read_issuers s l r) (read_issuers s m q) in
    λ k. record { references = a k; san = b k; subject = c k; constraints = d k }
