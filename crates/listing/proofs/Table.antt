-- What is planned and shown row by row is what the listing's contract says: the answer and the count, and the table afterwards.
use Prim.Native.Nat.{ℕ, zero, suc, ◌+◌, ◌-◌, ◌≤◌, ◌<◌}
use mathlib.Core.Path.{◌≡◌, refl, sym, ap, ◌∙◌}
use mathlib.Core.Bool.{Bool, true, false, cond, ◌&&◌}
use mathlib.Core.Option.{Option, none, some}
use mathlib.Core.List.{List, [], ◌∷◌, ◌++◌}
use native.Mathlib.Omega.{arith}
use native.Mathlib.Nat.{not-suc-le-zero, le_of_suc-le-suc}
use native.Mathlib.Numerals.{add-one}
use lib.Dec.{ltb, eqb}
use lib.ListN.{length, take, drop, set, get_or}
use lib.Seq.{take-length}
use denote.Ref.{Bor}
use borrow.Author.Tests.{ltb-false}
use Rattle.std.specs.List.{enumerate_from}
use Rattle.std.specs.Prelude as std
use Rattle.std.specs.Prelude.{Some, None}
use Rattle.std.specs.Iterator.{Yields, YieldsFirst}
use Rattle.std.specs.Iterator.Adapters.{enumerate_steps}
use Rattle.std.specs.declared.iter.Enumerate.{Enumerate}
use Rattle.std.proofs.lemmas.Iterator.{YieldsList}
use Rattle.std.proofs.lemmas.Iterator.Consumers.{YieldsList-from_first, YieldsList-from_enumerate, YieldsList-turn, YieldsList-end}
use Rattle.std.specs.Prelude.{Result, Ok, Err}
use Rattle.rules.specs.Numbers.{answer_of}
use Rattle.rules.specs.Seen.{Seen, too_long, unreadable, listed, Input, san_input, subject_input, constraints_input}
use Rattle.rules.specs.Listing.{rows_seen, listed_of, table_after}
use Rattle.rules.specs.declared.Refusal.TheVariants.{InputTooLong}
use Rattle.rules.specs.declared.Row.{Row}
use Rattle.reading.specs.Strings.{read_san, read_subject, read_constraints}
use Rattle.reading.specs.OneReading.{ReadsExactly}
use Rattle.reading.proofs.OneReading.{san_reading, subject_reading, constraints_reading}
use Rattle.reading.specs.Views.{absent, listed_or, seen_of, seen_san, seen_subject, seen_constraints}
use Rattle.reading.specs.Calls.{refusal_of, seen_rows, listing_on, table_on}
use Rattle.steps.specs.Steps.{source_of, start}
use Rattle.steps.specs.Rows.{rows_by, rows_from, rows_of, rows_left, walk_of}
use Rattle.steps.specs.Walks.{san_walk}
use Rattle.steps.specs.GroupWalks.{subject_walk, constraints_walk}
use Rattle.steps.proofs.Left.{walk_all}
use Rattle.steps.specs.declared.Rows.{Rows}
use Rattle.steps.specs.declared.Source.{Source}
use Rattle.steps.specs.declared.Source.TheVariants.{San, Subject, Constraints}
use Rattle.listing.specs.declared.ListRefusal.{ListRefusal}
use Rattle.listing.specs.declared.ListRefusal.TheVariants.{Refused, TableTooShort}
use Rattle.listing.specs.declared.Names.{Names}
use Rattle.listing.specs.Plans.{unreadable_of, rows_on, opened_for, opened_of, plan_for, plan_of, table_with, told}
use Rattle.listing.proofs.Planning.{none_in}

-- ---- a string that is named by a number

pub seen_rows_is : (which : ℕ) (s : List ℕ) → seen_rows which s ≡ rows_on (source_of which) s
unfolding seen_rows
seen_rows_is which s = go (eqb which 0) (eqb which 1)
  where
    go : (t u : Bool) → cond t (rows_on San s) (cond u (rows_on Subject s) (rows_on Constraints s)) ≡ rows_on (cond t San (cond u Subject Constraints)) s
    go true u = refl
    go false true = refl
    go false false = refl

pub refusal_is : (which : ℕ) → answer_of (unreadable_of (source_of which)) ≡ refusal_of which
unfolding refusal_of
refusal_is which = go (eqb which 0) (eqb which 1)
  where
    go : (t u : Bool) → answer_of (unreadable_of (cond t San (cond u Subject Constraints))) ≡ cond t 3 (cond u 4 5)
    go true u = refl
    go false true = refl
    go false false = refl

-- ---- the walk over a string shows the rows of what is seen of it

none_absent : {Name : Type 0} (I : Input Name) (s : List ℕ) → absent I s ≡ true → s ≡ []
none_absent I [] e = refl
none_absent I (x ∷ s) e = absurd (go I.optional e)
  where
    go : (t : Bool) → (t && false) ≡ true → ⊥
    go true e = let z : ◌≡◌ {A = ℕ} 0 1 = cc in omega arith
    go false e = let z : ◌≡◌ {A = ℕ} 0 1 = cc in omega arith

none_left : (source : Source) → rows_of source [] ≡ []
unfolding rows_from rows_by
none_left source =
    let k : 0 - (start source []).at ≡ 0 = omega arith in
    rw k

module _ {Name : Type 0} (I : Input Name) (read : List ℕ → Option (List Name)) (R : ReadsExactly I.grammar read) (source : Source) (s : List ℕ)
    (reads : (l : List Name) → read s ≡ some l → rows_of source s ≡ I.grammar.rows l) where
  seen_shown : {rows : List Row} → rows_seen I.grammar (seen_of I read s) ≡ listed rows → rows_of source s ≡ rows
  unfolding seen_of rows_seen
  seen_shown {rows} e = go (ltb I.limit (length s)) (absent I s) (read s) refl refl e
    where
      go : (t a : Bool) (o : Option (List Name)) → absent I s ≡ a → read s ≡ o → rows_seen I.grammar (cond t too_long (cond a (listed []) (listed_or o))) ≡ listed rows → rows_of source s ≡ rows
      go true a o g f e = let z : ◌≡◌ {A = ℕ} 0 1 = cc in absurd (omega arith)
      go false true o g f e =
          let k : I.grammar.rows [] ≡ rows = cc in
          rw (none_absent I s g) (none_left source) ∙ sym (none_in (I.grammar.rows []) (R.count [])) ∙ k
      go false false none g f e = let z : ◌≡◌ {A = ℕ} 0 1 = cc in absurd (omega arith)
      go false false (some l) g f e =
          let k : I.grammar.rows l ≡ rows = cc in
          reads l f ∙ k

pub all_shown : (source : Source) (s : List ℕ) {rows : List Row} → rows_on source s ≡ listed rows → rows_of source s ≡ rows
unfolding seen_san seen_subject seen_constraints
all_shown San s e = seen_shown san_input read_san san_reading San s (λ l r. walk_all San s (san_walk s l r)) e
all_shown Subject s e = seen_shown subject_input read_subject subject_reading Subject s (λ l r. walk_all Subject s (subject_walk s l r)) e
all_shown Constraints s e = seen_shown constraints_input read_constraints constraints_reading Constraints s (λ l r. walk_all Constraints s (constraints_walk s l r)) e

-- ---- what `list` needs of the plan

module _ (which : ℕ) (bytes : Bor (List ℕ)) (table : List Row) where
  abbrev source : Source
  source = source_of which

  -- "The answer is .. 7, then 3, 4 or 5 (each with count 0), then 8 with the count needed", and "all rows after a refusal, stay"
  pub list_refused : (why : ListRefusal) → plan_of source bytes (length table) ≡ Err why
      → (told why ≡ listing_on which bytes.now (length table)) × (table ≡ table_on which bytes.now table)
  unfolding plan_of plan_for opened_of opened_for listing_on table_on listed_of table_after
  list_refused why e = rw (seen_rows_is which bytes.now) (go (rows_on source bytes.now) e)
    where
      Goal : Seen Row → Type 0
      Goal x = (told why ≡ listed_of (refusal_of which) x (length table)) × (table ≡ table_after x table)

      tell : (t : Bool) (rows : List Row) → ltb (length table) (length rows) ≡ t
          → cond {A = Result Names ListRefusal} t (Err (TableTooShort (length rows))) (Ok (record { count = length rows; rows = walk_of source bytes })) ≡ Err why → Goal (listed rows)
      tell true rows f e =
          let k : TableTooShort (length rows) ≡ why = cc in
          rw (f, ← k) (refl, refl)
      tell false rows f e = let z : ◌≡◌ {A = ℕ} 0 1 = cc in absurd (omega arith)

      go : (x : Seen Row) → plan_for (length table) (opened_for source bytes x) ≡ Err why → Goal x
      go too_long e =
          let k : Refused InputTooLong ≡ why = cc in
          rw (← k) (refl, refl)
      go unreadable e =
          let k : Refused (unreadable_of source) ≡ why = cc in
          rw (← k) (ap (λ n. record { answer = n; count = 0 }) (refusal_is which), refl)
      go (listed rows) e = tell (ltb (length table) (length rows)) rows refl e

  -- "The answer is 0 and the count", and "Rows past the count .. stay"
  pub record Fits (names : Names) : Type 0 where
    pub listing : record { answer = 0; count = names.count } ≡ listing_on which bytes.now (length table)
    pub rows : length (rows_left names.rows) ≤ length table
    pub filled : table_with (rows_left names.rows) table ≡ table_on which bytes.now table

  pub list_fits : (names : Names) → plan_of source bytes (length table) ≡ Ok names → Fits names
  unfolding plan_of plan_for opened_of opened_for listing_on table_on listed_of table_after
  list_fits names e = go (rows_on source bytes.now) refl e
    where
      tell : (t : Bool) (rows : List Row) → ltb (length table) (length rows) ≡ t → rows_on source bytes.now ≡ listed rows
          → cond {A = Result Names ListRefusal} t (Err (TableTooShort (length rows))) (Ok (record { count = length rows; rows = walk_of source bytes })) ≡ Ok names → Fits names
      tell true rows f q e = let z : ◌≡◌ {A = ℕ} 0 1 = cc in absurd (omega arith)
      tell false rows f q e =
          let k : record { count = length rows; rows = walk_of source bytes } ≡ names = cc in
          let shown = all_shown source bytes.now q in
          let seen : seen_rows which bytes.now ≡ listed rows = seen_rows_is which bytes.now ∙ q in
          rw (← k) (record {
            listing = rw (seen, f);
            rows = rw shown (ltb-false _ _ f);
            filled = rw (shown, seen, f);
          })

      go : (x : Seen Row) → rows_on source bytes.now ≡ x → plan_for (length table) (opened_for source bytes x) ≡ Ok names → Fits names
      go too_long q e = let z : ◌≡◌ {A = ℕ} 0 1 = cc in absurd (omega arith)
      go unreadable q e = let z : ◌≡◌ {A = ℕ} 0 1 = cc in absurd (omega arith)
      go (listed rows) q e = tell (ltb (length table) (length rows)) rows refl q e

-- ---- a table that is filled row by row

-- the first n rows are those that are shown
abbrev pub filled : ℕ → List Row → List Row → List Row
filled n rows table = take n rows ++ drop n table

sets : (n : ℕ) (rows table : List Row) (row : Row) → n < length rows → row ≡ get_or rows n row → n < length table → set (filled n rows table) n row ≡ filled (suc n) rows table
sets n [] table row h e k = absurd (not-suc-le-zero h)
sets n (r ∷ rows) [] row h e k = absurd (not-suc-le-zero k)
sets zero (r ∷ rows) (y ∷ table) row h e k = ap {B = List Row} (λ r. r ∷ table) e
sets (suc n) (r ∷ rows) (y ∷ table) row h e k = ap {B = List Row} (r ∷◌) (sets n rows table row (le_of_suc-le-suc h) e (le_of_suc-le-suc k))

pub set_next : (n : ℕ) (rows table : List Row) (row : Row) → n < length rows → row ≡ get_or rows n row → n < length table
    → set (filled n rows table) n row ≡ filled (n + 1) rows table
set_next n rows table row h e k = sets n rows table row h e k ∙ ap (λ (m : ℕ). filled m rows table) (sym (add-one n))

pub length_filled : (n : ℕ) (rows table : List Row) → n ≤ length rows → n ≤ length table → length (filled n rows table) ≡ length table
length_filled zero rows table h k = refl
length_filled (suc n) [] table h k = absurd (not-suc-le-zero h)
length_filled (suc n) (r ∷ rows) [] h k = absurd (not-suc-le-zero k)
length_filled (suc n) (r ∷ rows) (y ∷ table) h k = ap suc (length_filled n rows table (le_of_suc-le-suc h) (le_of_suc-le-suc k))

-- ---- a loop over a walk whose items are numbered

length_numbered : (m : ℕ) (rows : List Row) → length (enumerate_from m rows) ≡ length rows
length_numbered m [] = refl
length_numbered m (r ∷ rows) = ap suc (length_numbered (m + 1) rows)

numbered : (m n : ℕ) (rows : List Row) (d : ℕ × Row) → n < length rows → get_or (enumerate_from m rows) n d ≡ (m + n, get_or rows n d.1)
numbered m n [] d h = absurd (not-suc-le-zero h)
numbered m zero (r ∷ rows) d h = let k : m ≡ m + 0 = omega arith in λ i. (k i, r)
numbered m (suc n) (r ∷ rows) d h =
    let k : m + 1 + n ≡ m + suc n = omega arith in
    numbered (m + 1) n rows d (le_of_suc-le-suc h) ∙ ap (λ (x : ℕ). (x, get_or rows n d.1)) k

abbrev Takes : Enumerate Rows → std.Option (ℕ × Row) → Enumerate Rows → Type 0
Takes = enumerate_steps (YieldsFirst rows_left)

module _ (rows : List Row) (s t u : Enumerate Rows) (walk : rows_left s.iter ≡ rows) (none : s.count ≡ 0) (xs : List (ℕ × Row)) (took : Yields Takes s xs t) where
  road : YieldsList Takes (λ p. (p.0, p.1)) s (enumerate_from 0 rows)
  road = YieldsList-from_enumerate (YieldsList-from_first (λ x. x) rows_left rows walk) none

  -- a turn takes the next row, with its number
  pub turn_takes : (r : std.Option (ℕ × Row)) (x : ℕ × Row) → r ≡ Some x → Takes t r u → (length xs < length rows) × (x.0 ≡ length xs) × (x.1 ≡ get_or rows (length xs) x.1)
  turn_takes r x is takes =
      let turn = YieldsList-turn road xs t took r u x is takes in
      let h : length xs < length rows = rw (length_numbered 0 rows) at turn.0 in
      let e : (x.0, x.1) ≡ (0 + length xs, get_or rows (length xs) x.1) = turn.1 ∙ numbered 0 (length xs) rows (x.0, x.1) h in
      (h, ap (λ (p : ℕ × Row). p.0) e ∙ omega arith, ap (λ (p : ℕ × Row). p.1) e)

  -- at the end all rows are taken
  pub all_taken : (r : std.Option (ℕ × Row)) → r ≡ None → Takes t r u → (table : List Row) → filled (length xs) rows table ≡ table_with rows table
  all_taken r is takes table =
      let k : length xs ≡ length rows = (YieldsList-end road xs t took r u is takes).1 ∙ length_numbered 0 rows in
      rw (k, take-length rows)
