-- What the functions of the crate return, by their own tests.
use Prim.Native.Nat.{ℕ, ◌≤◌, ◌<◌}
use mathlib.Core.Path.{◌≡◌, refl, ◌∙◌}
use mathlib.Core.Bool.{Bool, true, false, cond, ◌&&◌}
use mathlib.Core.Option.{Option, none, some}
use mathlib.Core.List.{List, [], ◌∷◌}
use native.Mathlib.Omega.{arith}
use lib.ListN.{length}
use denote.Ref.{Bor}
use borrow.Author.Tests.{lt-ltb, le-ltb}
use Rattle.std.specs.Prelude.{Result, Ok, Err}
use Rattle.std.specs.Result.{IsErrAnd}
use Rattle.rules.specs.Seen.{Seen, too_long, unreadable, listed, Input, san_input, subject_input, constraints_input}
use Rattle.rules.specs.Listing.{rows_seen}
use Rattle.rules.specs.declared.Refusal.{Refusal}
use Rattle.rules.specs.declared.Refusal.TheVariants.{InputTooLong}
use Rattle.rules.specs.declared.Row.{Row}
use Rattle.reading.specs.Strings.{read_san, read_subject, read_constraints}
use Rattle.reading.specs.OneReading.{ReadsExactly}
use Rattle.reading.proofs.OneReading.{san_reading, subject_reading, constraints_reading}
use Rattle.reading.specs.Views.{absent, listed_or, seen_of, seen_san, seen_subject, seen_constraints}
use Rattle.entries.specs.declared.Unreadable.{Unreadable}
use Rattle.strings.specs.Counts.{Count, place_count}
use Rattle.steps.specs.Rows.{walk_of}
use Rattle.steps.specs.declared.Rows.{Rows}
use Rattle.steps.specs.declared.Source.{Source}
use Rattle.steps.specs.declared.Source.TheVariants.{San, Subject, Constraints}
use Rattle.listing.specs.declared.ListRefusal.{ListRefusal}
use Rattle.listing.specs.declared.ListRefusal.TheVariants.{Refused, TableTooShort}
use Rattle.listing.specs.declared.Names.{Names}
use Rattle.listing.specs.Plans.{limit_of, unreadable_of, rows_on, names_of, count_of, opened_for, opened_of, plan_for, plan_of}

-- ---- how many names

pub none_in : {A : Type 0} (s : List A) → length s ≡ 0 → s ≡ []
none_in [] e = refl
none_in (x ∷ s) e = absurd (omega arith)

-- a string that has bytes is not absent
there : {Name : Type 0} (I : Input Name) (s : List ℕ) → (length s ≡ 0 → ⊥) → absent I s ≡ false
there I [] e = absurd (e refl)
there I (x ∷ s) e = go I.optional
  where
    go : (t : Bool) → (t && false) ≡ false
    go true = refl
    go false = refl

module _ (source : Source) (s : List ℕ) (r : Count) where
  pub subject_counted : source ≡ Subject → r ≡ place_count (read_subject s) → r ≡ count_of source s
  subject_counted e r_is = r_is ∙ rw e

  pub none_counted : (source ≡ Subject → ⊥) → length s ≡ 0 → Ok 0 ≡ count_of source s
  none_counted e f = rw (none_in s f) (go source e)
    where
      go : (source : Source) → (source ≡ Subject → ⊥) → Ok 0 ≡ count_of source []
      go San e = refl
      go Subject e = absurd (e refl)
      go Constraints e = refl

  pub san_counted : source ≡ San → (length s ≡ 0 → ⊥) → r ≡ place_count (read_san s) → r ≡ count_of source s
  san_counted e f r_is = r_is ∙ rw (e, there san_input s f)

  pub constraints_counted : source ≡ Constraints → (length s ≡ 0 → ⊥) → r ≡ place_count (read_constraints s) → r ≡ count_of source s
  constraints_counted e f r_is = r_is ∙ rw (e, there constraints_input s f)

-- ---- what is seen, by the count

-- the rows seen, by how many there are
data Counted : Seen Row → Count → Type 0 where
  no_list : (why : Unreadable) → Counted unreadable (Err why)
  rows_of : (rows : List Row) → Counted (listed rows) (Ok (length rows))

module _ {Name : Type 0} (I : Input Name) (read : List ℕ → Option (List Name)) (R : ReadsExactly I.grammar read) (s : List ℕ) where
  string_long : I.limit < length s → rows_seen I.grammar (seen_of I read s) ≡ too_long
  unfolding seen_of rows_seen
  string_long h = rw (lt-ltb _ _ h)

  string_counted : length s ≤ I.limit → Counted (rows_seen I.grammar (seen_of I read s)) (names_of I read s)
  unfolding seen_of rows_seen place_count
  string_counted h = rw (le-ltb I.limit (length s) h) (go (absent I s) (read s))
    where
      go : (a : Bool) (o : Option (List Name)) → Counted (rows_seen I.grammar (cond a (listed []) (listed_or o))) (cond a (Ok 0) (place_count o))
      go true o = rw (← R.count []) (rows_of (I.grammar.rows []))
      go false none = no_list _
      go false (some l) = rw (← R.count l) (rows_of (I.grammar.rows l))

seen_long : (source : Source) (s : List ℕ) → limit_of source < length s → rows_on source s ≡ too_long
unfolding seen_san seen_subject seen_constraints
seen_long San s h = string_long san_input read_san san_reading s h
seen_long Subject s h = string_long subject_input read_subject subject_reading s h
seen_long Constraints s h = string_long constraints_input read_constraints constraints_reading s h

seen_counted : (source : Source) (s : List ℕ) → length s ≤ limit_of source → Counted (rows_on source s) (count_of source s)
unfolding seen_san seen_subject seen_constraints
seen_counted San s h = string_counted san_input read_san san_reading s h
seen_counted Subject s h = string_counted subject_input read_subject subject_reading s h
seen_counted Constraints s h = string_counted constraints_input read_constraints constraints_reading s h

-- ---- what is opened

module _ (source : Source) (bytes : Bor (List ℕ)) (limit : ℕ) (limit_is : limit ≡ limit_of source) where
  pub open_long : limit < length bytes.now → Err InputTooLong ≡ opened_of source bytes
  unfolding opened_of opened_for
  open_long h = rw (seen_long source bytes.now (rw limit_is at h))

  module _ (h : length bytes.now ≤ limit) (c : Count) (c_is : c ≡ count_of source bytes.now) where
    counted : Counted (rows_on source bytes.now) c
    counted = rw c_is (seen_counted source bytes.now (rw limit_is at h))

    pub open_unreadable : (why : Unreadable) → c ≡ Err why → (refusal : Refusal) → refusal ≡ unreadable_of source → Err refusal ≡ opened_of source bytes
    unfolding opened_of opened_for
    open_unreadable why e refusal refusal_is = rw refusal_is (go (rows_on source bytes.now) c counted e)
      where
        go : (x : Seen Row) (c : Count) → Counted x c → c ≡ Err why → Err (unreadable_of source) ≡ opened_for source bytes x
        go _ _ (no_list w) e = refl
        go _ _ (rows_of rows) e = let z : ◌≡◌ {A = ℕ} 0 1 = cc in absurd (omega arith)

    pub open_rows : (k : ℕ) → c ≡ Ok k → (walk : Rows) → walk ≡ walk_of source bytes → Ok (record { count = k; rows = walk }) ≡ opened_of source bytes
    unfolding opened_of opened_for
    open_rows k e walk walk_is = rw walk_is (go (rows_on source bytes.now) c counted e)
      where
        go : (x : Seen Row) (c : Count) → Counted x c → c ≡ Ok k → Ok (record { count = k; rows = walk_of source bytes }) ≡ opened_for source bytes x
        go _ _ (no_list w) e = let z : ◌≡◌ {A = ℕ} 0 1 = cc in absurd (omega arith)
        go _ _ (rows_of rows) e =
            let i : length rows ≡ k = cc in
            rw i

-- ---- and for the table that is lent

module _ (source : Source) (bytes : Bor (List ℕ)) (lent : ℕ) (o : Result Names Refusal) (o_is : o ≡ opened_of source bytes) where
  pub plan_refused : (why : Refusal) → o ≡ Err why → (r : Result Names ListRefusal) → IsErrAnd r (λ x. x ≡ Refused why) → r ≡ plan_of source bytes lent
  unfolding plan_of plan_for
  plan_refused why e (Ok x) h = absurd h
  plan_refused why e (Err r) r_is = rw (← o_is, e, r_is)

  module _ (x : Names) (e : o ≡ Ok x) where
    pub plan_short : lent < x.count → Err (TableTooShort x.count) ≡ plan_of source bytes lent
    unfolding plan_of plan_for
    plan_short h = rw (← o_is, e, lt-ltb lent x.count h)

    pub plan_whole : x.count ≤ lent → Ok x ≡ plan_of source bytes lent
    unfolding plan_of plan_for
    plan_whole h = rw (← o_is, e, le-ltb lent x.count h)
