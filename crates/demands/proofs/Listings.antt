-- The listing of one string: its answers in order, its count, and the table afterwards.
use Prim.Native.Nat.{ℕ, zero, suc, ◌≤◌, ◌<◌}
use mathlib.Core.Path.{◌≡◌, refl, sym, ap, ◌∙◌}
use mathlib.Core.Logic.{◌↔◌, ◌≢◌, ◌⊎◌, inl, inr, ⊎_elim}
use mathlib.Core.Bool.{Bool, true, false}
use mathlib.Core.List.{List, [], ◌++◌}
use native.Mathlib.Omega.{arith}
use native.Mathlib.Decide.{dec_lt}
use lib.ListN.{length, take, drop, length-append, length-drop}
use lib.Seq.{take_at, drop_at}
use lib.Dec.{ltb}
use borrow.Author.Tests.{ltb-true, ltb-false, ne_eqb}
use Rattle.rules.specs.Der.{Writes}
use Rattle.rules.specs.Seen.{Seen, listed, Reads, Sees}
use Rattle.rules.specs.Listing.{rows_seen, listed_of, table_after}
use Rattle.rules.specs.declared.Row.{Row}
use Rattle.rules.specs.declared.Listed.{Listed}
use Rattle.reading.proofs.OneReading.{san_reading, subject_reading, constraints_reading}
use Rattle.reading.specs.Views.{seen_san, seen_subject, seen_constraints}
use Rattle.reading.specs.Calls.{refusal_of, seen_rows, listing_on, table_on}
use Rattle.demands.specs.Statements.{Unreadable, CertificateString, string_of, listing_answers, Listings, OneReading}
use Rattle.demands.proofs.Order.{Chosen, each_exactly}
use Rattle.demands.proofs.Places.{Rows, san_rows_lem, subject_rows_lem, constraints_rows_lem}
use Rattle.demands.proofs.Looked.{Faithful, san_faithful, subject_faithful, constraints_faithful, seen_long, seen_bad, seen_listed, one_list, read_or_not}

-- what the listing of a number judges, and the laws of that string's reading
pub record Lists (which : ℕ) (C : CertificateString) : Type 0 where
  pub seen : List ℕ → Seen C.Name
  pub faithful : Faithful C.input seen
  pub refusal_is : refusal_of which ≡ C.refusal
  pub rows_are : (b : List ℕ) → seen_rows which b ≡ rows_seen C.input.grammar (seen b)
  pub low : 0 < C.refusal
  pub high : C.refusal < 7
  pub one_each : (l : List C.Name) → length (C.input.grammar.rows l) ≡ length l
  pub only : (l l' : List C.Name) (b : List ℕ) → Writes C.input.grammar l b → Writes C.input.grammar l' b → l ≡ l'
  pub each_row : Rows C

pub lists : (which : ℕ) → Lists which (string_of which)
unfolding refusal_of seen_rows
lists zero = record {
  seen = seen_san;
  faithful = san_faithful;
  refusal_is = refl;
  rows_are = λ b. refl;
  low = omega arith;
  high = omega arith;
  one_each = san_reading.count;
  only = san_reading.only;
  each_row = san_rows_lem;
}
lists (suc zero) = record {
  seen = seen_subject;
  faithful = subject_faithful;
  refusal_is = refl;
  rows_are = λ b. refl;
  low = omega arith;
  high = omega arith;
  one_each = subject_reading.count;
  only = subject_reading.only;
  each_row = subject_rows_lem;
}
lists (suc (suc n)) =
    let e = ne_eqb (suc (suc n)) 0 (λ q. omega arith) in
    let f = ne_eqb (suc (suc n)) 1 (λ q. omega arith) in
    record {
      seen = seen_constraints;
      faithful = constraints_faithful;
      refusal_is = rw (e, f);
      rows_are = λ b. rw (e, f);
      low = omega arith;
      high = omega arith;
      one_each = constraints_reading.count;
      only = constraints_reading.only;
      each_row = constraints_rows_lem;
    }

-- answer and count
abbrev two : ℕ → ℕ → Listed
two answer count = record { answer = answer; count = count }

-- how a listing ends: its answer and count, and the table afterwards
data Listing (which : ℕ) (C : CertificateString) (b : List ℕ) (lent : ℕ) : Type 0 where
  long : C.input.limit < length b → listing_on which b lent ≡ two 7 0 → ((table : List Row) → table_on which b table ≡ table) → Listing which C b lent
  bad : length b ≤ C.input.limit → Unreadable C.input b → listing_on which b lent ≡ two C.refusal 0 → ((table : List Row) → table_on which b table ≡ table) → Listing which C b lent
  short :
      length b ≤ C.input.limit → (l : List C.Name) → Reads C.input b l → lent < length l → listing_on which b lent ≡ two 8 (length l)
      → ((table : List Row) → length table ≡ lent → table_on which b table ≡ table) → Listing which C b lent
  all :
      length b ≤ C.input.limit → (l : List C.Name) → Reads C.input b l → length l ≤ lent → listing_on which b lent ≡ two 0 (length l)
      → ((table : List Row) → length table ≡ lent → table_on which b table ≡ C.input.grammar.rows l ++ drop (length l) table) → Listing which C b lent

module _ (which : ℕ) (C : CertificateString) (L : Lists which C) where
  -- a string that has a list is seen with its rows
  pub seen_rows_lem : (b : List ℕ) (l : List C.Name) → Sees C.input b (listed l) → seen_rows which b ≡ listed (C.input.grammar.rows l)
  unfolding rows_seen
  seen_rows_lem b l s = L.rows_are b ∙ ap (rows_seen C.input.grammar) (seen_listed L.faithful b l s)

  -- a string that is read: the table is too short, or takes all rows
  list_read : (b : List ℕ) (lent : ℕ) → length b ≤ C.input.limit → (l : List C.Name) → Reads C.input b l → Listing which C b lent
  unfolding listing_on table_on rows_seen listed_of table_after
  list_read b lent fits l r = go (ltb lent (length l)) refl
    where
      e : seen_rows which b ≡ listed (C.input.grammar.rows l)
      e = seen_rows_lem b l (fits, r)

      go : (t : Bool) → ltb lent (length l) ≡ t → Listing which C b lent
      go true f = short fits l r (ltb-true _ _ f) (rw (e, L.one_each l, f)) (λ table q. rw (e, L.one_each l, q, f))
      go false f = all fits l r (ltb-false _ _ f) (rw (e, L.one_each l, f)) (λ table q. rw (e, L.one_each l, q, f))

  -- every listing ends in one of these ways
  list_string : (b : List ℕ) (lent : ℕ) → Listing which C b lent
  unfolding listing_on table_on rows_seen listed_of table_after
  list_string b lent = go (dec_lt C.input.limit (length b))
    where
      within : length b ≤ C.input.limit → Unreadable C.input b ⊎ ((l : List C.Name) × Reads C.input b l) → Listing which C b lent
      within fits (inl u) = bad fits u (rw (L.rows_are b, L.refusal_is, seen_bad L.faithful b fits u)) (λ table. rw (L.rows_are b, seen_bad L.faithful b fits u))
      within fits (inr r) = list_read b lent fits r.0 r.1

      go : Dec (C.input.limit < length b) → Listing which C b lent
      go (yes h) = long h (rw (L.rows_are b, seen_long L.faithful b h)) (λ table. rw (L.rows_are b, seen_long L.faithful b h))
      go (no h) = within (omega arith) (read_or_not L.faithful b (omega arith))

  module _ (b : List ℕ) where
    -- another list of the same string has the same length
    same_length : length b ≤ C.input.limit → (l m : List C.Name) → Reads C.input b l → Reads C.input b m → length l ≡ length m
    same_length fits l m r q = ap length (one_list L.faithful b l m (fits, r) (fits, q))

    -- the row of the table of answers that is given
    chosen : (lent : ℕ) → Listing which C b lent → Chosen (listing_answers C b lent) (listing_on which b lent).answer
    chosen lent (long h e t) =
        let a = ap (λ x. x.answer) e in
        let high = L.high in
        inl (h, a, omega arith)
    chosen lent (bad fits u e t) =
        let a = ap (λ x. x.answer) e in
        let low = L.low in
        let high = L.high in
        inr (omega arith, omega arith, inl (u, a, omega arith))
    chosen lent (short fits l r h e t) =
        let a = ap (λ x. x.answer) e in
        let high = L.high in
        inr (omega arith, omega arith, inr (λ u. u l r, omega arith, inl ((l, r, omega arith), a, omega arith)))
    chosen lent (all fits l r h e t) =
        let a = ap (λ x. x.answer) e in
        let low = L.low in
        inr (
          omega arith,
          omega arith,
          inr (
            λ u. u l r,
            omega arith,
            inr (λ m. let z = same_length fits l m.0 r m.1 in let y = m.2 in omega arith, omega arith, inl (tt, a, tt)),
          ),
        )

    -- the statements of Listings, one by one
    no_count : (lent : ℕ) → Listing which C b lent → (listing_on which b lent).answer ≢ 0 → (listing_on which b lent).answer ≢ 8 → (listing_on which b lent).count ≡ 0
    no_count lent (long h e t) m n = ap (λ x. x.count) e
    no_count lent (bad fits u e t) m n = ap (λ x. x.count) e
    no_count lent (short fits l r h e t) m n = absurd (n (ap (λ x. x.answer) e))
    no_count lent (all fits l r h e t) m n = absurd (m (ap (λ x. x.answer) e))

    counted : (list : List C.Name) → Sees C.input b (listed list) → (lent : ℕ) → Listing which C b lent → (listing_on which b lent).count ≡ length list
    counted list s lent (long h e t) = absurd (omega (arith, s.0))
    counted list s lent (bad fits u e t) = absurd (u list s.1)
    counted list s lent (short fits l r h e t) = ap (λ x. x.count) e ∙ same_length fits l list r s.1
    counted list s lent (all fits l r h e t) = ap (λ x. x.count) e ∙ same_length fits l list r s.1

    untouched : (table : List Row) → Listing which C b (length table) → (listing_on which b (length table)).answer ≢ 0 → table_on which b table ≡ table
    untouched table (long h e t) n = t table
    untouched table (bad fits u e t) n = t table
    untouched table (short fits l r h e t) n = t table refl
    untouched table (all fits l r h e t) n = absurd (n (ap (λ x. x.answer) e))

    -- an accepted listing shows the rows of the string's list
    shows : (table : List Row) → (listing_on which b (length table)).answer ≡ 0
        → (l : List C.Name) × Sees C.input b (listed l) × (take (listing_on which b (length table)).count (table_on which b table) ≡ C.input.grammar.rows l)
    shows table a = go (list_string b (length table))
      where
        go : Listing which C b (length table) → (l : List C.Name) × Sees C.input b (listed l) × (take (listing_on which b (length table)).count (table_on which b table) ≡ C.input.grammar.rows l)
        go (long h e t) = let z = ap (λ x. x.answer) e in absurd (omega arith)
        go (bad fits u e t) = let z = ap (λ x. x.answer) e in absurd (omega (arith, L.low))
        go (short fits l r h e t) = let z = ap (λ x. x.answer) e in absurd (omega arith)
        go (all fits l r h e t) = (l, (fits, r), rw (e, t table refl) (take_at (C.input.grammar.rows l) (drop (length l) table) (length l) (L.one_each l)))

    rows_stay : (table : List Row) → Listing which C b (length table) → drop (listing_on which b (length table)).count (table_on which b table) ≡ drop (listing_on which b (length table)).count table
    rows_stay table (long h e t) = rw (t table)
    rows_stay table (bad fits u e t) = rw (t table)
    rows_stay table (short fits l r h e t) = rw (t table refl)
    rows_stay table (all fits l r h e t) = rw (e, t table refl) (drop_at (C.input.grammar.rows l) (drop (length l) table) (length l) (L.one_each l))

    size_stays : (table : List Row) → Listing which C b (length table) → length (table_on which b table) ≡ length table
    size_stays table (long h e t) = rw (t table)
    size_stays table (bad fits u e t) = rw (t table)
    size_stays table (short fits l r h e t) = rw (t table refl)
    size_stays table (all fits l r h e t) = rw (t table refl) (simp (length-append, length-drop, L.one_each) (omega arith))

  -- a listing meets its part of demand 1
  listed_exactly : Listings which C
  listed_exactly = record {
    order = λ b lent. each_exactly [] (listing_answers C b lent) _ tt (chosen b lent (list_string b lent));
    no_count = λ b lent. no_count b lent (list_string b lent);
    untouched = λ b table. untouched b table (list_string b (length table));
    same_rows = λ b table table' e f.
        let p = shows b table e in
        let q = shows b table' f in
        p.2 ∙ ap (λ x. C.input.grammar.rows x) (one_list L.faithful b p.0 q.0 p.1 q.1) ∙ sym q.2;
    rows_stay = λ b table. rows_stay b table (list_string b (length table));
    size_stays = λ b table. size_stays b table (list_string b (length table));
  }

  -- ---- bytes that a list is written as

  -- it reads exactly what is written; an empty string is not
  read_exactly :
      (b : List ℕ) → b ≢ [] → length b ≤ C.input.limit → (lent : ℕ)
      → ((listing_on which b lent).answer ≡ 0) ⊎ ((listing_on which b lent).answer ≡ 8)
      ↔ (list : List C.Name) × Writes C.input.grammar list b
  read_exactly b some_bytes fits lent = go (list_string b lent)
    where
      written : (l : List C.Name) → Reads C.input b l → (list : List C.Name) × Writes C.input.grammar list b
      written l (inl w) = (l, w)
      written l (inr h) = absurd (some_bytes h.1)

      go : Listing which C b lent
          → ((listing_on which b lent).answer ≡ 0) ⊎ ((listing_on which b lent).answer ≡ 8)
          ↔ (list : List C.Name) × Writes C.input.grammar list b
      go (long h e t) = absurd (omega arith)
      go (bad f u e t) =
          let a = ap (λ x. x.answer) e in
          let low = L.low in
          let high = L.high in
          (λ h. absurd (⊎_elim (λ q. omega arith) (λ q. omega arith) h), λ w. absurd (u w.0 (inl w.1)))
      go (short f l r h e t) = (λ q. written l r, λ w. inr (ap (λ x. x.answer) e))
      go (all f l r h e t) = (λ q. written l r, λ w. inl (ap (λ x. x.answer) e))

  -- a table with room shows the rows of the list
  rows_of : (b : List ℕ) (list : List C.Name) → Sees C.input b (listed list) → (table : List Row) → length list ≤ length table
      → take (length list) (table_on which b table) ≡ C.input.grammar.rows list
  rows_of b list s table room = go (list_string b (length table))
    where
      go : Listing which C b (length table) → take (length list) (table_on which b table) ≡ C.input.grammar.rows list
      go (long h e t) = absurd (omega (arith, s.0))
      go (bad f u e t) = absurd (u list s.1)
      go (short f l r h e t) = let z = same_length b f l list r s.1 in absurd (omega arith)
      go (all f l r h e t) =
          let q : l ≡ list = one_list L.faithful b l list (f, r) s in
          rw (t table refl) (take_at (C.input.grammar.rows l) (drop (length l) table) (length list) (L.one_each l ∙ ap length q) ∙ ap (λ x. C.input.grammar.rows x) q)

  -- and its part of demand 3
  read_once : OneReading which C
  read_once = record {
    exactly = read_exactly;
    only = λ b l l'. L.only l l' b;
    once = λ l b b' w w'. w.bytes_are ∙ sym w'.bytes_are;
    count = λ b l s lent. counted b l s lent (list_string b lent);
    rows = rows_of;
    one_each = L.one_each;
    row_of = L.each_row;
    one_seen = λ b. (L.seen b, L.faithful.sees b, L.faithful.only b);
  }

-- of every number
pub listings : (which : ℕ) → Listings which (string_of which)
listings which = listed_exactly which (string_of which) (lists which)

pub readings : (which : ℕ) → OneReading which (string_of which)
readings which = read_once which (string_of which) (lists which)
