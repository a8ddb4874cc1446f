-- A test that is computed over a whole table of examples, and that each example holds which passes it.
use Prim.Native.Nat.{ℕ}
use mathlib.Core.Path.{◌≡◌, refl}
use mathlib.Core.Bool.{Bool, true, false, not, ◌&&◌, ◌||◌}
use mathlib.Core.List.{List, [], ◌∷◌}
use mathlib.Core.Logic.{◌⊎◌, inl, inr}
use lib.ListN.{length}
use lib.Dec.{T, eqb, leb, eqb→eq, leb→le}
use Rattle.rules.specs.Bytes.{some?, all, same}
use Rattle.rules.specs.Names.{restriction, srv_id, in_subtree, dns_id, dns_matches}
use Rattle.rules.specs.Der.{Member}
use Rattle.rules.specs.San.{GeneralName}
use Rattle.rules.specs.Seen.{Input, san_input, subject_input, constraints_input, listed, Reads, Sees}
use Rattle.rules.specs.Verdict.{numbers, verdict_of}
use Rattle.rules.specs.Listing.{listed_of, table_after}
use Rattle.rules.specs.declared.Row.{Row}
use Rattle.rules.specs.declared.Listed.{Listed}
use Rattle.rules.specs.declared.Verdict.{Verdict}
use Rattle.rules.proofs.Cases.{and_parts}
use Rattle.rules.proofs.Holds.{Certificate, Rows, Listing, Example, subtree, dns_name, no_dns_id, tested, written, verdict, refused, san_rows, subject_rows, constraints_rows, listing, HasRows, EachListed, certificate_verdict, Holds, All}

-- ---- equalities, tested

abbrev pub same_bool : Bool → Bool → Bool
same_bool true true = true
same_bool true false = false
same_bool false true = false
same_bool false false = true

bool_is : (s t : Bool) → T (same_bool s t) → s ≡ t
bool_is true true h = refl
bool_is true false h = absurd h
bool_is false true h = absurd h
bool_is false false h = refl

pub same_eq : (s t : List ℕ) → T (same s t) → s ≡ t
unfolding same
same_eq [] [] h = refl
same_eq [] (y ∷ t) h = absurd h
same_eq (x ∷ s) [] h = absurd h
same_eq (x ∷ s) (y ∷ t) h =
    let p = and_parts (eqb x y) (same s t) h in
    λ i. eqb→eq x y p.0 i ∷ same_eq s t p.1 i

abbrev pub same_verdict : Verdict → Verdict → Bool
same_verdict v w =
    eqb v.answer w.answer
    && (eqb v.reference w.reference
    && (eqb v.presented w.presented
    && (eqb v.start w.start && (eqb v.length w.length && eqb v.issuer w.issuer))))

verdict_is : (v w : Verdict) → T (same_verdict v w) → v ≡ w
verdict_is v w h =
    let a = and_parts (eqb v.answer w.answer) _ h in
    let b = and_parts (eqb v.reference w.reference) _ a.1 in
    let c = and_parts (eqb v.presented w.presented) _ b.1 in
    let d = and_parts (eqb v.start w.start) _ c.1 in
    let e = and_parts (eqb v.length w.length) _ d.1 in
    λ i. record {
      answer = eqb→eq v.answer w.answer a.0 i;
      reference = eqb→eq v.reference w.reference b.0 i;
      presented = eqb→eq v.presented w.presented c.0 i;
      start = eqb→eq v.start w.start d.0 i;
      length = eqb→eq v.length w.length e.0 i;
      issuer = eqb→eq v.issuer w.issuer e.1 i;
    }

abbrev pub same_row : Row → Row → Bool
same_row r q =
    eqb r.kind q.kind && (eqb r.start q.start && (eqb r.length q.length && eqb r.group q.group))

row_is : (r q : Row) → T (same_row r q) → r ≡ q
row_is r q h =
    let a = and_parts (eqb r.kind q.kind) _ h in
    let b = and_parts (eqb r.start q.start) _ a.1 in
    let c = and_parts (eqb r.length q.length) _ b.1 in
    λ i. record {
      kind = eqb→eq r.kind q.kind a.0 i;
      start = eqb→eq r.start q.start b.0 i;
      length = eqb→eq r.length q.length c.0 i;
      group = eqb→eq r.group q.group c.1 i;
    }

abbrev pub same_rows : List Row → List Row → Bool
same_rows [] [] = true
same_rows [] (q ∷ qs) = false
same_rows (r ∷ rs) [] = false
same_rows (r ∷ rs) (q ∷ qs) = same_row r q && same_rows rs qs

rows_are : (rs qs : List Row) → T (same_rows rs qs) → rs ≡ qs
rows_are [] [] h = refl
rows_are [] (q ∷ qs) h = absurd h
rows_are (r ∷ rs) [] h = absurd h
rows_are (r ∷ rs) (q ∷ qs) h =
    let p = and_parts (same_row r q) (same_rows rs qs) h in
    λ i. row_is r q p.0 i ∷ rows_are rs qs p.1 i

abbrev pub same_listed : Listed → Listed → Bool
same_listed l m = eqb l.answer m.answer && eqb l.count m.count

listed_is : (l m : Listed) → T (same_listed l m) → l ≡ m
listed_is l m h =
    let p = and_parts (eqb l.answer m.answer) _ h in
    λ i. record { answer = eqb→eq l.answer m.answer p.0 i; count = eqb→eq l.count m.count p.1 i }

-- ---- a string is seen as its list

abbrev pub writes : {Name : Type 0} → Input Name → List ℕ → List Name → Bool
writes I bytes list = I.grammar.good list && same bytes (I.grammar.write list)

abbrev pub absent : {Name : Type 0} → Input Name → List ℕ → List Name → Bool
absent I bytes list = I.optional && (not (some? bytes) && not (some? list))

abbrev pub seen_as : {Name : Type 0} → Input Name → List ℕ → List Name → Bool
seen_as I bytes list = leb (length bytes) I.limit && (writes I bytes list || absent I bytes list)

empty_is : {A : Type 0} (l : List A) → T (not (some? l)) → l ≡ []
empty_is [] h = refl
empty_is (a ∷ l) h = absurd h

one_of : (s t : Bool) → T (s || t) → T s ⊎ T t
one_of true t h = inl tt
one_of false t h = inr h

module _ {Name : Type 0} (I : Input Name) (bytes : List ℕ) (list : List Name) where
  reads : T (writes I bytes list) ⊎ T (absent I bytes list) → Reads I bytes list
  reads (inl w) =
      let p = and_parts (I.grammar.good list) _ w in
      inl (record { good = p.0; bytes_are = same_eq bytes (I.grammar.write list) p.1 })
  reads (inr a) =
      let p = and_parts I.optional _ a in
      let q = and_parts (not (some? bytes)) _ p.1 in
      inr (p.0, empty_is bytes q.0, empty_is list q.1)

  sees : T (seen_as I bytes list) → Sees I bytes (listed list)
  sees h =
      let p = and_parts (leb (length bytes) I.limit) _ h in
      (leb→le (length bytes) I.limit p.0, reads (one_of (writes I bytes list) (absent I bytes list) p.1))

-- and each of these as its own
abbrev pub seen_each : List (List ℕ) → List (List (Member GeneralName)) → Bool
seen_each [] [] = true
seen_each [] (l ∷ ls) = false
seen_each (b ∷ bs) [] = false
seen_each (b ∷ bs) (l ∷ ls) = seen_as constraints_input b l && seen_each bs ls

sees_each : (bs : List (List ℕ)) (ls : List (List (Member GeneralName))) → T (seen_each bs ls) → EachListed bs ls
sees_each [] [] h = tt
sees_each [] (l ∷ ls) h = h
sees_each (b ∷ bs) [] h = h
sees_each (b ∷ bs) (l ∷ ls) h =
    let p = and_parts (seen_as constraints_input b l) (seen_each bs ls) h in
    (sees constraints_input b l p.0, sees_each bs ls p.1)

-- ---- examples

abbrev pub seen : Certificate → Bool
seen c =
    seen_as san_input c.san c.san_names
    && (seen_as subject_input c.subject c.subject_names && seen_each c.constraints c.constraints_names)

abbrev pub judged_right : Certificate → Bool
judged_right c = same_verdict (certificate_verdict c) c.numbers

abbrev pub rows_right : {Name : Type 0} → Input Name → Rows Name → Bool
rows_right I r = seen_as I r.bytes r.names && same_rows (I.grammar.rows r.names) r.rows

abbrev pub listed_right : Listing → Bool
listed_right l =
    same_listed (listed_of l.refusal l.seen (length l.lent)) l.answered
    && same_rows (table_after l.seen l.lent) l.table

abbrev pub passes : Example → Bool
passes (subtree restricted name inside) =
    restriction restricted && (srv_id name && same_bool (in_subtree restricted name) inside)
passes (dns_name presented reference matched) = same_bool (dns_matches reference presented) matched
passes (no_dns_id presented) = same_bool (dns_id presented) false
passes (tested test passed) = same_bool test passed
passes (written bytes shown) = same bytes shown
passes (verdict c) = seen c && judged_right c
passes (refused references san subject constraints answer) =
    same_verdict (verdict_of references san subject constraints) (numbers answer 0 0 0 0 0)
passes (san_rows r) = rows_right san_input r
passes (subject_rows r) = rows_right subject_input r
passes (constraints_rows r) = rows_right constraints_input r
passes (listing l) = listed_right l

has_rows : {Name : Type 0} (I : Input Name) (r : Rows Name) → T (rows_right I r) → HasRows I r
has_rows I r h =
    let p = and_parts (seen_as I r.bytes r.names) _ h in
    (sees I r.bytes r.names p.0, rows_are _ r.rows p.1)

holds : (e : Example) → T (passes e) → Holds e
holds (subtree restricted name inside) h =
    let p = and_parts (restriction restricted) _ h in
    let q = and_parts (srv_id name) _ p.1 in
    (p.0, q.0, bool_is (in_subtree restricted name) inside q.1)
holds (dns_name presented reference matched) h = bool_is (dns_matches reference presented) matched h
holds (no_dns_id presented) h = bool_is (dns_id presented) false h
holds (tested test passed) h = bool_is test passed h
holds (written bytes shown) h = same_eq bytes shown h
holds (refused references san subject constraints answer) h =
    verdict_is (verdict_of references san subject constraints) (numbers answer 0 0 0 0 0) h
holds (san_rows r) h = has_rows san_input r h
holds (subject_rows r) h = has_rows subject_input r h
holds (constraints_rows r) h = has_rows constraints_input r h
holds (listing l) h =
    let p = and_parts (same_listed (listed_of l.refusal l.seen (length l.lent)) l.answered) _ h in
    (listed_is _ l.answered p.0, rows_are _ l.table p.1)
holds (verdict c) h =
    let p = and_parts (seen c) (judged_right c) h in
    let q = and_parts (seen_as san_input c.san c.san_names) _ p.0 in
    let r = and_parts (seen_as subject_input c.subject c.subject_names) _ q.1 in (
      sees san_input c.san c.san_names q.0,
      sees subject_input c.subject c.subject_names r.0,
      sees_each c.constraints c.constraints_names r.1,
      verdict_is (certificate_verdict c) c.numbers p.1,
    )

pub all_hold : (table : List Example) → T (all passes table) → All table
all_hold [] h = tt
all_hold (e ∷ es) h =
    let p = and_parts (passes e) (all passes es) h in
    (holds e p.0, all_hold es p.1)
