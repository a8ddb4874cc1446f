-- Good records: their texts fit, and what they say is a good reference.
use Prim.Native.Nat.{ℕ, ◌+◌, ◌-◌, ◌*◌, ◌/◌, ◌%◌, ◌≤◌, ◌<◌}
use mathlib.Core.Path.{◌≡◌, sym, ap, ◌∙◌}
use mathlib.Core.Bool.{Bool, true, ◌&&◌, true≢false}
use mathlib.Core.List.{List, [], ◌∷◌}
use native.Mathlib.Omega.{arith}
use lib.ListN.{length, get_or, take, drop, length-take, length-drop}
use lib.Dec.{eqb, leb}
use borrow.Author.Tests.{eqb-true, leb-true, eq-eqb}
use Rattle.std.specs.Prelude.{Result, Ok, Err}
use Rattle.std.proofs.lemmas.Bool.Decides.{nat_tests}
use Rattle.rules.proofs.Cases.{is_true, holds, and_left, and_right}
use Rattle.rules.specs.Bytes.{part, some?, all}
use Rattle.rules.specs.Numbers.{record_size, service_length_at, domain_length_at, service_at, service_size, domain_at, domain_size, kind_of, kind_number}
use Rattle.rules.specs.Records.{Reference, reference, reference_of, filled, good_service, good_reference, good_record, records_of, good_records}
use Rattle.rules.specs.declared.Kind.{Kind}
use Rattle.rules.specs.declared.UnknownKind.{UnknownKind}
use Rattle.records.specs.References.{reference_at}
use Rattle.records.proofs.Split.{count_is, record_at, each_good}

-- a text that fits its field is no longer than it
pub filled_fits : (l : List ℕ) (most n : ℕ) → filled (take most l) n ≡ true → n ≤ most
unfolding filled
filled_fits l most n e = omega (arith, leb-true n (length (take most l)) (and_left (leb n (length (take most l))) _ e), length-take most l)

-- a byte that is a kind's number
pub is_number : (n : ℕ) (kind : Kind) → Ok kind ≡ kind_of n → n ≡ kind_number kind
is_number n kind e = grind (arith, nat_tests)

-- a number that is no kind's is none of a good reference
pub no_kind : (r : Reference) (e : UnknownKind) → Err e ≡ kind_of r.kind → good_reference r ≡ true → ⊥
unfolding good_reference good_service
no_kind r e h g = grind (arith, nat_tests)

module _ (r : List ℕ) (g : good_record r ≡ true) where
  before : (eqb (get_or r 1 0) 0 && filled (part r service_at service_size) (get_or r service_length_at 0) && filled (part r domain_at domain_size) (get_or r domain_length_at 0)) ≡ true
  unfolding good_record
  before = and_left _ (good_reference (reference_of r)) g

  pub service_fits : get_or r service_length_at 0 ≤ service_size
  unfolding part
  service_fits =
      filled_fits (drop service_at r) service_size (get_or r service_length_at 0)
      (and_right (eqb (get_or r 1 0) 0) _ (and_left _ (filled (part r domain_at domain_size) (get_or r domain_length_at 0)) before))

  pub domain_fits : get_or r domain_length_at 0 ≤ domain_size
  unfolding part
  domain_fits = filled_fits (drop domain_at r) domain_size (get_or r domain_length_at 0) (and_right (eqb (get_or r 1 0) 0 && filled (part r service_at service_size) (get_or r service_length_at 0)) _ before)

  pub record_says : good_reference (reference_of r) ≡ true
  unfolding good_record
  record_says = and_right (eqb (get_or r 1 0) 0 && filled (part r service_at service_size) (get_or r service_length_at 0) && filled (part r domain_at domain_size) (get_or r domain_length_at 0)) _ g

-- a record whose fields are filled is good just where what it says is good
pub record_reference : (r s d : List ℕ) (t : Bool) → get_or r 1 0 ≡ 0 → filled (take service_size (drop service_at r)) (get_or r service_length_at 0) ≡ true → filled (take domain_size (drop domain_at r)) (get_or r domain_length_at 0) ≡ true
    → s ≡ (reference_of r).service → d ≡ (reference_of r).domain → t ≡ good_reference (reference (get_or r 0 0) s d) → t ≡ good_record r
unfolding good_record part reference_of
record_reference r s d t zero f g v w e = e ∙ rw (v, w) (simp (eq-eqb (get_or r 1 0) 0 zero, f, g))

-- a record of records is whole, and one of good records is good
module _ (b : List ℕ) (i : ℕ) (h : i < length b / record_size) where
  pub record_room : i * record_size + record_size ≤ length b
  record_room = omega arith

  pub cancel : i * record_size + record_size - i * record_size ≡ record_size
  cancel = omega arith

  pub record_good : good_records b ≡ true → good_record (take record_size (drop (i * record_size) b)) ≡ true
  unfolding good_records part
  record_good g =
      is_true _ (rw (record_at b i h) at (each_good (records_of b) i (holds (all good_record (records_of b)) (and_right (some? b && eqb (length b % record_size) 0) _ g)) (omega (arith, count_is b))))

  -- what is read of a record is the reference, which is good
  pub parts_are : (r : List ℕ) → r ≡ part b (i * record_size) record_size → (o : Result Kind UnknownKind) → o ≡ kind_of (get_or r 0 0) → (kind : Kind) → o ≡ Ok kind
      → (s d : List ℕ) → s ≡ (reference_of r).service → d ≡ (reference_of r).domain → reference (kind_number kind) s d ≡ reference_at b i
  unfolding reference_at reference_of
  parts_are r r_is o o_is kind k s d s_is d_is =
      let e : get_or r 0 0 ≡ kind_number kind = is_number (get_or r 0 0) kind (sym k ∙ o_is) in
      let f : reference (kind_number kind) s d ≡ reference (get_or r 0 0) (reference_of r).service (reference_of r).domain = rw (e, s_is, d_is) in
      f ∙ rw r_is

  pub at_good : good_records b ≡ true → good_reference (reference_at b i) ≡ true
  unfolding reference_at part
  at_good g = record_says (take record_size (drop (i * record_size) b)) (record_good g)

  -- what is taken of a reference is the reference, and it is good
  module _ (g : good_records b ≡ true) (kind : ℕ) (kind_is : kind ≡ (reference_at b i).kind) (v : List ℕ) (v_is : v ≡ (reference_at b i).service)
      (d : List ℕ) (d_is : d ≡ (reference_at b i).domain) where
    pub reference_is : reference_at b i ≡ reference kind v d
    reference_is = sym (λ k. record { kind = kind_is k; service = v_is k; domain = d_is k })

    pub reference_good : good_reference (reference kind v d) ≡ true
    reference_good = ap good_reference (sym reference_is) ∙ at_good g

-- good records have a first
pub some_record : (b : List ℕ) → good_records b ≡ true → 1 ≤ length b / record_size
unfolding good_records
some_record b g =
    let p = and_left (some? b && eqb (length b % record_size) 0) _ g in
    let whole = eqb-true (length b % record_size) 0 (and_right (some? b) _ p) in
    go b (and_left (some? b) _ p) whole
  where
    go : (b : List ℕ) → some? b ≡ true → length b % record_size ≡ 0 → 1 ≤ length b / record_size
    go [] e h = absurd (true≢false (sym e))
    go (x ∷ b) e h = omega arith
