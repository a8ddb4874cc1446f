-- The laws that the functions' proofs search: one for each return and each step of a loop.
use Prim.Native.Nat.{ℕ, ◌/◌, ◌%◌, ◌≤◌, ◌<◌}
use mathlib.Core.Path.{◌≡◌, refl, sym, ◌∙◌}
use mathlib.Core.Bool.{Bool, true, false}
use mathlib.Core.List.{List, [], ◌∷◌}
use native.Mathlib.Omega.{arith}
use lib.ListN.{length}
use lib.Seq.{take-length}
use denote.Ref.{Bor}
use borrow.Author.Tests.{eq-eqb, ne_eqb, le-leb, lt-leb, le-ltb}
use Rattle.std.specs.Prelude.{Err, Option, None, Some, MatchOption}
use Rattle.std.specs.Option.{option_map}
use Rattle.std.specs.List.{list_all, slice_get}
use Rattle.std.proofs.lemmas.Bool.Decides.{nat_tests}
use Rattle.octets.proofs.Cases.{none_is, some_is}
use Rattle.words.specs.Words.{every, zero?}
use Rattle.rules.specs.Bytes.{all}
use Rattle.rules.specs.Numbers.{record_size, records_limit, accepted, kind_of}
use Rattle.rules.specs.Records.{filled, good_service, good_record, records_of, good_records, no_record, shown}
use Rattle.rules.specs.declared.UnknownKind.{UnknownKind}
use Rattle.records.specs.Read.{showing}
use Rattle.records.proofs.Split.{record_long, shown_none, shown_some}

-- ---- filled

module _ (field : List ℕ) (n : ℕ) where
  pub filled_short : length field < n → false ≡ filled field n
  unfolding filled
  filled_short h = simp (lt-leb n (length field) h)

  pub filled_rest : (r : Bool) → n ≤ length field → r ≡ every zero? field n (length field) → r ≡ filled field n
  unfolding filled every
  filled_rest r h e = e ∙ rw (take-length field) (simp (le-leb n (length field) h))

-- ---- good_reference

-- a byte that is no kind's number
pub no_number : (n : ℕ) (e : UnknownKind) (s : List ℕ) → Err e ≡ kind_of n → good_service n s ≡ false
unfolding good_service
no_number n e s h = grind (arith, nat_tests)

-- ---- good_records

all_is : (l : List (List ℕ)) → all good_record l ≡ list_all good_record l
all_is [] = refl
all_is (r ∷ l) = rw (all_is l)

-- no bytes, a part of a record, and whole records
pub none : (b : List ℕ) → length b ≡ 0 → false ≡ good_records b
unfolding good_records
none b h = rw (none_is b h)

pub uneven : (b : List ℕ) → (length b ≡ 0 → ⊥) → (length b % record_size ≡ 0 → ⊥) → false ≡ good_records b
unfolding good_records
uneven b h k = simp (some_is b h, ne_eqb (length b % record_size) 0 k)

pub whole : (b : List ℕ) → (length b ≡ 0 → ⊥) → length b % record_size ≡ 0 → (r : Bool) → r ≡ list_all good_record (records_of b) → r ≡ good_records b
unfolding good_records
whole b h k r e = e ∙ simp (some_is b h, eq-eqb (length b % record_size) 0 k, all_is (records_of b))

-- ---- what is shown

pub show_good : (b : List ℕ) (i : ℕ) → length b ≤ records_limit → good_records b ≡ true → (o : Option (Bor (List ℕ))) → option_map (λ x. x.now) o ≡ slice_get (records_of b) i
    → MatchOption o (shown b i ≡ no_record accepted) (λ x. (length x.now ≡ record_size) × (shown b i ≡ showing x.now))
unfolding shown records_of
show_good b i fits g None e = simp (le-ltb records_limit (length b) fits, g) (shown_none (records_of b) i (sym e))
show_good b i fits g (Some x) e =
    (record_long (length b / record_size) b i x.now (sym e) (omega arith), simp (le-ltb records_limit (length b) fits, g) (shown_some (records_of b) i x.now (sym e)))
