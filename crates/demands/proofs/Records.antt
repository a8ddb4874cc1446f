-- The record reader: its answers in order, and that it shows the references that the verdict judges.
use Prim.Native.Nat.{ℕ, zero, suc, ◌%◌, ◌≤◌, ◌<◌}
use mathlib.Core.Path.{◌≡◌, refl, sym, ap, ◌∙◌}
use mathlib.Core.Logic.{◌≢◌, inl, inr}
use mathlib.Core.Bool.{Bool, true, false, ◌&&◌}
use mathlib.Core.Option.{some, some-injective}
use mathlib.Core.List.{List, [], ◌∷◌, map}
use native.Mathlib.Omega.{arith}
use lib.ListN.{length, get_or, get_elem?, take, drop, length-take, length-map}
use lib.Dec.{T, leb, eqb, ltb, leb→le}
use borrow.Author.Tests.{ltb-true, ltb-false}
use Rattle.rules.specs.Bytes.{part, some?, all}
use Rattle.rules.specs.Numbers.{record_size, records_limit, service_length_at, domain_length_at, service_at, service_size, domain_at, domain_size}
use Rattle.rules.specs.Records.{Reference, reference_of, filled, good_reference, good_record, records_of, good_records, references_of, shown_at, shown}
use Rattle.rules.specs.Seen.{too_long, unreadable, listed, seen_records}
use Rattle.reading.specs.Answers.{no_some, and_parts}
use Rattle.demands.specs.Statements.{four, record_answers, Records}
use Rattle.demands.proofs.Order.{Chosen, each_exactly}
use Rattle.demands.proofs.Looked.{same_list, records_long, records_bad, records_good}

-- a text that fits its field is as long as its length byte says
field_length : (b : List ℕ) (start size n : ℕ) → T (filled (part b start size) n) → length (part b start n) ≡ n
unfolding filled part
field_length b start size n h =
    let p : n ≤ length (take size (drop start b)) = leb→le _ _ (and_parts (leb n (length (take size (drop start b)))) _ h).0 in
    let q = length-take size (drop start b) in
    length-take n (drop start b) ∙ omega arith

-- what a good record shows is what its reference says
good_shown : (b : List ℕ) → T (good_record b)
    → four 0 (get_or b 0 0) (get_or b 2 0) (get_or b 3 0) ≡ four 0 (reference_of b).kind (length (reference_of b).service) (length (reference_of b).domain)
unfolding good_record reference_of
good_shown b h =
    let x = (and_parts (eqb (get_or b 1 0) 0 && filled (part b service_at service_size) (get_or b service_length_at 0) && filled (part b domain_at domain_size) (get_or b domain_length_at 0)) (good_reference (reference_of b)) h).0 in
    let y = and_parts (eqb (get_or b 1 0) 0 && filled (part b service_at service_size) (get_or b service_length_at 0)) (filled (part b domain_at domain_size) (get_or b domain_length_at 0)) x in
    let z = and_parts (eqb (get_or b 1 0) 0) (filled (part b service_at service_size) (get_or b service_length_at 0)) y.0 in
    let s = field_length b service_at service_size (get_or b service_length_at 0) z.1 in
    let d = field_length b domain_at domain_size (get_or b domain_length_at 0) y.1 in
    λ k. four 0 (get_or b 0 0) (sym s k) (sym d k)

-- of good records, the i-th is shown as its reference; past the last zeros are; the answer is 0
shown_at_lem : (bs : List (List ℕ)) → T (all good_record bs) → (i : ℕ) (r : Reference) → get_elem? (map reference_of bs) i ≡ some r
    → shown_at bs i ≡ four 0 r.kind (length r.service) (length r.domain)
unfolding shown_at
shown_at_lem [] g i r e = absurd (no_some e)
shown_at_lem (b ∷ bs) g zero r e =
    good_shown b (and_parts (good_record b) (all good_record bs) g).0
    ∙ ap (λ x. four 0 x.kind (length x.service) (length x.domain)) (some-injective (reference_of b) r e)
shown_at_lem (b ∷ bs) g (suc i) r e = shown_at_lem bs (and_parts (good_record b) (all good_record bs) g).1 i r e

shown_past : (bs : List (List ℕ)) (i : ℕ) → length bs ≤ i → shown_at bs i ≡ four 0 0 0 0
unfolding shown_at
shown_past [] i h = refl
shown_past (b ∷ bs) zero h = absurd (omega arith)
shown_past (b ∷ bs) (suc i) h = shown_past bs i (omega arith)

shown_zero : (bs : List (List ℕ)) (i : ℕ) → (shown_at bs i).answer ≡ 0
unfolding shown_at
shown_zero [] i = refl
shown_zero (b ∷ bs) zero = refl
shown_zero (b ∷ bs) (suc i) = shown_zero bs i

-- the three cases of our records
data Case (b : List ℕ) (i : ℕ) : Type 0 where
  long : records_limit < length b → shown b i ≡ four 7 0 0 0 → seen_records b ≡ too_long → Case b i
  bad : length b ≤ records_limit → ¬ T (good_records b) → shown b i ≡ four 6 0 0 0 → seen_records b ≡ unreadable → Case b i
  good : length b ≤ records_limit → T (good_records b) → shown b i ≡ shown_at (records_of b) i → seen_records b ≡ listed (references_of b) → Case b i

-- every input is one of these
case : (b : List ℕ) (i : ℕ) → Case b i
unfolding shown
case b i = go (ltb records_limit (length b)) (good_records b) refl refl
  where
    go : (t g : Bool) → ltb records_limit (length b) ≡ t → good_records b ≡ g → Case b i
    go true g e f = long (ltb-true _ _ e) (simp (e, shown)) (records_long b (ltb-true _ _ e))
    go false true e f = good (ltb-false _ _ e) (rw f tt) (simp (e, f, shown)) (records_good b (ltb-false _ _ e) f)
    go false false e f = bad (ltb-false _ _ e) (rw f (λ h. h)) (simp (e, f, shown)) (records_bad b (ltb-false _ _ e) f)

module _ (b : List ℕ) (i : ℕ) where
  -- records that are good say so test by test
  all_good : T (good_records b) → T (all good_record (records_of b))
  unfolding good_records
  all_good g = (and_parts (some? b && eqb (length b % record_size) 0) (all good_record (records_of b)) g).1

  -- the statements of Records, one by one
  chosen : Case b i → Chosen (record_answers b) (shown b i).answer
  chosen (long h e q) =
      let a = ap (λ x. x.answer) e in
      inl (h, a, omega arith)
  chosen (bad f h e q) =
      let a = ap (λ x. x.answer) e in
      inr (omega arith, omega arith, inl (h, a, omega arith))
  chosen (good f h e q) =
      let a = ap (λ x. x.answer) e ∙ shown_zero (records_of b) i in
      inr (omega arith, omega arith, inr (λ n. n h, omega arith, inl (tt, a, tt)))

  refused : Case b i → (shown b i).answer ≢ 0 → shown b i ≡ four (shown b i).answer 0 0 0
  refused (long h e q) n = e ∙ ap (λ x. four x.answer 0 0 0) (sym e)
  refused (bad f h e q) n = e ∙ ap (λ x. four x.answer 0 0 0) (sym e)
  refused (good f h e q) n = absurd (n (ap (λ x. x.answer) e ∙ shown_zero (records_of b) i))

  -- readable records are the good ones
  readable : (l : List Reference) → seen_records b ≡ listed l → Case b i → T (good_records b) × (shown b i ≡ shown_at (records_of b) i) × (l ≡ references_of b)
  readable l k (long h e q) = let z : ◌≡◌ {A = ℕ} 0 1 = cc in absurd (omega arith)
  readable l k (bad f h e q) = let z : ◌≡◌ {A = ℕ} 0 1 = cc in absurd (omega arith)
  readable l k (good f h e q) = (h, e, same_list k q)

  past_last : (l : List Reference) → seen_records b ≡ listed l → length l ≤ i → shown b i ≡ four 0 0 0 0
  unfolding references_of
  past_last l k h =
      let c = readable l k (case b i) in
      let n : length l ≡ length (records_of b) = ap length c.2 ∙ length-map (records_of b) reference_of in
      c.1 ∙ shown_past (records_of b) i (omega arith)

  record_at : (l : List Reference) (r : Reference) → seen_records b ≡ listed l → get_elem? l i ≡ some r
      → shown b i ≡ four 0 r.kind (length r.service) (length r.domain)
  unfolding references_of
  record_at l r k f =
      let c = readable l k (case b i) in
      c.1 ∙ shown_at_lem (records_of b) (all_good c.0) i r (ap (λ x. get_elem? x i) (sym c.2) ∙ f)

  pub records : Records b i
  records = record {
    order = each_exactly [] (record_answers b) (shown b i).answer tt (chosen (case b i));
    refused = refused (case b i);
    past_last = past_last;
    record_at = record_at;
  }
