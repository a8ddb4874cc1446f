-- The writers do what request 4/13 says.
use Prim.Native.Nat.{ℕ, ◌*◌, ◌/◌, ◌%◌, ◌≤◌, ◌<◌}
use mathlib.Core.Path.{◌≡◌, refl, sym, ap, ◌∙◌}
use mathlib.Core.Logic.{◌≢◌, inl, inr}
use mathlib.Core.Bool.{true, false}
use mathlib.Core.List.{List, [], ◌∷◌, ◌++◌, map, append_assoc}
use native.Mathlib.Omega.{arith}
use lib.ListN.{length, take, drop, length-append, length-drop, length-map}
use lib.Seq.{take-append_seam, drop-append_seam, take_at, drop_at}
use lib.Dec.{T, eqb, ltb}
use borrow.Author.Tests.{eq-eqb, ne_eqb, eqb-true, eqb-false, le-ltb, ltb-true, ltb-false}
use Rattle.rules.specs.Bytes.{some?, all, same, ascii, begins, cut, sum}
use Rattle.rules.specs.Numbers.{record_size}
use Rattle.rules.specs.Names.{srv_id}
use Rattle.rules.specs.Records.{Reference, reference_of, good_record, split, records_of, good_records, references_of}
use Rattle.rules.specs.Der.{element, run}
use Rattle.rules.specs.San.{good_name, good_value, sealed, good_srv_name, san_grammar}
use Rattle.rules.specs.Seen.{listed, san_input, Sees, seen_records}
use Rattle.rules.specs.Writing.{Request, agree, Writer, asked, good_list, result_of, refusal, fitted, written_by, buffer_by, Identifier, identifiers, id_of_kind, good_identifier, name_for, san_writer, references, record_for, fields_hold, good_to_write, record_writer}
use Rattle.rules.specs.declared.Written.{Written}
use Rattle.rules.proofs.Cases.{by_cases, is_true, holds, and_left, and_right, clash}
use Rattle.reading.specs.Written.{texts_fit, is_good, says_it, long_320, run_length}
use Rattle.demands.specs.Writing.{Good, writer_answers, WriterCalls, san_request, SanWriter, records_request, RecordWriter}
use Rattle.demands.proofs.Order.{Chosen, each_exactly}

none_of : {A : Type 0} (l : List A) → some? l ≡ false → l ≡ []
none_of [] e = refl
none_of (a ∷ l) e = clash refl e

-- ==== every writer

module _ {Name : Type 0} (W : Writer Name) (q : Request) where
  good_says : good_list W q ≡ true → Good W q
  unfolding good_list agree
  good_says e =
      let a = and_left (agree W.per q) (all W.good (asked W q)) e in
      record {
        lengths = eqb-true _ _ (and_left (eqb (length q.lengths) (W.per * length q.kinds)) _ a);
        whole = eqb-true _ _ (and_right (eqb (length q.lengths) (W.per * length q.kinds)) _ a);
        taken = holds _ (and_right (agree W.per q) (all W.good (asked W q)) e);
      }

  says_good : Good W q → good_list W q ≡ true
  unfolding good_list agree
  says_good g =
      rw (eq-eqb (length q.lengths) (W.per * length q.kinds) g.lengths, eq-eqb (sum q.lengths) (length q.texts) g.whole)
      (is_true _ g.taken)

  abbrev size : ℕ
  size = length (result_of W q)

  -- the five ways in which a call ends
  by_ending :
      (P : Written → Type 0) (lent : ℕ)
      → (some? q.kinds ≡ false → P (refusal 21))
      → (some? q.kinds ≡ true → good_list W q ≡ false → P (refusal 22))
      → (some? q.kinds ≡ true → good_list W q ≡ true → W.limit < size → P (refusal 23))
      → (some? q.kinds ≡ true → good_list W q ≡ true → size ≤ W.limit → lent < size → P (refusal 24))
      → (some? q.kinds ≡ true → good_list W q ≡ true → size ≤ W.limit → size ≤ lent → P (record { answer = 0; length = size }))
      → P (written_by W q lent)
  unfolding written_by fitted
  by_ending P lent empty bad over short room =
      by_cases (some? q.kinds)
      (λ k. by_cases (good_list W q)
      (λ g. by_cases (ltb W.limit size) (λ s. rw (k, g, s) (over k g (ltb-true W.limit size s)))
      (λ s. by_cases (ltb lent size) (λ t. rw (k, g, s, t) (short k g (ltb-false W.limit size s) (ltb-true lent size t)))
      (λ t. rw (k, g, s, t) (room k g (ltb-false W.limit size s) (ltb-false lent size t)))))
      (λ g. rw (k, g) (bad k g)))
      (λ k. rw k (empty k))

  some_kinds : some? q.kinds ≡ true → q.kinds ≡ [] → ⊥
  some_kinds k e = clash k (ap some? e)

  answered : (lent : ℕ) → Chosen (writer_answers W q lent) (written_by W q lent).answer
  answered lent =
      by_ending (λ w. Chosen (writer_answers W q lent) w.answer) lent
      (λ k. inl (none_of q.kinds k, refl, omega arith))
      (λ k g. inr (some_kinds k, omega arith, inl (λ h. clash (says_good h) g, refl, omega arith)))
      (λ k g s. inr (some_kinds k, omega arith, inr (λ b. b (good_says g), omega arith, inl (s, refl, omega arith))))
      (λ k g s t. inr (some_kinds k, omega arith, inr (λ b. b (good_says g), omega arith, inr (omega (arith, s), omega arith, inl (t, refl, omega arith)))))
      (λ k g s t.
      inr (some_kinds k, omega arith, inr (λ b. b (good_says g), omega arith, inr (omega (arith, s), omega arith, inr (omega (arith, t), omega arith, inl (tt, refl, tt))))))

  refused : (lent : ℕ) → (written_by W q lent).answer ≢ 0 → (written_by W q lent).length ≡ 0
  refused lent =
      by_ending (λ w. w.answer ≢ 0 → w.length ≡ 0) lent (λ k n. refl) (λ k g n. refl) (λ k g s n. refl) (λ k g s t n. refl)
      (λ k g s t n. absurd (n refl))

  -- what an answer 0 says
  record Accepted (w : Written) (lent : ℕ) : Type 0 where
    kinds : some? q.kinds ≡ true
    good : good_list W q ≡ true
    within : size ≤ W.limit
    room : size ≤ lent
    length_is : w.length ≡ size

  accepted : (lent : ℕ) → (written_by W q lent).answer ≡ 0 → Accepted (written_by W q lent) lent
  accepted lent =
      by_ending (λ w. w.answer ≡ 0 → Accepted w lent) lent
      (λ k z. absurd (omega (arith, z)))
      (λ k g z. absurd (omega (arith, z)))
      (λ k g s z. absurd (omega (arith, z)))
      (λ k g s t z. absurd (omega (arith, z)))
      (λ k g s t z. record { kinds = k; good = g; within = s; room = t; length_is = refl })

  -- and when it is given
  is_accepted : (lent : ℕ) → some? q.kinds ≡ true → good_list W q ≡ true → size ≤ W.limit → size ≤ lent
      → written_by W q lent ≡ record { answer = 0; length = size }
  unfolding written_by fitted
  is_accepted lent k g s t = rw (k, g, le-ltb W.limit size s, le-ltb lent size t)

  module _ (old : List ℕ) where
    untouched : (written_by W q (length old)).answer ≢ 0 → buffer_by W q old ≡ old
    unfolding buffer_by
    untouched n = rw (ne_eqb (written_by W q (length old)).answer 0 n)

    put : (written_by W q (length old)).answer ≡ 0 → buffer_by W q old ≡ result_of W q ++ drop size old
    unfolding buffer_by
    put z = rw (eq-eqb (written_by W q (length old)).answer 0 z)

    rest_stays : drop (written_by W q (length old)).length (buffer_by W q old) ≡ drop (written_by W q (length old)).length old
    rest_stays =
        by_cases (eqb (written_by W q (length old)).answer 0)
        (λ e.
        let z = eqb-true (written_by W q (length old)).answer 0 e in
        rw (put z, (accepted (length old) z).length_is) (drop-append_seam (result_of W q) (drop size old)))
        (λ e. rw (untouched (eqb-false (written_by W q (length old)).answer 0 e)))

    size_stays : length (buffer_by W q old) ≡ length old
    size_stays =
        by_cases (eqb (written_by W q (length old)).answer 0)
        (λ e.
        let z = eqb-true (written_by W q (length old)).answer 0 e in
        let r = (accepted (length old) z).room in
        rw (put z, length-append) (omega (arith, length-drop size old)))
        (λ e. rw (untouched (eqb-false (written_by W q (length old)).answer 0 e)))

  pub calls : WriterCalls W q
  calls = record {
    order = λ lent. each_exactly [] (writer_answers W q lent) _ tt (answered lent);
    no_length = refused;
    untouched = untouched;
    length_is = λ lent z. (accepted lent z).length_is;
    result_put = λ old z. ap (take size) (put old z) ∙ take-append_seam (result_of W q) (drop size old);
    rest_stays = rest_stays;
    size_stays = size_stays;
  }

-- ==== SAN values

-- a name that is taken is one that the grammar writes
srv_some : (t : List ℕ) → srv_id t ≡ true → some? t ≡ true
unfolding srv_id begins
srv_some [] e = e
srv_some (x ∷ t) e = refl

name_good : (i : Identifier) → good_identifier i ≡ true → good_name (name_for i) ≡ true
unfolding good_identifier id_of_kind name_for good_name good_value sealed good_srv_name same
name_good i e =
    let a = and_left (ascii i.text) _ e in
    let k = and_right (ascii i.text) _ e in
    by_cases (eqb i.kind 1) (λ f. rw (f, a))
    (λ f. by_cases (eqb i.kind 2) (λ g. rw (f, g, srv_some i.text (rw (f, g) at k), a)) (λ g. rw (f, g, a)))

names_good : (l : List Identifier) → all good_identifier l ≡ true → all good_name (map name_for l) ≡ true
names_good [] e = refl
names_good (i ∷ l) e =
    rw (name_good i (and_left (good_identifier i) _ e)) (names_good l (and_right (good_identifier i) _ e))

-- a list with kinds has names
identifiers_some : (ks ns ts : List ℕ) → length ns ≡ length ks → some? ks ≡ true → some? (map name_for (identifiers ks (cut ns ts))) ≡ true
unfolding identifiers cut
identifiers_some [] ns ts e k = k
identifiers_some (x ∷ ks) [] ts e k = absurd (omega arith)
identifiers_some (x ∷ ks) (n ∷ ns) ts e k = refl

san_reads_back : (q : Request) (lent : ℕ) → (written_by san_writer q lent).answer ≡ 0
    → Sees san_input (result_of san_writer q) (listed (map name_for (asked san_writer q)))
unfolding result_of asked
san_reads_back q lent z =
    let a = accepted san_writer q lent z in
    let g = good_says san_writer q a.good in
    let some = identifiers_some q.kinds q.lengths q.texts (omega (arith, g.lengths)) a.kinds in
    let names = names_good (asked san_writer q) (is_true _ g.taken) in
    (a.within, inl (record { good = rw (names, some) tt; bytes_are = refl }))

san_present : (q : Request) → result_of san_writer q ≢ []
unfolding result_of element
san_present q e = let z = ap length e in omega arith

-- what a list asks for is that list, and its lists agree
asked_for : (l : List Identifier) → asked san_writer (san_request l) ≡ l
unfolding asked cut identifiers run
asked_for [] = refl
asked_for (i ∷ l) = rw (take-append_seam, drop-append_seam, asked_for l)

request_whole : (l : List Identifier) → sum (san_request l).lengths ≡ length (san_request l).texts
unfolding sum run
request_whole [] = refl
request_whole (i ∷ l) = rw (length-append, request_whole l)

san_writes_back : (b : List ℕ) (l : List Identifier) → b ≢ [] → Sees san_input b (listed (map name_for l)) → T (all good_identifier l)
    → (lent : ℕ) → length b ≤ lent
    → (written_by san_writer (san_request l) lent ≡ record { answer = 0; length = length b }) × (result_of san_writer (san_request l) ≡ b)
unfolding result_of
san_writes_back b l present (within, inr absent) good lent room = absurd (present absent.1)
san_writes_back b l present (within, inl w) good lent room = (rw (← bytes) taken, bytes)
  where
    bytes : result_of san_writer (san_request l) ≡ b
    bytes = ap (λ l. san_grammar.write (map name_for l)) (asked_for l) ∙ sym w.bytes_are

    some_kinds_of : (l : List Identifier) → some? (map name_for l) ≡ true → some? (map (λ i. i.kind) l) ≡ true
    some_kinds_of [] e = e
    some_kinds_of (i ∷ l) e = refl

    taken : written_by san_writer (san_request l) lent ≡ record { answer = 0; length = length (result_of san_writer (san_request l)) }
    taken =
        is_accepted san_writer (san_request l) lent (some_kinds_of l (and_right (all good_name (map name_for l)) _ (is_true _ w.good)))
        (says_good san_writer (san_request l) (record {
          lengths = rw (length-map, length-map) (omega arith);
          whole = request_whole l;
          taken = rw (asked_for l) good;
        })) (rw bytes within) (rw bytes room)

pub san_writer_lem : SanWriter
san_writer_lem = record {
  calls = calls san_writer;
  present = san_present;
  reads_back = san_reads_back;
  asked_for = asked_for;
  writes_back = san_writes_back;
}

-- ==== reference records

-- what is cut off is a record, and what is left the others
run_split : (l : List Reference) → all good_to_write l ≡ true → split (length l) (run record_for l) ≡ map record_for l
unfolding split run
run_split [] e = refl
run_split (r ∷ l) e =
    let n = long_320 r (and_left (good_to_write r) _ e) in
    rw (take_at (record_for r) (run record_for l) 320 n, drop_at (record_for r) (run record_for l) 320 n, run_split l (and_right (good_to_write r) _ e))

records_good : (l : List Reference) → all good_to_write l ≡ true → all good_record (map record_for l) ≡ true
unfolding good_to_write
records_good [] e = refl
records_good (r ∷ l) e =
    rw (and_right (fields_hold r) _ (and_left (good_to_write r) _ e)) (records_good l (and_right (good_to_write r) _ e))

records_say : (l : List Reference) → all good_to_write l ≡ true → map reference_of (map record_for l) ≡ l
records_say [] e = refl
records_say (r ∷ l) e =
    let f = texts_fit r (is_good r (and_left (good_to_write r) _ e)) in
    rw (says_it r f.service f.domain, records_say l (and_right (good_to_write r) _ e))

references_some : (ks ns ts : List ℕ) → length ns ≡ 2 * length ks → some? ks ≡ true → some? (run record_for (references ks (cut ns ts))) ≡ true
unfolding references cut run record_for
references_some [] ns ts e k = k
references_some (x ∷ ks) [] ts e k = absurd (omega arith)
references_some (x ∷ ks) (n ∷ []) ts e k = absurd (omega arith)
references_some (x ∷ ks) (n ∷ m ∷ ns) ts e k = refl

module _ (q : Request) (lent : ℕ) (z : (written_by record_writer q lent).answer ≡ 0) where
  answer : Accepted record_writer q (written_by record_writer q lent) lent
  answer = accepted record_writer q lent z

  taken : Good record_writer q
  taken = good_says record_writer q answer.good

  all_taken : all good_to_write (asked record_writer q) ≡ true
  all_taken = is_true _ taken.taken

  size_is : length (result_of record_writer q) ≡ length (asked record_writer q) * record_size
  unfolding result_of
  size_is = run_length (asked record_writer q) all_taken

  split_so : records_of (result_of record_writer q) ≡ map record_for (asked record_writer q)
  unfolding records_of result_of
  split_so =
      let n : length (result_of record_writer q) / 320 ≡ length (asked record_writer q) = omega (arith, size_is) in
      rw n (run_split (asked record_writer q) all_taken)

  has_bytes : some? (result_of record_writer q) ≡ true
  unfolding result_of asked
  has_bytes = references_some q.kinds q.lengths q.texts taken.lengths answer.kinds

  good_records_lem : good_records (result_of record_writer q) ≡ true
  unfolding good_records
  good_records_lem = rw (has_bytes, eq-eqb (length (result_of record_writer q) % 320) 0 (omega (arith, size_is)), split_so) (records_good (asked record_writer q) all_taken)

  says_asked : references_of (result_of record_writer q) ≡ asked record_writer q
  unfolding references_of
  says_asked = ap (map reference_of) split_so ∙ records_say (asked record_writer q) all_taken

  reads_back : seen_records (result_of record_writer q) ≡ listed (asked record_writer q)
  unfolding seen_records
  reads_back = rw (le-ltb 5120 (length (result_of record_writer q)) answer.within, good_records_lem, says_asked)

references_asked : (l : List Reference) → asked record_writer (records_request l) ≡ l
unfolding asked cut references run
references_asked [] = refl
references_asked (r ∷ l) =
    rw (append_assoc r.service r.domain (records_request l).texts, take-append_seam, drop-append_seam, take-append_seam, drop-append_seam, references_asked l)

pub record_writer_lem : RecordWriter
record_writer_lem = record {
  calls = calls record_writer;
  asked_for = references_asked;
  reads_back = reads_back;
}
