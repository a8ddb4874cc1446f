-- Request 4/13, the writers, as statements about the very names that their contracts cite: `written_by` and `buffer_by`
-- (crates/rules/specs/Writing.antt). Each field stands under the sentence that it says; proofs/Writings.antt proves them all.
use Rattle.std.specs.Prelude.{ℕ, ◌*◌, ◌≤◌, ◌<◌, ◌≡◌, ◌≢◌, List, [], ◌∷◌, ◌++◌, map, length, take, drop, T}
use Rattle.rules.specs.Bytes.{all, sum}
use Rattle.rules.specs.Records.{Reference}
use Rattle.rules.specs.Der.{run}
use Rattle.rules.specs.Seen.{listed, san_input, Sees, seen_records}
use Rattle.rules.specs.Writing.{Request, request, Writer, asked, result_of, written_by, buffer_by, Identifier, good_identifier, name_for, san_writer, record_writer}
use Rattle.demands.specs.Statements.{Answer, when, EachExactly}

-- ==== Every writer: "Refuse, in this order, .. each exactly then"

-- "lists that disagree": too few or too many lengths, or lengths that do not add up to the texts; or a name that is not taken
pub record Good {Name : Type 0} (W : Writer Name) (q : Request) : Type 0 where
  pub lengths : length q.lengths ≡ W.per * length q.kinds
  pub whole : sum q.lengths ≡ length q.texts
  pub taken : T (all W.good (asked W q))

-- "an empty list (21)", "no kinds is the empty list"; ".. (22)"; "a result over the SAN or records limit (23)"; "a buffer shorter than
-- the result (24)"
abbrev pub writer_answers : {Name : Type 0} → Writer Name → Request → ℕ → List Answer
writer_answers W q lent =
    when 21 (q.kinds ≡ [])
    ∷ when 22 (¬ Good W q)
    ∷ when 23 (W.limit < length (result_of W q))
    ∷ when 24 (lent < length (result_of W q))
    ∷ when 0 Unit
    ∷ []

pub record WriterCalls {Name : Type 0} (W : Writer Name) (q : Request) : Type 0 where
  pub order : (lent : ℕ) → EachExactly [] (writer_answers W q lent) (written_by W q lent).answer
  -- "with length 0 and the buffer untouched"
  pub no_length : (lent : ℕ) → (written_by W q lent).answer ≢ 0 → (written_by W q lent).length ≡ 0
  pub untouched : (old : List ℕ) → (written_by W q (length old)).answer ≢ 0 → buffer_by W q old ≡ old
  -- what is written, and "Bytes past the result stay."
  pub length_is : (lent : ℕ) → (written_by W q lent).answer ≡ 0 → (written_by W q lent).length ≡ length (result_of W q)
  pub result_put : (old : List ℕ) → (written_by W q (length old)).answer ≡ 0 → take (length (result_of W q)) (buffer_by W q old) ≡ result_of W q
  pub rest_stays : (old : List ℕ) → drop (written_by W q (length old)).length (buffer_by W q old) ≡ drop (written_by W q (length old)).length old
  -- stronger than the sentences: the buffer has as many bytes as before
  pub size_stays : (old : List ℕ) → length (buffer_by W q old) ≡ length old

-- ==== SAN values

-- what a list of names asks for: its kinds, and its texts end to end beside their lengths
abbrev pub san_request : List Identifier → Request
san_request l = request (map (λ i. i.kind) l) (map (λ i. length i.text) l) (run (λ i. i.text) l)

pub record SanWriter : Type 0 where
  pub calls : (q : Request) → WriterCalls san_writer q
  -- "What is written reads back as that list": it is a present, readable SAN within its limit. Nothing else is seen of it: that is so
  -- of every string (`one_seen` of Statements)
  pub present : (q : Request) → result_of san_writer q ≢ []
  pub reads_back :
      (q : Request) (lent : ℕ) → (written_by san_writer q lent).answer ≡ 0
      → Sees san_input (result_of san_writer q) (listed (map name_for (asked san_writer q)))
  -- the list that is asked for is any list of names
  pub asked_for : (l : List Identifier) → asked san_writer (san_request l) ≡ l
  -- "a present, readable SAN within its limit, made only of such names, writes back to the same bytes"
  pub writes_back :
      (bytes : List ℕ) (l : List Identifier) → bytes ≢ [] → Sees san_input bytes (listed (map name_for l)) → T (all good_identifier l)
      → (lent : ℕ) → length bytes ≤ lent
      → (written_by san_writer (san_request l) lent ≡ record { answer = 0; length = length bytes }) × (result_of san_writer (san_request l) ≡ bytes)

-- ==== Reference records

-- what a list of references asks for: "a record's service, then its domain"
abbrev pub records_request : List Reference → Request
records_request l =
    request (map (λ r. r.kind) l) (run (λ r. length r.service ∷ length r.domain ∷ []) l) (run (λ r. r.service ++ r.domain) l)

pub record RecordWriter : Type 0 where
  pub calls : (q : Request) → WriterCalls record_writer q
  -- the list that is asked for is any list of references
  pub asked_for : (l : List Reference) → asked record_writer (records_request l) ≡ l
  -- "What is written reads back as that list": it is within its limit, its records are good, and they say that list
  pub reads_back :
      (q : Request) (lent : ℕ) → (written_by record_writer q lent).answer ≡ 0
      → seen_records (result_of record_writer q) ≡ listed (asked record_writer q)
