-- The writers of SAN values and of reference records: which lists they take, what they write, what they answer, and the lent buffer
-- afterwards. Request 4/13.
use Rattle.std.specs.Prelude.{ℕ, ◌-◌, ◌*◌, Bool, false, cond, ◌&&◌, List, [], ◌∷◌, ◌++◌, map, length, drop, replicate, leb, ltb, eqb}
use Rattle.rules.specs.Bytes.{sum, cut, some?, all, ascii}
use Rattle.rules.specs.Numbers.{accepted, empty_list, not_a_name, result_too_long, buffer_too_short, san_limit, records_limit, service_size, domain_size, dns_kind, srv_kind, uri_kind}
use Rattle.rules.specs.Names.{dns_id, srv_id, uri_id}
use Rattle.rules.specs.Records.{Reference, reference, good_record}
use Rattle.rules.specs.Der.{run}
use Rattle.rules.specs.San.{GeneralName, plain, other, srv_oid, san_grammar}
use Rattle.rules.specs.declared.Written.{Written}

-- ---- what is asked for

-- "Texts come end to end .. beside their lengths and their kinds"
pub record Request : Type 0 where
  pub kinds : List ℕ
  pub lengths : List ℕ
  pub texts : List ℕ

abbrev pub request : List ℕ → List ℕ → List ℕ → Request
request kinds lengths texts = record { kinds = kinds; lengths = lengths; texts = texts }

-- "lists that disagree" are those that don't do this: so many lengths for each kind, which add up to the texts
unfoldable pub agree : ℕ → Request → Bool
agree per q = eqb (length q.lengths) (per * length q.kinds) && eqb (sum q.lengths) (length q.texts)

-- ---- a writer

-- how many texts are a name; the names, by their kinds and texts; which names are taken; what they are written as, and the limit
pub record Writer (Name : Type 0) : Type 0 where
  pub per : ℕ
  pub names : List ℕ → List (List ℕ) → List Name
  pub good : Name → Bool
  pub write : List Name → List ℕ
  pub limit : ℕ

-- the list that is asked for
unfoldable pub asked : {Name : Type 0} → Writer Name → Request → List Name
asked W q = W.names q.kinds (cut q.lengths q.texts)

-- its lists agree, and each of its names is taken
unfoldable pub good_list : {Name : Type 0} → Writer Name → Request → Bool
good_list W q = agree W.per q && all W.good (asked W q)

unfoldable pub result_of : {Name : Type 0} → Writer Name → Request → List ℕ
result_of W q = W.write (asked W q)

-- ".. with length 0"
abbrev pub refusal : ℕ → Written
refusal answer = record { answer = answer; length = 0 }

-- "a result over the SAN or records limit (23), and a buffer shorter than the result (24)"
unfoldable pub fitted : ℕ → ℕ → ℕ → Written
fitted limit size lent =
    cond (ltb limit size) (refusal result_too_long)
    (cond (ltb lent size) (refusal buffer_too_short) (record { answer = accepted; length = size }))

-- "Refuse, in this order, an empty list (21), a text that isn't a name of its kind .. (22)"; "no kinds is the empty list, lists that
-- disagree or another kind are 22"
unfoldable pub written_by : {Name : Type 0} → Writer Name → Request → ℕ → Written
written_by W q lent =
    cond (some? q.kinds)
    (cond (good_list W q) (fitted W.limit (length (result_of W q)) lent) (refusal not_a_name))
    (refusal empty_list)

-- ".. and the buffer untouched. Bytes past the result stay."
unfoldable pub buffer_by : {Name : Type 0} → Writer Name → Request → List ℕ → List ℕ
buffer_by W q old =
    cond (eqb (written_by W q (length old)).answer accepted) (result_of W q ++ drop (length (result_of W q)) old) old

-- ---- "takes a list of DNS, SRV and URI names and puts a SAN value into a lent buffer"

-- a name that is asked for
pub record Identifier : Type 0 where
  pub kind : ℕ
  pub text : List ℕ

abbrev pub identifier : ℕ → List ℕ → Identifier
identifier kind text = record { kind = kind; text = text }

-- one text for each kind
unfoldable pub identifiers : List ℕ → List (List ℕ) → List Identifier
identifiers [] texts = []
identifiers (k ∷ kinds) [] = []
identifiers (k ∷ kinds) (t ∷ texts) = identifier k t ∷ identifiers kinds texts

-- "kinds, numbered as in a record"; "another kind" has no names
unfoldable pub id_of_kind : ℕ → List ℕ → Bool
id_of_kind kind text =
    cond (eqb kind dns_kind) (dns_id text) (cond (eqb kind srv_kind) (srv_id text) (cond (eqb kind uri_kind) (uri_id text) false))

-- "a text that isn't a name of its kind or has a byte above 127" is not taken
unfoldable pub good_identifier : Identifier → Bool
good_identifier i = ascii i.text && id_of_kind i.kind i.text

-- a dNSName, an SRVName or a URI
unfoldable pub name_for : Identifier → GeneralName
name_for i =
    cond (eqb i.kind dns_kind) (plain 0x82 i.text)
    (cond (eqb i.kind srv_kind) (other srv_oid 0x16 i.text) (plain 0x86 i.text))

abbrev pub san_writer : Writer Identifier
san_writer = record {
  per = 1;
  names = identifiers;
  good = good_identifier;
  write = λ l. san_grammar.write (map name_for l);
  limit = san_limit;
}

-- ---- "makes reference records from kind, service and domain"

-- "(a record's service, then its domain)": two texts for each kind
unfoldable pub references : List ℕ → List (List ℕ) → List Reference
references [] texts = []
references (k ∷ kinds) [] = []
references (k ∷ kinds) (s ∷ []) = []
references (k ∷ kinds) (s ∷ d ∷ texts) = reference k s d ∷ references kinds texts

-- a text in its field: what it leaves free stays zero
unfoldable pub field : ℕ → List ℕ → List ℕ
field size text = text ++ replicate (size - length text) 0

-- "the latter starts from a blank record of 320 zero bytes": kind, 0, the two lengths, the two fields
unfoldable pub record_for : Reference → List ℕ
record_for r =
    r.kind ∷ 0 ∷ length r.service ∷ length r.domain ∷ (field service_size r.service ++ field domain_size r.domain)

unfoldable pub fields_hold : Reference → Bool
fields_hold r = leb (length r.service) service_size && leb (length r.domain) domain_size

-- "a record whose fields can't hold its texts or that its reader refuses" is not taken
unfoldable pub good_to_write : Reference → Bool
good_to_write r = fields_hold r && good_record (record_for r)

abbrev pub record_writer : Writer Reference
record_writer = record { per = 2; names = references; good = good_to_write; write = run record_for; limit = records_limit }
