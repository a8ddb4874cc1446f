-- The three demands on the name check, as statements about the very names that the public contracts cite: `outcome_on`,
-- `verdict_on` and their fellows, `listing_on`, `table_on` (crates/reading/specs/Calls.antt) and `shown`. Each field stands under the
-- sentence that it says, of the demand or of document 01; proofs/Demands.antt proves them all.
use Rattle.std.specs.Prelude.{ℕ, zero, suc, ◌+◌, ◌-◌, ◌%◌, ◌≤◌, ◌<◌, ◌≡◌, ◌↔◌, ◌≢◌, ◌⊎◌, cond, List, [], ◌∷◌, ◌++◌, map, length, take, drop, T, eqb, ltb}
use Rattle.std.proofs.Math.Option.{some}
use Rattle.std.proofs.Math.ListN.{get_elem?}
use Rattle.rules.specs.Bytes.{part}
use Rattle.rules.specs.Numbers.{san_limit, subject_limit, constraints_limit, records_limit, most_issuers, dns_kind, srv_kind, uri_kind, cn_kind}
use Rattle.rules.specs.Numbers.{san_unreadable, subject_unreadable, constraints_unreadable}
use Rattle.rules.specs.Names.{dns_matches, srv_matches, uri_matches}
use Rattle.rules.specs.Records.{Reference, good_records, shown}
use Rattle.rules.specs.Der.{Member, Group, groups, length_bytes, element, run, Writes}
use Rattle.rules.specs.San.{GeneralName, plain, other, srv_oid, write_name}
use Rattle.rules.specs.Subject.{Attribute, is_cn, cn_oid, cn_tag, write_attribute, write_set}
use Rattle.rules.specs.Constraints.{write_subtree, write_side}
use Rattle.rules.specs.Seen.{Seen, listed, Input, san_input, subject_input, constraints_input, Reads, Sees, together, seen_records}
use Rattle.rules.specs.Matching.{Presented, presented_to, matches, blocks_cn, sole_cn, breaks}
use Rattle.rules.specs.Verdict.{numbers, past, outcome_of, with_place, all_numbers}
use Rattle.rules.specs.declared.Row.{Row}
use Rattle.rules.specs.declared.Shown.{Shown}
use Rattle.demands.specs.Issuers.{BreaksString, KeptOut}
use Rattle.reading.specs.Calls.{Inputs, outcome_on, verdict_on, witness_text_on, witness_part_on, witness_place_on, listing_on, table_on}

-- ==== What is spoken of

-- what the record reader shows: answer, kind, and the lengths of service and domain
abbrev pub four : ℕ → ℕ → ℕ → ℕ → Shown
four answer kind service domain = record { answer = answer; kind = kind; service = service; domain = domain }

-- ---- the three certificate strings

-- what stands before the content of an element
abbrev pub head : ℕ → List ℕ → List ℕ
head tag content = tag ∷ length_bytes (length content)

-- what is written before the i-th name of groups that stand side by side, each an element around its names: all of an earlier
-- group, and of the name's own group its head and the names before it
module _ {A : Type 0} (write : A → List ℕ) (tag : Group A → ℕ) where
  unfoldable pub front_in_groups : ℕ → List (Group A) → List ℕ
  front_in_groups i [] = []
  front_in_groups i (g ∷ gs) =
      let content = run write g.members in
      cond (ltb i (length g.members))
      (head (tag g) content ++ run write (take i g.members))
      (element (tag g) content ++ front_in_groups (i - length g.members) gs)

-- "Kinds: tag's low five bits; 9 for an SRVName"
abbrev pub NameKind : GeneralName → ℕ → Type 0
NameKind (plain tag content) kind = kind ≡ tag % 32
NameKind (other oid tag content) kind = (oid ≡ srv_oid → kind ≡ 9) × (oid ≢ srv_oid → kind ≡ 0xA0 % 32)

-- "in a subject 10 for a CN with tag 0C, 13 or 16, 11 for another CN, 12 otherwise"
abbrev pub AttributeKind : Attribute → ℕ → Type 0
AttributeKind a kind =
    (a.oid ≡ cn_oid → CnTag a.tag → kind ≡ 10)
    × (a.oid ≡ cn_oid → ¬ CnTag a.tag → kind ≡ 11)
    × (a.oid ≢ cn_oid → kind ≡ 12)
  where
    CnTag : ℕ → Type 0
    CnTag tag = (tag ≡ 0x0C) ⊎ (tag ≡ 0x13) ⊎ (tag ≡ 0x16)

-- a certificate string: the names of its lists, its limit and grammar, and its own refusal
pub record CertificateString : Type 1 where
  pub Name : Type 0
  pub input : Input Name
  pub refusal : ℕ
  -- "the name's element as written (the GeneralName, or the attribute's SEQUENCE)"
  pub element : Name → List ℕ
  -- the bytes written before the element of the name at an index of a list
  pub front : List Name → ℕ → Name → List ℕ
  -- the kind of a name's row
  pub Kind : Name → ℕ → Type 0
  -- "Group: entry index, RDN index, or 0 permitted and 1 excluded": of the name at an index
  pub group : ℕ → Name → ℕ

abbrev pub san_string : CertificateString
san_string = record {
  Name = GeneralName;
  input = san_input;
  refusal = san_unreadable;
  element = write_name;
  front = λ list i name. head 0x30 (run write_name list) ++ run write_name (take i list);
  Kind = NameKind;
  group = λ i name. i;
}

abbrev pub subject_string : CertificateString
subject_string = record {
  Name = Member Attribute;
  input = subject_input;
  refusal = subject_unreadable;
  element = λ attribute. write_attribute attribute.value;
  front = λ list i attribute. head 0x30 (run write_set (groups list)) ++ front_in_groups write_attribute (λ g. 0x31) i (groups list);
  Kind = λ attribute. AttributeKind attribute.value;
  group = λ i attribute. attribute.group;
}

-- a subtree's element is its GeneralName, and before that stands the head of the 30 element that holds it
abbrev pub constraints_string : CertificateString
constraints_string = record {
  Name = Member GeneralName;
  input = constraints_input;
  refusal = constraints_unreadable;
  element = λ subtree. write_name subtree.value;
  front = λ list i subtree.
      head 0x30 (run write_side (groups list))
      ++ (front_in_groups write_subtree (λ g. 0xA0 + g.number) i (groups list) ++ head 0x30 (write_name subtree.value));
  Kind = λ subtree. NameKind subtree.value;
  group = λ i subtree. subtree.group;
}

-- the string that a listing lists: 0 is the SAN, 1 the subject, any other number the constraints
abbrev pub string_of : ℕ → CertificateString
string_of zero = san_string
string_of (suc zero) = subject_string
string_of (suc (suc n)) = constraints_string

-- ---- the conditions of the answers

-- 6/13: "Take 0 to 8 constraint strings, end to end in one slice beside a slice of their lengths": these strings are handed over
pub record Strings (s : Inputs) (strings : List (List ℕ)) : Type 0 where
  pub end_to_end : s.constraints ≡ run (λ string. string) strings
  pub lengths_are : s.lengths ≡ some (map length strings)
  pub at_most_eight : length strings ≤ most_issuers

-- an issuer's string of which this holds is among those handed over
abbrev pub SomeString : Inputs → (List ℕ → Type 0) → Type 0
SomeString s P =
    (strings : List (List ℕ)) × Strings s strings × (k : ℕ) × (string : List ℕ) × (get_elem? strings k ≡ some string) × P string

-- "an input is too long"; 6/13: "a ninth, or lengths with another sum, is 7, and each keeps its own length limit", "an odd count is 7"
abbrev pub TooLong : Inputs → Type 0
TooLong s =
    (records_limit < length s.references)
    ⊎ (san_limit < length s.san)
    ⊎ (subject_limit < length s.subject)
    ⊎ ((strings : List (List ℕ)) → ¬ Strings s strings)
    ⊎ SomeString s (λ string. constraints_limit < length string)

-- "reference records unreadable"
abbrev pub RecordsUnreadable : Inputs → Type 0
RecordsUnreadable s = ¬ T (good_records s.references)

-- "A string is readable exactly when its own grammar writes some list as its bytes; an absent SAN or absent constraints
-- count as readable, with the empty list."
abbrev pub Unreadable : {Name : Type 0} → Input Name → List ℕ → Type 0
Unreadable {Name} I bytes = (list : List Name) → ¬ Reads I bytes list

-- the names of strings that are all readable; the constraints are those of each issuer
pub record Names : Type 0 where
  pub references : List Reference
  pub san : List GeneralName
  pub subject : List (Member Attribute)
  pub constraints : List (List (Member GeneralName))

-- what is seen of each of these strings
abbrev pub SeesEach : List (List ℕ) → List (Seen (Member GeneralName)) → Type 0
SeesEach [] [] = Unit
SeesEach [] (x ∷ xs) = ⊥
SeesEach (string ∷ strings) [] = ⊥
SeesEach (string ∷ strings) (x ∷ xs) = Sees constraints_input string x × SeesEach strings xs

-- no string is too long, all are readable, and these are their names
pub record Read (s : Inputs) (l : Names) : Type 0 where
  pub references_are : seen_records s.references ≡ listed l.references
  pub san_is : Sees san_input s.san (listed l.san)
  pub subject_is : Sees subject_input s.subject (listed l.subject)
  pub strings : List (List ℕ)
  pub strings_are : Strings s strings
  pub constraints_are : SeesEach strings (map listed l.constraints)

-- the SAN's entry at i breaks the constraints of the issuer k
pub record BreaksAt (l : Names) (k i : ℕ) : Type 0 where
  pub string : List (Member GeneralName)
  pub string_at_lem : get_elem? l.constraints k ≡ some string
  pub entry : GeneralName
  pub entry_at : get_elem? l.san i ≡ some entry
  pub broken : T (breaks string entry)

-- the reference r matches the presented identifier at j: an entry of the SAN, or an attribute of the subject
pub record MatchesAt (l : Names) (r : Reference) (j : ℕ) : Type 0 where
  pub presented : Presented
  pub presented_at : get_elem? (presented_to r.kind l.san l.subject) j ≡ some presented
  pub matched : T (matches r presented)

-- the reference at i matches the presented identifier at j
pub record PairAt (l : Names) (i j : ℕ) : Type 0 where
  pub reference : Reference
  pub reference_at_lem : get_elem? l.references i ≡ some reference
  pub match : MatchesAt l reference j

-- ---- answers in order

-- an answer, and its own condition
pub record Answer : Type 1 where
  pub number : ℕ
  pub condition : Type 0

abbrev pub when : ℕ → Type 0 → Answer
when number condition = record { number = number; condition = condition }

-- none of these holds
abbrev pub None : List (Type 0) → Type 0
None [] = Unit
None (condition ∷ conditions) = (¬ condition) × None conditions

-- "Each is given exactly when its condition holds and no earlier one does."
abbrev pub EachExactly : (earlier : List (Type 0)) → List Answer → (given : ℕ) → Type 0
EachExactly earlier [] given = Unit
EachExactly earlier (a ∷ later) given =
    (given ≡ a.number ↔ a.condition × None earlier) × EachExactly (a.condition ∷ earlier) later given

-- "Order for a verdict: 7 for any of the four inputs, then 6, 3, 4, 5, 2, then 0 or 1."
abbrev pub verdict_answers : Inputs → List Answer
verdict_answers s =
    when 7 (TooLong s)
    ∷ when 6 (RecordsUnreadable s)
    ∷ when 3 (Unreadable san_input s.san)
    ∷ when 4 (Unreadable subject_input s.subject)
    ∷ when 5 (SomeString s (Unreadable constraints_input))
    ∷ when 2 ((l : Names) × Read s l × (k : ℕ) × (i : ℕ) × BreaksAt l k i)
    ∷ when 0 ((l : Names) × Read s l × (i : ℕ) × (j : ℕ) × PairAt l i j)
    ∷ when 1 Unit
    ∷ []

-- "7, then 3, 4 or 5 (each with count 0), then 8 with the count needed, given exactly when that exceeds the rows lent"; else 0
abbrev pub listing_answers : (S : CertificateString) → List ℕ → ℕ → List Answer
listing_answers S bytes lent =
    when 7 (S.input.limit < length bytes)
    ∷ when S.refusal (Unreadable S.input bytes)
    ∷ when 8 ((list : List S.Name) × Reads S.input bytes list × (lent < length list))
    ∷ when 0 Unit
    ∷ []

-- "The record reader takes an index too: 7, then 6, else 0"
abbrev pub record_answers : List ℕ → List Answer
record_answers bytes = when 7 (records_limit < length bytes) ∷ when 6 (¬ T (good_records bytes)) ∷ when 0 Unit ∷ []

-- ==== Demand 1: "Any bytes at all get an answer. Callers check nothing first": every call is a function of any bytes.

-- "A bad input gets exactly the refusal that document 01's order gives."
pub record Verdicts (s : Inputs) : Type 0 where
  pub order : EachExactly [] (verdict_answers s) (verdict_on s).answer
  -- the other five of 7, 6, 3, 4, 5 and 1: "zeros"
  pub zeros : (verdict_on s).answer ≢ 0 → (verdict_on s).answer ≢ 2 → verdict_on s ≡ numbers (verdict_on s).answer 0 0 0 0 0
  -- and of 2: "presented index of the first that does; the rest zero". 6/13: "lowest issuer first, then lowest name"
  pub first_broken_lem :
      (l : Names) → Read s l → (verdict_on s).answer ≡ 2
      → (k : ℕ) × (i : ℕ) × (verdict_on s ≡ numbers 2 0 i 0 0 k) × BreaksAt l k i
      × ((k' i' : ℕ) → BreaksAt l k' i' → (k < k') ⊎ ((k ≡ k') × (i ≤ i')))
  -- "callable from C .., with each detail number by a call of its own": C's calls give these six, and where the witness's text lies
  pub from_c_lem : all_numbers (outcome_on s) ≡ with_place (verdict_on s) (witness_part_on s)

-- the listing of the string S, of which the number is `which`
pub record Listings (which : ℕ) (S : CertificateString) : Type 0 where
  pub order : (bytes : List ℕ) (lent : ℕ) → EachExactly [] (listing_answers S bytes lent) (listing_on which bytes lent).answer
  -- "(each with count 0)"
  pub no_count :
      (bytes : List ℕ) (lent : ℕ)
      → (listing_on which bytes lent).answer ≢ 0
      → (listing_on which bytes lent).answer ≢ 8
      → (listing_on which bytes lent).count ≡ 0
  -- "A refused listing leaves the lent table untouched"
  pub untouched :
      (bytes : List ℕ) (table : List Row)
      → (listing_on which bytes (length table)).answer ≢ 0
      → table_on which bytes table ≡ table
  -- "an accepted one shows the same rows whatever the table held": also in tables of two sizes, which the sentence leaves open
  pub same_rows :
      (bytes : List ℕ) (table table' : List Row)
      → (listing_on which bytes (length table)).answer ≡ 0
      → (listing_on which bytes (length table')).answer ≡ 0
      → take (listing_on which bytes (length table)).count (table_on which bytes table)
      ≡ take (listing_on which bytes (length table')).count (table_on which bytes table')
  -- "Rows past the count, and all rows after a refusal, stay." Stronger than the sentence: the table has as many rows as before
  pub rows_stay :
      (bytes : List ℕ) (table : List Row)
      → drop (listing_on which bytes (length table)).count (table_on which bytes table)
      ≡ drop (listing_on which bytes (length table)).count table
  pub size_stays : (bytes : List ℕ) (table : List Row) → length (table_on which bytes table) ≡ length table

-- the record reader: "beside it that record's kind and two lengths, zeros on a refusal or past the last"; the record is that of
-- the reference at i
pub record Records (bytes : List ℕ) (i : ℕ) : Type 0 where
  pub order : EachExactly [] (record_answers bytes) (shown bytes i).answer
  pub refused : (shown bytes i).answer ≢ 0 → shown bytes i ≡ four (shown bytes i).answer 0 0 0
  pub past_last : (l : List Reference) → seen_records bytes ≡ listed l → length l ≤ i → shown bytes i ≡ four 0 0 0 0
  pub record_at :
      (l : List Reference) (r : Reference) → seen_records bytes ≡ listed l → get_elem? l i ≡ some r
      → shown bytes i ≡ four 0 r.kind (length r.service) (length r.domain)

pub record Demand1 : Type 0 where
  pub verdict : (s : Inputs) → Verdicts s
  pub records : (bytes : List ℕ) (i : ℕ) → Records bytes i
  pub listing : (which : ℕ) → Listings which (string_of which)

-- ==== Demand 2: "The verdict is RFC 6125 section 6 with RFC 4985 section 4", "as document 01 narrows them"

-- "lowest reference, then lowest name": every pair that matches has a higher reference, or the same and no lower name
abbrev pub First : Names → ℕ → ℕ → Type 0
First l i j = (i' j' : ℕ) → PairAt l i' j' → (i < i') ⊎ ((i ≡ i') × (j ≤ j'))

-- what is reported of the reference r, which is the i-th, and the identifier p that it matches
pub record Reported (s : Inputs) (i : ℕ) (r : Reference) (p : Presented) : Type 0 where
  -- "the witnessing pair, and its element's place"
  pub numbers_are : verdict_on s ≡ numbers 0 i p.row.group p.row.start p.row.length 0
  -- "The witness's text (the content of the dNSName or URI, the IA5String of the SRVName, the CN's value)": the text that matched
  pub text_is : p.text ≡ some (witness_text_on s)
  -- "is handed back as a part of the certificate's own bytes": of the subject for a CN, else of the SAN
  pub part_is : part (cond (eqb r.kind cn_kind) s.subject s.san) (witness_part_on s).start (witness_part_on s).length ≡ witness_text_on s
  pub place_is :
      (san subject : ℕ × ℕ)
      → witness_place_on s san subject ≡ past (cond (eqb r.kind cn_kind) subject san) (witness_part_on s).start
  -- stronger than the sentence: which part, where the same text stands twice. It is the text's own, and ends where the element ends
  pub length_is : (witness_part_on s).length ≡ length (witness_text_on s)
  pub ends : (witness_part_on s).start + (witness_part_on s).length ≡ p.row.start + p.row.length

-- "A reference matches only its own kind."
pub record Kinds (l : Names) (r : Reference) (j : ℕ) : Type 0 where
  -- a DNS reference: a dNSName whose text is a DNS-ID that matches the domain
  pub dns :
      r.kind ≡ dns_kind
      → MatchesAt l r j ↔ (text : List ℕ) × (get_elem? l.san j ≡ some (plain 0x82 text)) × T (dns_matches r.domain text)
  -- an SRV reference: an SRVName whose text is an SRV-ID that matches service and domain
  pub srv :
      r.kind ≡ srv_kind
      → MatchesAt l r j
      ↔ (tag : ℕ) × (text : List ℕ) × (get_elem? l.san j ≡ some (other srv_oid tag text))
      × T (srv_matches r.service r.domain text)
  -- a URI reference: a URI whose text is a URI-ID that matches scheme and domain
  pub uri :
      r.kind ≡ uri_kind
      → MatchesAt l r j
      ↔ (text : List ℕ) × (get_elem? l.san j ≡ some (plain 0x86 text)) × T (uri_matches r.service r.domain text)
  -- a CN reference: "The CN counts only if no DNS, SRV or URI name is presented"; then "the value of an attribute of type CN, tag
  -- 0C, 13 or 16, in a set that has exactly one CN attribute, whatever the tags"
  pub cn :
      r.kind ≡ cn_kind
      → MatchesAt l r j
      ↔ ((i : ℕ) (entry : GeneralName) → get_elem? l.san i ≡ some entry → ¬ T (blocks_cn entry))
      × ((a : Member Attribute) × (get_elem? l.subject j ≡ some a) × T (is_cn a.value) × T (cn_tag a.value.tag)
      × T (sole_cn l.subject a.group) × T (dns_matches r.domain a.value.content))

pub record Demand2 : Type 0 where
  -- "the pair reported is the first (lowest reference, then lowest name)"
  pub first :
      (s : Inputs) (l : Names) → Read s l → (verdict_on s).answer ≡ 0
      → (i : ℕ) × (j : ℕ) × (pair : PairAt l i j) × First l i j × Reported s i pair.reference pair.match.presented
  -- "On any answer but 0 that part is empty, at the start of the SAN."
  pub no_witness :
      (s : Inputs) → (verdict_on s).answer ≢ 0
      → (witness_text_on s ≡ []) × (witness_part_on s ≡ record { start = 0; length = 0 })
      × ((san subject : ℕ × ℕ) → witness_place_on s san subject ≡ san)
  -- what it means that a reference matches
  pub kinds : (l : Names) (r : Reference) (j : ℕ) → Kinds l r j
  -- "A presented index counts all SAN entries from 0": it is the entry's, and the place is that of the SAN's row
  pub entry_index :
      (l : Names) (r : Reference) (j : ℕ) (m : MatchesAt l r j) → r.kind ≢ cn_kind
      → (m.presented.row.group ≡ j) × (get_elem? (san_input.grammar.rows l.san) j ≡ some m.presented.row)
  -- "or the RDNs of the subject for a CN": it is the attribute's set, and the place is that of the subject's row
  pub set_index :
      (l : Names) (r : Reference) (j : ℕ) (m : MatchesAt l r j) → r.kind ≡ cn_kind
      → (a : Member Attribute) × (get_elem? l.subject j ≡ some a) × (m.presented.row.group ≡ a.group)
      × (get_elem? (subject_input.grammar.rows l.subject) j ≡ some m.presented.row)
  -- what it means that a name breaks an issuer's constraints
  pub breaks : (string : List (Member GeneralName)) (name : GeneralName) → BreaksString string name
  -- 6/13: "prove that a wildcard dNSName that breaks no string matches no domain in an excluded dNSName subtree"
  pub kept_out : (strings : List (List (Member GeneralName))) (text subtree : List ℕ) → KeptOut strings text subtree
  -- ---- consequences of demand 1, in the words of this one
  -- "a match exactly when some presented name matches some reference"
  pub match :
      (s : Inputs) (l : Names) → Read s l → ((k i : ℕ) → ¬ BreaksAt l k i)
      → (verdict_on s).answer ≡ 0 ↔ (i : ℕ) × (j : ℕ) × PairAt l i j
  -- "An SRVName that breaks the issuer's SRVName restrictions refuses the certificate even if another name would match." 6/13: "Answer 2 in
  -- demand 2 now covers both forms", and "All of them must hold."
  pub broken : (s : Inputs) (l : Names) → Read s l → (k i : ℕ) → BreaksAt l k i → (verdict_on s).answer ≡ 2

-- ==== Demand 3: "One reading." "The DER grammar is written down as how names are put into bytes, with no reader in it": that a
-- grammar G writes a list as these bytes is `Writes G list bytes`.

-- the row of the name at i of a list that is written as these bytes
pub record RowOf (S : CertificateString) (bytes : List ℕ) (list : List S.Name) (i : ℕ) (name : S.Name) (row : Row) : Type 0 where
  -- "the length is that of the name's element as written"
  pub length_is : row.length ≡ length (S.element name)
  -- "the start is the number of bytes written before that element"
  pub start_is : row.start ≡ length (S.front list i name)
  -- and these are the bytes before it, the element, and the bytes behind it
  pub behind : List ℕ
  pub bytes_are : bytes ≡ S.front list i name ++ (S.element name ++ behind)
  -- "kind and group are as under Listing"
  pub kind_is : S.Kind name row.kind
  pub group_is : row.group ≡ S.group i name

pub record OneReading (which : ℕ) (S : CertificateString) : Type 0 where
  -- "The listing reads bytes exactly when the grammar writes some list as those bytes"; "The listing reads a string when it answers
  -- 0 or 8."
  pub exactly :
      (bytes : List ℕ) → bytes ≢ [] → length bytes ≤ S.input.limit → (lent : ℕ)
      → ((listing_on which bytes lent).answer ≡ 0) ⊎ ((listing_on which bytes lent).answer ≡ 8)
      ↔ (list : List S.Name) × Writes S.input.grammar list bytes
  -- "that list is the only one"
  pub only :
      (bytes : List ℕ) (list list' : List S.Name)
      → Writes S.input.grammar list bytes → Writes S.input.grammar list' bytes → list ≡ list'
  -- "and has no second writing"
  pub once :
      (list : List S.Name) (bytes bytes' : List ℕ)
      → Writes S.input.grammar list bytes → Writes S.input.grammar list bytes' → bytes ≡ bytes'
  -- "count and rows are that list's": "A list's count is the number of its names. It has one row for each". Of an absent string too:
  -- "An absent string lists 0 rows."
  pub count :
      (bytes : List ℕ) (list : List S.Name) → Sees S.input bytes (listed list)
      → (lent : ℕ) → (listing_on which bytes lent).count ≡ length list
  pub rows :
      (bytes : List ℕ) (list : List S.Name) → Sees S.input bytes (listed list)
      → (table : List Row) → length list ≤ length table
      → take (length list) (table_on which bytes table) ≡ S.input.grammar.rows list
  pub one_each : (list : List S.Name) → length (S.input.grammar.rows list) ≡ length list
  pub row_of :
      (bytes : List ℕ) (list : List S.Name) → Writes S.input.grammar list bytes
      → (i : ℕ) (name : S.Name) (row : Row) → get_elem? list i ≡ some name → get_elem? (S.input.grammar.rows list) i ≡ some row
      → RowOf S bytes list i name row
  -- of every string exactly one thing is seen: that it is too long, that it is unreadable, or its list
  pub one_seen :
      (bytes : List ℕ)
      → (x : Seen S.Name) × Sees S.input bytes x × ((y : Seen S.Name) → Sees S.input bytes y → y ≡ x)

pub record Demand3 : Type 0 where
  pub reading : (which : ℕ) → OneReading which (string_of which)
  -- "Every verdict depends on our records and, of each certificate string, only on whether it is too long and its list, if any."
  -- Stronger than the sentence: it says what the outcome is, of which numbers, text and place are told. 6/13: "its reading holds for each
  -- constraint string by itself, and its verdicts are worked out from all of them and their lengths"
  pub verdict :
      (s : Inputs) (strings : List (List ℕ)) (san : Seen GeneralName) (subject : Seen (Member Attribute)) (constraints : List (Seen (Member GeneralName)))
      → Strings s strings → Sees san_input s.san san → Sees subject_input s.subject subject → SeesEach strings constraints
      → outcome_on s ≡ outcome_of (seen_records s.references) san subject (together constraints)
  -- ---- a consequence of demand 1: lengths that cut no strings tell nothing else
  pub no_strings : (s : Inputs) → ((strings : List (List ℕ)) → ¬ Strings s strings) → verdict_on s ≡ numbers 7 0 0 0 0 0
