-- The certificates, rows and listings of the desk examples: what documents 01 and 02 write out, and the smallest ones that tell
-- their other sentences apart.
use Prim.Native.Nat.{ℕ, ◌+◌}
use mathlib.Core.List.{List, [], ◌∷◌, ◌++◌, map}
use lib.ListN.{replicate}
use Rattle.rules.specs.Der
use Rattle.rules.specs.San
use Rattle.rules.specs.Subject
use Rattle.rules.specs.Seen.{too_long, unreadable, listed, together, seen_records}
use Rattle.rules.specs.Verdict.{numbers, outcome_of}
use Rattle.rules.specs.declared.Outcome.{Outcome}
use Rattle.rules.specs.declared.Row.{Row}
use Rattle.rules.specs.declared.Verdict.{Verdict}
use Rattle.rules.proofs.Text.{text, hex}
use Rattle.rules.proofs.Holds.{Certificate, Rows, Listing, record_bytes, row}
use Rattle.rules.proofs.Marked.{s, s_names, j, j_names}

-- ---- references

abbrev pub dns : List ℕ
dns = record_bytes 1 [] 63 (text "a.b") 250

abbrev pub srv : List ℕ
srv = record_bytes 2 (text "m") 62 (text "b.c") 250

abbrev uri : List ℕ
uri = record_bytes 3 (text "a") 62 (text "b.c") 250

abbrev pub cn : List ℕ
cn = record_bytes 4 [] 63 (text "a.b") 250

-- ---- names

-- n letters
abbrev pub letters : ℕ → List ℕ
letters n = replicate n 0x61

abbrev srv_name : List ℕ → San.GeneralName
srv_name t = San.other San.srv_oid 0x16 t

-- an attribute in its set
abbrev pub attribute : ℕ → List ℕ → ℕ → List ℕ → Der.Member Subject.Attribute
attribute set oid tag content = record { group = set; value = record { oid = oid; tag = tag; content = content } }

-- a subtree on its side: 0 permitted, 1 excluded
abbrev subtree : ℕ → San.GeneralName → Der.Member San.GeneralName
subtree side n = record { group = side; value = n }

-- one with an SRVName
abbrev pub side : ℕ → List ℕ → Der.Member San.GeneralName
side number t = subtree number (srv_name t)

-- ---- certificates

-- a certificate with the constraints of its issuers. "Where none is named, the subject is J"
abbrev pub chained : List ℕ → List San.GeneralName → List (List ℕ) → List (List (Der.Member San.GeneralName)) → List ℕ → Verdict → Certificate
chained san names constraints subtrees references numbers = record {
  san = san;
  san_names = names;
  subject = j;
  subject_names = j_names;
  constraints = constraints;
  constraints_names = subtrees;
  references = references;
  numbers = numbers;
}

-- of one issuer
abbrev constrained : List ℕ → List San.GeneralName → List ℕ → List (Der.Member San.GeneralName) → List ℕ → Verdict → Certificate
constrained san names constraints subtrees references numbers = chained san names (constraints ∷ []) (subtrees ∷ []) references numbers

-- ".. and constraints are absent"
abbrev by_san : List ℕ → List San.GeneralName → List ℕ → Verdict → Certificate
by_san san names references numbers = chained san names [] [] references numbers

-- no SAN: the subject decides
abbrev by_subject : List ℕ → List (Der.Member Subject.Attribute) → List ℕ → Verdict → Certificate
by_subject subject names references numbers = record {
  san = [];
  san_names = [];
  subject = subject;
  subject_names = names;
  constraints = [];
  constraints_names = [];
  references = references;
  numbers = numbers;
}

-- how its verdict ends
abbrev pub outcome : Certificate → Outcome
outcome c = outcome_of (seen_records c.references) (listed c.san_names) (listed c.subject_names) (together (map listed c.constraints_names))

-- "No SAN, J, CN `a.b`: 0 0 0 4 12."
abbrev pub cn_matches : Certificate
cn_matches = by_subject j j_names cn (numbers 0 0 0 4 12 0)

-- "With SAN `30 02 82 00`: answer 1."
abbrev pub cn_blocked : Certificate
cn_blocked = by_san (hex "30 02 82 00") (San.plain 0x82 [] ∷ []) cn (numbers 1 0 0 0 0 0)

-- "SAN `30 14 A0 12 06 08 2B 06 01 05 05 07 08 07 A0 06 16 04 5F 6D 2E 62`": the SRVName `_m.b`
abbrev one_label_san : List ℕ
one_label_san = hex "30 14 A0 12 06 08 2B 06 01 05 05 07 08 07 A0 06 16 04 5F 6D 2E 62"

abbrev one_label_names : List San.GeneralName
one_label_names = srv_name (text "_m.b") ∷ []

-- 1/13: "the m, `b` example of 01 must be rerun with reference and name `b.c`": the SRVName `_m.b.c`
abbrev srv_san : List ℕ
srv_san = hex "30 16 A0 14 06 08 2B 06 01 05 05 07 08 07 A0 08 16 06 5F 6D 2E 62 2E 63"

abbrev srv_names : List San.GeneralName
srv_names = srv_name (text "_m.b.c") ∷ []

abbrev pub srv_matches : Certificate
srv_matches = by_san srv_san srv_names srv (numbers 0 0 0 2 22 0)

-- constraints that permit one service, of one byte
abbrev pub permits : ℕ → List ℕ
permits b = hex "30 16 A0 14 30 12 A0 10 06 08 2B 06 01 05 05 07 08 07 A0 04 16 02 5F" ++ b ∷ []

abbrev pub permitted : ℕ → List (Der.Member San.GeneralName)
permitted b = side 0 (text "_" ++ b ∷ []) ∷ []

-- "With constraints `30 16 A0 14 30 12 A0 10 06 08 2B 06 01 05 05 07 08 07 A0 04 16 02 5F 6D`: the same."
abbrev pub srv_permitted : Certificate
srv_permitted = constrained srv_san srv_names (permits 0x6D) (permitted 0x6D) srv (numbers 0 0 0 2 22 0)

-- "With the last byte 6E: answer 2."
abbrev pub srv_broken : Certificate
srv_broken = constrained srv_san srv_names (permits 0x6E) (permitted 0x6E) srv (numbers 2 0 0 0 0 0)

-- 6/13: "The verdict record grows a sixth number, the issuer's index": the first permits it, the second does not
abbrev pub second_issuer : Certificate
second_issuer =
    chained srv_san srv_names (permits 0x6D ∷ permits 0x6E ∷ []) (permitted 0x6D ∷ permitted 0x6E ∷ []) srv (numbers 2 0 0 0 0 1)

-- "Letting a matching DNS-ID excuse a broken SRVName": `a.b` matches, and the SRVName behind it breaks the constraints
abbrev pub not_excused : Certificate
not_excused =
    constrained (hex "30 1B 82 03 61 2E 62 A0 14 06 08 2B 06 01 05 05 07 08 07 A0 08 16 06 5F 6D 2E 62 2E 63")
    (San.plain 0x82 (text "a.b") ∷ srv_names) (permits 0x6E) (permitted 0x6E) dns (numbers 2 0 1 0 0 0)

-- "lie in no excluded SRVName subtree": `_m` is excluded
abbrev pub srv_excluded : Certificate
srv_excluded =
    constrained srv_san srv_names (hex "30 16 A1 14 30 12 A0 10 06 08 2B 06 01 05 05 07 08 07 A0 04 16 02 5F 6D")
    (side 1 (text "_m") ∷ []) srv (numbers 2 0 0 0 0 0)

-- `_n` is excluded, and nothing is permitted
abbrev excludes_other : List ℕ
excludes_other = hex "30 16 A1 14 30 12 A0 10 06 08 2B 06 01 05 05 07 08 07 A0 04 16 02 5F 6E"

abbrev excludes_other_names : List (Der.Member San.GeneralName)
excludes_other_names = side 1 (text "_n") ∷ []

-- "if any permitted SRVName subtree exists, lie in one": none does, so `_m.b.c` need not
abbrev pub srv_not_excluded : Certificate
srv_not_excluded = constrained srv_san srv_names excludes_other excludes_other_names srv (numbers 0 0 0 2 22 0)

-- "if the constraints hold any SRVName subtree, each presented SRVName must be an SRV-ID": `m` is none
abbrev pub no_srv_id : Certificate
no_srv_id =
    constrained (hex "30 11 A0 0F 06 08 2B 06 01 05 05 07 08 07 A0 03 16 01 6D") (srv_name (text "m") ∷ []) excludes_other
    excludes_other_names srv (numbers 2 0 0 0 0 0)

-- "Other forms in the constraints are read and passed over": the dNSName `b` is permitted, and `m` breaks nothing
abbrev pub other_form : Certificate
other_form =
    constrained (hex "30 11 A0 0F 06 08 2B 06 01 05 05 07 08 07 A0 03 16 01 6D") (srv_name (text "m") ∷ [])
    (hex "30 07 A0 05 30 03 82 01 62") (subtree 0 (San.plain 0x82 (text "b")) ∷ []) srv (numbers 1 0 0 0 0 0)

-- the same of a foreign otherName, whose text is no restriction, and of an empty email: one is permitted, the other excluded, and neither
-- `a.b` nor `_m.b` breaks them
abbrev pub other_forms : Certificate
other_forms =
    constrained (hex "30 27 82 03 61 2E 62 A0 12 06 08 2B 06 01 05 05 07 08 07 A0 06 16 04 5F 6D 2E 62 81 01 61 A0 09 06 01 2A A0 04 16 02 2E 62")
    (San.plain 0x82 (text "a.b") ∷ srv_name (text "_m.b") ∷ San.plain 0x81 (text "a") ∷ San.other (hex "2A") 0x16 (text ".b") ∷ [])
    (hex "30 15 A0 0D 30 0B A0 09 06 01 2A A0 04 16 02 2E 62 A1 04 30 02 81 00")
    (subtree 0 (San.other (hex "2A") 0x16 (text ".b")) ∷ subtree 1 (San.plain 0x81 []) ∷ []) dns (numbers 0 0 0 2 5 0)

-- "URI-ID: ..": the content `a://u@b.c:1/`
abbrev pub uri_matched : Certificate
uri_matched =
    by_san (hex "30 0E 86 0C 61 3A 2F 2F 75 40 62 2E 63 3A 31 2F") (San.plain 0x86 (text "a://u@b.c:1/") ∷ []) uri (numbers 0 0 0 2 14 0)

-- "A reference matches only its own kind": the text `a.b`, as a URI
abbrev pub other_kind : Certificate
other_kind = by_san (hex "30 05 86 03 61 2E 62") (San.plain 0x86 (text "a.b") ∷ []) dns (numbers 1 0 0 0 0 0)

-- "Stopping at the first name instead of the lowest reference": the second name matches the first reference
abbrev pub lowest_reference : Certificate
lowest_reference =
    by_san (hex "30 0A 82 03 63 2E 64 82 03 61 2E 62") (San.plain 0x82 (text "c.d") ∷ San.plain 0x82 (text "a.b") ∷ [])
    (dns ++ record_bytes 1 [] 63 (text "c.d") 250) (numbers 0 0 1 7 5 0)

-- "lowest reference, then lowest name": both names match
abbrev pub lowest_name : Certificate
lowest_name =
    by_san (hex "30 0E 82 05 2A 2E 62 2E 63 82 05 61 2E 62 2E 63") (San.plain 0x82 (text "*.b.c") ∷ San.plain 0x82 (text "a.b.c") ∷ [])
    (record_bytes 1 [] 63 (text "a.b.c") 248) (numbers 0 0 0 2 7 0)

-- "the witnessing pair": only the second reference matches
abbrev pub second_reference : Certificate
second_reference = by_san s s_names (record_bytes 1 [] 63 (text "c.d") 250 ++ dns) (numbers 0 1 0 2 5 0)

-- "each filled with zeros": the record's last byte is 1
abbrev pub bad_fill : Certificate
bad_fill = by_san s s_names (record_bytes 1 [] 63 (text "a.b") 249 ++ (1 ∷ [])) (numbers 6 0 0 0 0 0)

-- ---- the CN

-- "CN references count only if the SAN has no entry tagged 82 or 86 and no SRVName, readable as a name or not."
abbrev pub uri_blocks : Certificate
uri_blocks = by_san (hex "30 03 86 01 61") (San.plain 0x86 (text "a") ∷ []) cn (numbers 1 0 0 0 0 0)

abbrev pub srv_blocks : Certificate
srv_blocks = by_san (hex "30 11 A0 0F 06 08 2B 06 01 05 05 07 08 07 A0 03 16 01 6D") (srv_name (text "m") ∷ []) cn (numbers 1 0 0 0 0 0)

-- "Email or address entries don't block the CN", nor does another otherName
abbrev pub others_pass : Certificate
others_pass =
    by_san (hex "30 13 81 01 61 A0 08 06 01 2A A0 03 16 01 61 87 04 01 02 03 04")
    (San.plain 0x81 (text "a") ∷ San.other (hex "2A") 0x16 (text "a") ∷ San.plain 0x87 (hex "01 02 03 04") ∷ []) cn (numbers 0 0 0 4 12 0)

-- "no entry tagged 82 or 86 and no SRVName": the other tags, and otherNames whose OID is an SRVName's with a byte more, and with one less.
-- To SRV references they present no `_m.b.c`, and `_n` is permitted
abbrev pub sealed_names : List San.GeneralName
sealed_names =
    San.plain 0x88 (hex "2A") ∷ San.plain 0xA3 [] ∷ San.plain 0xA4 [] ∷ San.plain 0xA5 []
    ∷ San.other (hex "2B 06 01 05 05 07 08 07 01") 0x04 (text "_m.b.c") ∷ San.other (hex "2B 06 01 05 05 07 08") 0x04 (text "_m.b.c") ∷ []

abbrev pub sealed_pass : List ℕ → Verdict → Certificate
sealed_pass references numbers =
    constrained
    (hex "30 35 88 01 2A A3 00 A4 00 A5 00 A0 15 06 09 2B 06 01 05 05 07 08 07 01 A0 08 04 06 5F 6D 2E 62 2E 63 A0 13 06 07 2B 06 01 05 05 07 08 A0 08 04 06 5F 6D 2E 62 2E 63")
    sealed_names (permits 0x6E) (permitted 0x6E) references numbers

-- "no entry tagged 82 or 86 .., readable as a name or not": an empty URI between two emails
abbrev pub uri_between : Certificate
uri_between =
    by_san (hex "30 08 81 01 61 86 00 81 01 61") (San.plain 0x81 (text "a") ∷ San.plain 0x86 [] ∷ San.plain 0x81 (text "a") ∷ []) cn
    (numbers 1 0 0 0 0 0)

-- "tag 0C, 13 or 16": J with another tag
abbrev pub cn_tagged : ℕ → Verdict → Certificate
cn_tagged tag numbers =
    by_subject (hex "30 0E 31 0C 30 0A 06 03 55 04 03" ++ tag ∷ hex "03 61 2E 62") (attribute 0 Subject.cn_oid tag (text "a.b") ∷ []) cn numbers

-- "in a set that has exactly one CN attribute, whatever the tags": this set has two, of which the second has any tag
abbrev pub two_cns : ℕ → Certificate
two_cns tag =
    by_subject (hex "30 1A 31 18 30 0A 06 03 55 04 03 0C 03 61 2E 62 30 0A 06 03 55 04 03" ++ tag ∷ hex "03 61 2E 62")
    (attribute 0 Subject.cn_oid 0x0C (text "a.b") ∷ attribute 0 Subject.cn_oid tag (text "a.b") ∷ []) cn (numbers 1 0 0 0 0 0)

-- an attribute of another type beside it does not count
abbrev pub cn_and_other : Certificate
cn_and_other =
    by_subject (hex "30 18 31 16 30 08 06 03 55 04 0A 0C 01 78 30 0A 06 03 55 04 03 0C 03 61 2E 62")
    (attribute 0 (hex "55 04 0A") 0x0C (text "x") ∷ attribute 0 Subject.cn_oid 0x0C (text "a.b") ∷ []) cn (numbers 0 0 0 14 12 0)

-- "the RDNs of the subject for a CN": two sets with one CN each, and the second is `a.b`
abbrev pub second_set : Certificate
second_set =
    by_subject (hex "30 1C 31 0C 30 0A 06 03 55 04 03 0C 03 63 2E 64 31 0C 30 0A 06 03 55 04 03 0C 03 61 2E 62")
    (attribute 0 Subject.cn_oid 0x0C (text "c.d") ∷ attribute 1 Subject.cn_oid 0x0C (text "a.b") ∷ []) cn (numbers 0 0 1 18 12 0)

-- "Cutting a CN at a zero byte": the value `a.b`, a zero and `c` is no name
abbrev pub cn_not_cut : Certificate
cn_not_cut =
    by_subject (hex "30 10 31 0E 30 0C 06 03 55 04 03 0C 05 61 2E 62 00 63") (attribute 0 Subject.cn_oid 0x0C (hex "61 2E 62 00 63") ∷ [])
    cn (numbers 1 0 0 0 0 0)

-- ---- 1/13: one-label names

-- "a wildcard needs at least two labels after it, in DNS-ID": `*.b` and `*.b.c`
abbrev pub wildcard_over1 : List ℕ → Certificate
wildcard_over1 references = by_san (hex "30 05 82 03 2A 2E 62") (San.plain 0x82 (text "*.b") ∷ []) references (numbers 1 0 0 0 0 0)

abbrev pub wildcard_over2 : List ℕ → Verdict → Certificate
wildcard_over2 references numbers =
    by_san (hex "30 07 82 05 2A 2E 62 2E 63") (San.plain 0x82 (text "*.b.c") ∷ []) references numbers

-- "A supplier shipped a test certificate for `*.example` and it opened every branch."
abbrev pub wildcard_over_example : Certificate
wildcard_over_example =
    by_san (hex "30 0B 82 09 2A 2E 65 78 61 6D 70 6C 65") (San.plain 0x82 (text "*.example") ∷ [])
    (record_bytes 1 [] 63 (text "branch.example") 239) (numbers 1 0 0 0 0 0)

-- "and CN-ID"
abbrev pub cn_over1 : Certificate
cn_over1 =
    by_subject (hex "30 0E 31 0C 30 0A 06 03 55 04 03 0C 03 2A 2E 62") (attribute 0 Subject.cn_oid 0x0C (text "*.b") ∷ []) cn (numbers 1 0 0 0 0 0)

abbrev pub cn_over2 : Certificate
cn_over2 =
    by_subject (hex "30 10 31 0E 30 0C 06 03 55 04 03 0C 05 2A 2E 62 2E 63") (attribute 0 Subject.cn_oid 0x0C (text "*.b.c") ∷ [])
    (record_bytes 4 [] 63 (text "a.b.c") 248) (numbers 0 0 0 4 14 0)

-- "a reference record whose domain has one label is refused with 6": m, `b`
abbrev pub one_label_record : Certificate
one_label_record = by_san one_label_san one_label_names (record_bytes 2 (text "m") 62 (text "b") 252) (numbers 6 0 0 0 0 0)

-- "Restrictions and presented names without a wildcard may keep one label": `_m.b` lies in the permitted `b`, and does not match
abbrev pub one_label_kept : Certificate
one_label_kept =
    constrained one_label_san one_label_names (hex "30 15 A0 13 30 11 A0 0F 06 08 2B 06 01 05 05 07 08 07 A0 03 16 01 62")
    (side 0 (text "b") ∷ []) dns (numbers 1 0 0 0 0 0)

-- ---- 2/13: addresses

-- "A certificate with dNSName `10.4.0.7` matched a kiosk whose server was set by address."
abbrev pub address_name : List ℕ → Verdict → Certificate
address_name references numbers =
    by_san (hex "30 0A 82 08 31 30 2E 34 2E 30 2E 37") (San.plain 0x82 (text "10.4.0.7") ∷ []) references numbers

-- "the last label of a domain": digits in another one, and a last one that begins with a digit, match as before
abbrev pub digits_first : Certificate
digits_first =
    by_san (hex "30 0B 82 09 34 2E 65 78 61 6D 70 6C 65") (San.plain 0x82 (text "4.example") ∷ [])
    (record_bytes 1 [] 63 (text "4.example") 244) (numbers 0 0 0 2 11 0)

abbrev pub digit_then_letter : Certificate
digit_then_letter =
    by_san (hex "30 06 82 04 61 2E 37 62") (San.plain 0x82 (text "a.7b") ∷ []) (record_bytes 1 [] 63 (text "a.7b") 249) (numbers 0 0 0 2 6 0)

-- "SRVNames (no SRV-ID, so 2 where SRVName subtrees exist)": `_m.10.4.0.7`, without constraints and where `_m` is permitted
abbrev pub address_srv : List ℕ → List (Der.Member San.GeneralName) → Verdict → Certificate
address_srv constraints subtrees numbers =
    constrained (hex "30 1B A0 19 06 08 2B 06 01 05 05 07 08 07 A0 0D 16 0B 5F 6D 2E 31 30 2E 34 2E 30 2E 37")
    (srv_name (text "_m.10.4.0.7") ∷ []) constraints subtrees dns numbers

-- a service is no label of the domain: `_7.a.b` lies in the permitted `_7`
abbrev pub digits_service : Certificate
digits_service =
    constrained (hex "30 16 A0 14 06 08 2B 06 01 05 05 07 08 07 A0 08 16 06 5F 37 2E 61 2E 62") (srv_name (text "_7.a.b") ∷ [])
    (permits 0x37) (permitted 0x37) (record_bytes 2 (text "7") 62 (text "a.b") 250) (numbers 0 0 0 2 22 0)

-- a host: `x://10.4.0.7` is no URI-ID and blocks the CN; in `x://a.b:7` the port is no label
abbrev pub address_host : List ℕ → Certificate
address_host references =
    by_san (hex "30 0E 86 0C 78 3A 2F 2F 31 30 2E 34 2E 30 2E 37") (San.plain 0x86 (text "x://10.4.0.7") ∷ []) references (numbers 1 0 0 0 0 0)

abbrev pub digits_port : Certificate
digits_port =
    by_san (hex "30 0B 86 09 78 3A 2F 2F 61 2E 62 3A 37") (San.plain 0x86 (text "x://a.b:7") ∷ [])
    (record_bytes 3 (text "x") 62 (text "a.b") 250) (numbers 0 0 0 2 11 0)

-- "Other forms in the constraints are read and passed over": the URI `10.4.0.7` is permitted, and `a.b` matches
abbrev pub address_passed_over : Certificate
address_passed_over =
    constrained s s_names (hex "30 0E A0 0C 30 0A 86 08 31 30 2E 34 2E 30 2E 37") (subtree 0 (San.plain 0x86 (text "10.4.0.7")) ∷ []) dns
    (numbers 0 0 0 2 5 0)

-- ---- label lengths

-- "Labels of 63 and 64 bytes", each with a second label
abbrev pub long_label : ℕ → ℕ → Verdict → Certificate
long_label n fill numbers =
    let name : List ℕ = letters n ++ text ".b" in
    by_san (0x30 ∷ (n + 4) ∷ 0x82 ∷ (n + 2) ∷ name) (San.plain 0x82 name ∷ []) (record_bytes 1 [] 63 name fill) numbers

-- ---- rows

-- "Kinds: tag's low five bits; 9 for an SRVName"; "Group: entry index"
abbrev pub san_listed : Rows San.GeneralName
san_listed = record {
  bytes = hex "30 32 81 01 61 82 01 62 86 01 63 87 01 01 88 01 2A A3 00 A4 00 A5 00 A0 07 06 01 2A A0 02 04 00 A0 12 06 08 2B 06 01 05 05 07 08 07 A0 06 16 04 5F 6D 2E 62";
  names =
      San.plain 0x81 (text "a") ∷ San.plain 0x82 (text "b") ∷ San.plain 0x86 (text "c") ∷ San.plain 0x87 (hex "01") ∷ San.plain 0x88 (hex "2A")
      ∷ San.plain 0xA3 [] ∷ San.plain 0xA4 [] ∷ San.plain 0xA5 [] ∷ San.other (hex "2A") 0x04 [] ∷ srv_name (text "_m.b") ∷ [];
  rows =
      row 1 2 3 0 ∷ row 2 5 3 1 ∷ row 6 8 3 2 ∷ row 7 11 3 3 ∷ row 8 14 3 4 ∷ row 3 17 2 5 ∷ row 4 19 2 6 ∷ row 5 21 2 7 ∷ row 0 23 9 8
      ∷ row 9 32 20 9 ∷ [];
}

-- "in a subject 10 for a CN with tag 0C, 13 or 16, 11 for another CN, 12 otherwise"; "RDN index"
abbrev pub subject_listed : Rows (Der.Member Subject.Attribute)
subject_listed = record {
  bytes = hex "30 22 31 0A 30 08 06 03 55 04 03 0C 01 61 31 14 30 08 06 03 55 04 03 14 01 62 30 08 06 03 55 04 0A 0C 01 63";
  names =
      attribute 0 Subject.cn_oid 0x0C (text "a") ∷ attribute 1 Subject.cn_oid 0x14 (text "b") ∷ attribute 1 (hex "55 04 0A") 0x0C (text "c") ∷ [];
  rows = row 10 4 10 0 ∷ row 11 16 10 1 ∷ row 12 26 10 1 ∷ [];
}

-- "A subtree's row is its GeneralName." "0 permitted and 1 excluded"
abbrev pub constraints_listed : Rows (Der.Member San.GeneralName)
constraints_listed = record {
  bytes = hex "30 30 A0 19 30 03 82 01 62 30 12 A0 10 06 08 2B 06 01 05 05 07 08 07 A0 04 16 02 5F 6D A1 13 30 11 A0 0F 06 08 2B 06 01 05 05 07 08 07 A0 03 16 01 62";
  names = subtree 0 (San.plain 0x82 (text "b")) ∷ side 0 (text "_m") ∷ side 1 (text "b") ∷ [];
  rows = row 2 6 3 0 ∷ row 9 11 18 0 ∷ row 9 33 17 1 ∷ [];
}

-- 3/13: the strings that the viewer's examples page through. Headers of the sets and of the sides stand between names
abbrev pub two_entries : Rows San.GeneralName
two_entries = record {
  bytes = hex "30 0A 82 03 61 2E 62 82 03 62 2E 63";
  names = San.plain 0x82 (text "a.b") ∷ San.plain 0x82 (text "b.c") ∷ [];
  rows = row 2 2 5 0 ∷ row 2 7 5 1 ∷ [];
}

abbrev pub three_attributes : Rows (Der.Member Subject.Attribute)
three_attributes = record {
  bytes = hex "30 24 31 16 30 08 06 03 55 04 0A 0C 01 6F 30 0A 06 03 55 04 03 0C 03 61 2E 62 31 0A 30 08 06 03 55 04 03 1E 01 78";
  names =
      attribute 0 (hex "55 04 0A") 0x0C (text "o") ∷ attribute 0 Subject.cn_oid 0x0C (text "a.b") ∷ attribute 1 Subject.cn_oid 0x1E (text "x") ∷ [];
  rows = row 12 4 10 0 ∷ row 10 14 12 0 ∷ row 11 28 10 1 ∷ [];
}

abbrev pub three_subtrees : Rows (Der.Member San.GeneralName)
three_subtrees = record {
  bytes = hex "30 32 A0 14 30 12 A0 10 06 08 2B 06 01 05 05 07 08 07 A0 04 16 02 5F 6D A1 1A 30 05 82 03 61 2E 62 30 11 A0 0F 06 08 2B 06 01 05 05 07 08 07 A0 03 16 01 62";
  names = side 0 (text "_m") ∷ subtree 1 (San.plain 0x82 (text "a.b")) ∷ side 1 (text "b") ∷ [];
  rows = row 9 6 18 0 ∷ row 2 28 5 1 ∷ row 9 35 17 1 ∷ [];
}

-- ---- listings

-- what the table held before
abbrev old : ℕ → Row
old n = row n n n n

-- "The answer is 0 and the count"; "Rows past the count .. stay"
abbrev pub fits : Listing
fits = record {
  refusal = 3;
  seen = listed (row 2 2 5 0 ∷ []);
  lent = old 1 ∷ old 2 ∷ [];
  answered = record { answer = 0; count = 1 };
  table = row 2 2 5 0 ∷ old 2 ∷ [];
}

-- as many rows are lent as it has
abbrev pub just_fits : Listing
just_fits = record {
  refusal = 3;
  seen = listed (row 2 2 5 0 ∷ []);
  lent = old 1 ∷ [];
  answered = record { answer = 0; count = 1 };
  table = row 2 2 5 0 ∷ [];
}

-- "8 with the count needed, given exactly when that exceeds the rows lent"
abbrev pub too_short : Listing
too_short = record {
  refusal = 3;
  seen = listed (row 2 2 5 0 ∷ row 2 7 5 1 ∷ []);
  lent = old 1 ∷ [];
  answered = record { answer = 8; count = 2 };
  table = old 1 ∷ [];
}

-- "7, then 3, 4 or 5 (each with count 0)"; "all rows after a refusal, stay"
abbrev pub long : Listing
long = record { refusal = 4; seen = too_long; lent = old 1 ∷ []; answered = record { answer = 7; count = 0 }; table = old 1 ∷ [] }

abbrev pub unread : Listing
unread = record { refusal = 5; seen = unreadable; lent = old 1 ∷ []; answered = record { answer = 5; count = 0 }; table = old 1 ∷ [] }
