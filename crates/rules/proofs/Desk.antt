-- The other examples of documents 01 and 02, their old faults, and the smallest examples that tell their other sentences apart,
-- computed.
use Prim.Native.Nat.{ℕ, ◌+◌, ◌<◌}
use mathlib.Core.Bool.{Bool, true, false, cond, not}
use mathlib.Core.Logic.{◌↔◌}
use mathlib.Core.List.{List, [], ◌∷◌, ◌++◌, map}
use lib.ListN.{length, drop, replicate}
use lib.Dec.{T, ltb, lt→ltb, ltb→lt}
use Rattle.rules.specs.Bytes.{part, same, begins, before, after, ascii, up_to}
use Rattle.rules.specs.Names
use Rattle.rules.specs.Records
use Rattle.rules.specs.Der
use Rattle.rules.specs.San
use Rattle.rules.specs.Subject
use Rattle.rules.specs.Constraints
use Rattle.rules.specs.Seen
use Rattle.rules.specs.Seen.{too_long, unreadable, listed, san_input, subject_input, constraints_input, Sees, seen_records}
use Rattle.rules.specs.Matching
use Rattle.rules.specs.Verdict
use Rattle.rules.specs.Verdict.{numbers}
use Rattle.rules.specs.Listing
use Rattle.rules.specs.Viewer
use Rattle.rules.specs.declared.Row.{Row}
use Rattle.rules.proofs.Text.{text, hex}
use Rattle.rules.proofs.Test.{all_hold}
use Rattle.rules.proofs.Holds.{Certificate, Example, subtree, dns_name, tested, written, verdict, refused, san_rows, subject_rows, constraints_rows, listing, All, record_bytes, passing}
use Rattle.rules.proofs.Joined.{dotted}
use Rattle.rules.proofs.Certificates
use Rattle.rules.proofs.Certificates.{letters, attribute, side}

-- labels of so many letters with dots between
abbrev labelled : ℕ → ℕ → ℕ → ℕ → List ℕ
labelled a b c d = dotted (letters a ∷ letters b ∷ letters c ∷ letters d ∷ [])

-- what the record reader shows: answer, kind, and the lengths of service and domain
abbrev shows : List ℕ → ℕ → ℕ → ℕ → ℕ → ℕ → Example
shows b i answer kind service domain =
    let r = Records.shown b i in
    written (r.answer ∷ r.kind ∷ r.service ∷ r.domain ∷ []) (answer ∷ kind ∷ service ∷ domain ∷ [])

-- all numbers of a verdict: its six, and the start and the length of the witness's text
abbrev told : Certificate → List ℕ → Example
told c numbers =
    let n = Verdict.all_numbers (Certificates.outcome c) in
    written
    (n.answer ∷ n.reference ∷ n.presented ∷ n.start ∷ n.length ∷ n.issuer ∷ n.text_start ∷ n.text_length ∷ []) numbers

-- the witness's text, and where it lies; the SAN lies in block 1 and the subject in block 2
abbrev witness : Certificate → List ℕ → ℕ → ℕ → List Example
witness c t block start =
    let o = Certificates.outcome c in
    written (Verdict.witness_text c.san c.subject o) t
    ∷ written ((Verdict.witness_place (1, 0) (2, 0) o).0 ∷ (Verdict.witness_place (1, 0) (2, 0) o).1 ∷ []) (block ∷ start ∷ [])
    ∷ written ((Verdict.witness_part o).start ∷ (Verdict.witness_part o).length ∷ []) (start ∷ length t ∷ [])
    ∷ []

-- ---- names

abbrev domains : List Example
domains =
    -- "Ending the domain test on text (`1host.branch.example` inside `host.branch.example`)."
    subtree (text "host.branch.example") (text "_mail.1host.branch.example") false
    ∷ subtree (text "host.branch.example") (text "_mail.1.host.branch.example") true
    -- "Labels of 63 and 64 bytes, domains of 253 and 254"
    ∷ tested (Names.domain (letters 63)) true
    ∷ tested (Names.domain (letters 64)) false
    ∷ tested (Names.domain (labelled 63 63 63 61)) true
    ∷ tested (Names.domain (labelled 63 63 63 62)) false
    -- "no hyphen at either end", "No trailing dot", labels of one byte at least
    ∷ tested (Names.domain (text "a-b.1c")) true
    ∷ tested (Names.domain (text "-a")) false
    ∷ tested (Names.domain (text "a-")) false
    ∷ tested (Names.domain (text "a.")) false
    ∷ tested (Names.domain (text "a..b")) false
    ∷ tested (Names.domain []) false
    -- "A label has letters, digits and hyphens", "joined by single dots": of all bytes, those that may stand between two letters
    ∷ written (passing (λ b. Names.domain (0x61 ∷ b ∷ 0x61 ∷ [])))
    (text "-.0123456789ABCDEFGHIJKLMNOPQRSTUVWXYZabcdefghijklmnopqrstuvwxyz")
    -- 2/13: "the last label of a domain may not be all digits", and no other label is judged by it
    ∷ tested (Names.domain (text "10.4.0.7")) false
    ∷ tested (Names.domain (text "4.example")) true
    ∷ tested (Names.domain (text "a.7b")) true
    ∷ tested (Names.domain (text "7")) false
    ∷ tested (Names.domain (text "a.7")) false
    ∷ tested (Names.domain (text "a.0123456789")) false
    ∷ tested (Names.domain (text "a." ++ replicate 63 0x37)) false
    ∷ tested (Names.domain (text "a.7.b")) true
    ∷ tested (Names.domain (text "a.0x7")) true
    ∷ tested (Names.domain (text "a.7-7")) true
    ∷ tested (Names.dns_id (text "*.a.7")) false
    ∷ tested (Names.dns_id (text "*.4.example")) true
    -- "`*.` and a domain (at most 253 bytes in all)"
    ∷ tested (Names.dns_id (text "*." ++ labelled 63 63 63 59)) true
    ∷ tested (Names.dns_id (text "*." ++ labelled 63 63 63 60)) false
    ∷ tested (Names.dns_id (text "*." ++ labelled 63 63 63 61)) false
    ∷ tested (Names.dns_id (text "*")) false
    -- 1/13: "a wildcard needs at least two labels after it"
    ∷ tested (Names.dns_id (text "*.a")) false
    ∷ tested (Names.dns_id (text "*.example")) false
    ∷ tested (Names.dns_id (text "*.a.b")) true
    -- "Letters compare without case": no byte beside A to Z folds
    ∷ dns_name (text "A.Z") (text "a.z") true
    ∷ written (passing (λ b. Names.same_text (b ∷ []) ((b + 32) ∷ []))) (text "ABCDEFGHIJKLMNOPQRSTUVWXYZ")
    -- "`*` stands for exactly one whole label of the reference"; "an xn-- label is compared like any other"
    ∷ dns_name (text "*.b.c") (text "xn--a.b.c") true
    ∷ dns_name (text "*.b.c") (text "7.b.c") true
    ∷ dns_name (text "XN--a.b") (text "xn--A.b") true
    ∷ []

abbrev services : List Example
services =
    -- "1 to 62 letters, digits, hyphens, no hyphen at an end"
    tested (Names.srv_id (text "_" ++ (letters 62 ++ text ".b"))) true
    ∷ tested (Names.srv_id (text "_" ++ (letters 63 ++ text ".b"))) false
    ∷ tested (Names.srv_id (text "_a-1.b")) true
    ∷ tested (Names.srv_id (text "_-a.b")) false
    ∷ tested (Names.srv_id (text "_a-.b")) false
    ∷ tested (Names.srv_id (text "_.b")) false
    ∷ tested (Names.srv_id (text "_a")) false
    -- "a domain without wildcard"
    ∷ tested (Names.srv_id (text "_a.*.b")) false
    ∷ tested (Names.srv_id (text "_a.*.b.c")) false
    -- "one of three texts: `_service`, `_service.domain`, `domain`"
    ∷ tested (Names.restriction (text "_a")) true
    ∷ tested (Names.restriction (text "_a.b")) true
    ∷ tested (Names.restriction (text "b")) true
    ∷ tested (Names.restriction (text ".b")) false
    ∷ tested (Names.restriction (text "*.b.c")) false
    -- 2/13: an address is no domain here either; `_7` has a service alone
    ∷ tested (Names.srv_id (text "_m.10.4.0.7")) false
    ∷ tested (Names.srv_id (text "_7.a.b")) true
    ∷ tested (Names.restriction (text "10.4.0.7")) false
    ∷ tested (Names.restriction (text "_m.7")) false
    ∷ tested (Names.restriction (text "_7")) true
    -- "Service or scheme and domain must both match, without case."
    ∷ tested (Names.srv_matches (text "m") (text "B.c") (text "_M.b.C")) true
    ∷ tested (Names.srv_matches (text "M") (text "b") (text "_m.b")) true
    ∷ tested (Names.srv_matches (text "n") (text "b") (text "_m.b")) false
    ∷ tested (Names.srv_matches (text "m") (text "c") (text "_m.b")) false
    ∷ tested (Names.srv_matches (text "m") (text "b") (text "_m.x.b")) false
    -- "It lies in a subtree if the service is equal, without case, .. and the subtree's labels are the last labels of its domain"
    ∷ subtree (text "_MAil.Example.COM") (text "_maIL.eXample.com") true
    ∷ []

abbrev uris : List Example
uris =
    -- "a letter, then letters, digits, "+", "-", "."", "1 to 63 bytes"
    tested (Names.scheme (letters 63)) true
    ∷ tested (Names.scheme (letters 64)) false
    ∷ tested (Names.scheme (text "a+-.1")) true
    ∷ tested (Names.scheme (text "1a")) false
    ∷ tested (Names.scheme []) false
    ∷ written (passing (λ b. Names.scheme (0x61 ∷ b ∷ []))) (text "+-.0123456789ABCDEFGHIJKLMNOPQRSTUVWXYZabcdefghijklmnopqrstuvwxyz")
    -- an authority up to each of its ends, with a user part, with a port
    ∷ tested (Names.uri_id (text "a://b")) true
    ∷ tested (Names.uri_id (text "a://b/@c")) true
    ∷ tested (Names.uri_id (text "a://b?@c")) true
    ∷ tested (Names.uri_id (text "a://b#@c")) true
    ∷ tested (Names.uri_id (text "a://u:v@b")) true
    ∷ tested (Names.uri_id (text "a://@b")) true
    ∷ tested (Names.uri_id (text "a://b:80")) true
    ∷ tested (Names.uri_id (text "a://u@b:")) true
    ∷ tested (Names.uri_id (text "a://u@v@b")) false
    ∷ tested (Names.uri_id (text "a://b:8x")) false
    ∷ tested (Names.uri_id (text "a:/b")) false
    ∷ tested (Names.uri_id (text "a:b")) false
    ∷ tested (Names.uri_id (text "a://*.b")) false
    ∷ tested (Names.uri_id (text "a://*.b.c")) false
    ∷ tested (Names.uri_id (text "://b")) false
    ∷ tested (Names.uri_id (text "a://u@")) false
    -- 2/13: the host is a domain, the port no label of it
    ∷ tested (Names.uri_id (text "x://10.4.0.7")) false
    ∷ tested (Names.uri_id (text "x://a.b:7")) true
    -- "Service or scheme and domain must both match, without case."
    ∷ tested (Names.uri_matches (text "a-z") (text "b.C") (text "A-Z://u@B.c:1?d")) true
    ∷ tested (Names.uri_matches (text "A") (text "b") (text "a://b")) true
    ∷ tested (Names.uri_matches (text "c") (text "b") (text "a://b")) false
    ∷ tested (Names.uri_matches (text "a") (text "c") (text "a://b")) false
    ∷ tested (Names.uri_matches (text "a") (text "x.b") (text "a://b")) false
    ∷ tested (Names.uri_matches (text "a") (text "b") (text "a://x.b")) false
    ∷ []

-- ---- records

abbrev records : List Example
records =
    -- "a total of 0 bytes, or one not divisible by 320"
    tested (Records.good_records []) false
    ∷ tested (Records.good_records (record_bytes 1 [] 63 (text "b.c") 249)) false
    -- "Byte 0 kind: 1 DNS, 2 SRV, 3 URI, 4 CN. Byte 1 zero."
    ∷ tested (Records.good_records (record_bytes 0 [] 63 (text "b.c") 250)) false
    ∷ tested (Records.good_records (record_bytes 5 [] 63 (text "b.c") 250)) false
    ∷ tested (Records.good_records (1 ∷ 1 ∷ drop 2 (record_bytes 1 [] 63 (text "b.c") 250))) false
    -- "each filled with zeros"
    ∷ tested (Records.good_records (1 ∷ 0 ∷ 0 ∷ 3 ∷ 1 ∷ drop 5 (record_bytes 1 [] 63 (text "b.c") 250))) false
    -- "Bytes .. 67 to 319 domain": 253 bytes, of which the record says that they are 254
    ∷ tested (Records.good_records (1 ∷ 0 ∷ 0 ∷ 254 ∷ (replicate 63 0 ++ labelled 63 63 63 61))) false
    -- "Kinds 1 and 4 have service length 0. Kind 2: a service .., 1 to 62 bytes. Kind 3: a URI scheme .., 1 to 63 bytes."
    ∷ tested (Records.good_records (record_bytes 1 (text "a") 62 (text "b.c") 250)) false
    ∷ tested (Records.good_records (record_bytes 4 (text "a") 62 (text "b.c") 250)) false
    ∷ tested (Records.good_records (record_bytes 2 [] 63 (text "b.c") 250)) false
    ∷ tested (Records.good_records (record_bytes 2 (text "_m") 61 (text "b.c") 250)) false
    ∷ tested (Records.good_records (record_bytes 2 (letters 62) 1 (text "b.c") 250)) true
    ∷ tested (Records.good_records (record_bytes 2 (letters 63) 0 (text "b.c") 250)) false
    ∷ tested (Records.good_records (record_bytes 3 [] 63 (text "b.c") 250)) false
    ∷ tested (Records.good_records (record_bytes 3 (letters 63) 0 (text "b.c") 250)) true
    -- "The domain is as defined below, without a wildcard."
    ∷ tested (Records.good_records (record_bytes 1 [] 63 (text "*.b.c") 248)) false
    ∷ tested (Records.good_records (record_bytes 1 [] 63 [] 253)) false
    -- 1/13: "a reference record whose domain has one label is refused with 6", of any kind and beside good ones
    ∷ shows (record_bytes 1 [] 63 (text "b") 252) 0 6 0 0 0
    ∷ shows (record_bytes 2 (text "m") 62 (text "b") 252) 0 6 0 0 0
    ∷ shows (record_bytes 3 (text "m") 62 (text "b") 252) 0 6 0 0 0
    ∷ shows (record_bytes 4 [] 63 (text "b") 252) 0 6 0 0 0
    ∷ shows (record_bytes 1 [] 63 (text "example") 246) 0 6 0 0 0
    ∷ shows (Certificates.dns ++ record_bytes 1 [] 63 (text "b") 252) 0 6 0 0 0
    ∷ shows (record_bytes 1 [] 63 (text "b") 252 ++ Certificates.dns) 1 6 0 0 0
    -- 2/13: "records (6)"
    ∷ shows (record_bytes 1 [] 63 (text "10.4.0.7") 245) 0 6 0 0 0
    ∷ shows (record_bytes 2 (text "m") 62 (text "a.7") 250) 0 6 0 0 0
    ∷ shows (record_bytes 3 (text "m") 62 (text "a.7") 250) 0 6 0 0 0
    ∷ shows (record_bytes 4 [] 63 (text "a.7") 250) 0 6 0 0 0
    ∷ shows (record_bytes 2 (text "7") 62 (text "a.7b") 249) 0 0 2 1 4
    -- "that record's kind and two lengths, zeros on a refusal or past the last"
    ∷ shows (record_bytes 2 (text "m") 62 (text "a.b") 250) 0 0 2 1 3
    ∷ shows (record_bytes 2 (text "m") 62 (text "a.b") 250) 1 0 0 0 0
    ∷ shows [] 0 6 0 0 0
    -- "7, then 6, else 0": the last of 16 records, and one byte more than they have
    ∷ shows (Der.run (λ b. b) (replicate 15 Certificates.dns) ++ Certificates.cn) 15 0 4 0 3
    ∷ shows (replicate 5121 0) 0 7 0 0 0
    ∷ []

-- ---- the grammar

abbrev general_names : List Example
general_names =
    -- "one byte to 127; 81 and a byte from 128 to 255; 82 and two bytes from 256"
    written (Der.length_bytes 127) (hex "7F")
    ∷ written (Der.length_bytes 128) (hex "81 80")
    ∷ written (Der.length_bytes 255) (hex "81 FF")
    ∷ written (Der.length_bytes 256) (hex "82 01 00")
    -- "81, 82, 86: every byte below 128. 87, 88, A3, A4, A5: content not looked into. Tags not named here are unreadable."
    ∷ tested (San.good_name (San.plain 0x81 (hex "7F 80"))) false
    ∷ tested (San.good_name (San.plain 0x82 (hex "7F 80"))) false
    ∷ tested (San.good_name (San.plain 0x86 (hex "7F 80"))) false
    ∷ tested (San.good_name (San.plain 0x86 (hex "00 7F"))) true
    ∷ written (passing (λ t. San.good_name (San.plain t []))) (hex "81 82 86 87 88 A3 A4 A5")
    ∷ written (passing (λ t. San.good_name (San.plain t (hex "FF")))) (hex "87 88 A3 A4 A5")
    ∷ tested (San.good_name (San.plain 0x87 (replicate 5 0))) true
    ∷ tested (San.good_name (San.plain 0x87 (replicate 17 0))) true
    -- "an OID element (tag 06, content not empty)"; "low five bits all ones is unreadable"
    ∷ tested (San.good_name (San.other [] 0x04 [])) false
    ∷ tested (San.good_name (San.other (hex "2A 80") 0x0C (hex "FF"))) true
    ∷ tested (San.good_name (San.other (hex "80 01") 0x0C [])) true
    ∷ written (passing (λ t. not (San.good_name (San.other (hex "2A") t [])))) (hex "1F 3F 5F 7F 9F BF DF FF")
    -- "that inner element has tag 16, at least one byte, all below 128"
    ∷ tested (San.good_name (San.other San.srv_oid 0x0C (text "_m"))) false
    ∷ tested (San.good_name (San.other San.srv_oid 0x16 [])) false
    ∷ tested (San.good_name (San.other San.srv_oid 0x16 (hex "80"))) false
    -- "one or more GeneralNames"
    ∷ tested ((San.san_grammar).good []) false
    ∷ []

abbrev groups : List Example
groups =
    -- "zero or more sets (31), each of one or more attributes (30) of one OID element and one value element"
    tested ((Subject.subject_grammar).good []) true
    ∷ tested ((Subject.subject_grammar).good (attribute 0 [] 0x0C [] ∷ [])) false
    ∷ written (passing (λ t. not ((Subject.subject_grammar).good (attribute 0 (hex "2A") t [] ∷ [])))) (hex "1F 3F 5F 7F 9F BF DF FF")
    -- "numbered from 0 without a gap"
    ∷ tested ((Subject.subject_grammar).good (attribute 1 (hex "2A") 0x0C [] ∷ [])) false
    ∷ tested ((Subject.subject_grammar).good (attribute 0 (hex "2A") 0x0C [] ∷ attribute 2 (hex "2A") 0x0C [] ∷ [])) false
    -- "The CN's OID content is 55 04 03": a byte more, and one less; "tag 0C, 13 or 16"
    ∷ tested (Subject.is_cn (attribute 0 (hex "55 04 03 01") 0x0C []).value) false
    ∷ tested (Subject.is_cn (attribute 0 (hex "55 04") 0x0C []).value) false
    ∷ written (passing Subject.cn_tag) (hex "0C 13 16")
    -- "in ascending byte order, equal ones allowed"
    ∷ tested ((Subject.subject_grammar).good (attribute 0 (hex "2A") 0x0C [] ∷ attribute 0 (hex "2A") 0x0C [] ∷ [])) true
    ∷ tested ((Subject.subject_grammar).good (attribute 0 (hex "2B") 0x0C [] ∷ attribute 0 (hex "2A") 0x0C [] ∷ [])) false
    -- "A0 (permitted), A1 (excluded), or both in that order; at least one"
    ∷ tested ((Constraints.constraints_grammar).good []) false
    ∷ tested ((Constraints.constraints_grammar).good (side 0 (text "a") ∷ side 1 (text "a") ∷ [])) true
    ∷ tested ((Constraints.constraints_grammar).good (side 1 (text "a") ∷ side 0 (text "a") ∷ [])) false
    ∷ tested ((Constraints.constraints_grammar).good (side 2 (text "a") ∷ [])) false
    -- "An SRVName here has one of three texts"
    ∷ tested ((Constraints.constraints_grammar).good (side 0 (text ".a") ∷ [])) false
    -- 2/13: "restriction texts (5)"
    ∷ tested ((Constraints.constraints_grammar).good (side 0 (text "10.4.0.7") ∷ [])) false
    ∷ tested ((Constraints.constraints_grammar).good (side 1 (text "_m.7") ∷ [])) false
    ∷ []

-- "An empty string means that the certificate has none"; "It is never absent"; "Empty means none."
abbrev absences : List Example
absences = tested san_input.optional true ∷ tested subject_input.optional false ∷ tested constraints_input.optional true ∷ []

-- ---- verdicts

abbrev verdicts : List Example
verdicts =
    verdict Certificates.cn_matches
    ∷ verdict Certificates.cn_blocked
    ∷ verdict Certificates.srv_matches
    ∷ verdict Certificates.srv_permitted
    ∷ verdict Certificates.srv_broken
    ∷ verdict Certificates.second_issuer
    ∷ verdict Certificates.not_excused
    ∷ verdict Certificates.srv_excluded
    ∷ verdict Certificates.srv_not_excluded
    ∷ verdict Certificates.no_srv_id
    ∷ verdict Certificates.other_form
    ∷ verdict Certificates.other_forms
    ∷ verdict Certificates.uri_matched
    ∷ verdict Certificates.other_kind
    ∷ verdict Certificates.lowest_reference
    ∷ verdict Certificates.lowest_name
    ∷ verdict Certificates.second_reference
    ∷ verdict Certificates.bad_fill
    ∷ verdict Certificates.uri_blocks
    ∷ verdict Certificates.srv_blocks
    ∷ verdict Certificates.others_pass
    ∷ verdict (Certificates.sealed_pass Certificates.cn (numbers 0 0 0 4 12 0))
    ∷ verdict (Certificates.sealed_pass Certificates.srv (numbers 1 0 0 0 0 0))
    ∷ verdict Certificates.uri_between
    ∷ verdict (Certificates.cn_tagged 0x13 (numbers 0 0 0 4 12 0))
    ∷ verdict (Certificates.cn_tagged 0x16 (numbers 0 0 0 4 12 0))
    ∷ verdict (Certificates.cn_tagged 0x14 (numbers 1 0 0 0 0 0))
    ∷ verdict (Certificates.two_cns 0x13)
    ∷ verdict (Certificates.two_cns 0x14)
    ∷ verdict Certificates.cn_and_other
    ∷ verdict Certificates.second_set
    ∷ verdict Certificates.cn_not_cut
    ∷ verdict (Certificates.wildcard_over1 Certificates.dns)
    ∷ verdict (Certificates.wildcard_over1 Certificates.cn)
    ∷ verdict Certificates.wildcard_over_example
    ∷ verdict (Certificates.wildcard_over2 (record_bytes 1 [] 63 (text "a.b.c") 248) (numbers 0 0 0 2 7 0))
    ∷ verdict (Certificates.wildcard_over2 (record_bytes 1 [] 63 (text "b.c") 250) (numbers 1 0 0 0 0 0))
    ∷ verdict Certificates.cn_over1
    ∷ verdict Certificates.cn_over2
    ∷ verdict Certificates.one_label_record
    ∷ verdict Certificates.one_label_kept
    ∷ verdict (Certificates.address_name (record_bytes 1 [] 63 (text "10.4.0.7") 245) (numbers 6 0 0 0 0 0))
    ∷ verdict (Certificates.address_name Certificates.dns (numbers 1 0 0 0 0 0))
    ∷ verdict (Certificates.address_name Certificates.cn (numbers 1 0 0 0 0 0))
    ∷ verdict Certificates.digits_first
    ∷ verdict Certificates.digit_then_letter
    ∷ verdict (Certificates.address_srv [] [] (numbers 1 0 0 0 0 0))
    ∷ verdict (Certificates.address_srv (Certificates.permits 0x6D) (Certificates.permitted 0x6D) (numbers 2 0 0 0 0 0))
    ∷ verdict Certificates.digits_service
    ∷ verdict (Certificates.address_host (record_bytes 3 (text "x") 62 (text "a.b") 250))
    ∷ verdict (Certificates.address_host Certificates.cn)
    ∷ verdict Certificates.digits_port
    ∷ verdict Certificates.address_passed_over
    ∷ verdict (Certificates.long_label 63 188 (numbers 0 0 0 2 67 0))
    ∷ verdict (Certificates.long_label 64 187 (numbers 6 0 0 0 0 0))
    ∷ []

-- "Order for a verdict: 7 for any of the four inputs, then 6, 3, 4, 5"
abbrev refusals : List Example
refusals =
    refused too_long unreadable unreadable unreadable 7
    ∷ refused unreadable too_long unreadable unreadable 7
    ∷ refused unreadable unreadable too_long unreadable 7
    ∷ refused unreadable unreadable unreadable too_long 7
    ∷ refused unreadable unreadable unreadable unreadable 6
    ∷ refused (listed []) unreadable unreadable unreadable 3
    ∷ refused (listed []) (listed []) unreadable unreadable 4
    ∷ refused (listed []) (listed []) (listed []) unreadable 5
    ∷ []

-- "is handed back as a part of the certificate's own bytes. On any answer but 0 that part is empty, at the start of the SAN."
abbrev witnesses : List Example
witnesses =
    witness Certificates.lowest_reference (text "a.b") 1 9
    ++ (witness Certificates.srv_matches (text "_m.b.c") 1 18
    ++ (witness Certificates.uri_matched (text "a://u@b.c:1/") 1 4
    ++ (witness Certificates.cn_matches (text "a.b") 2 13
    ++ (witness Certificates.srv_broken [] 1 0 ++ (witness Certificates.bad_fill [] 1 0 ++ witness Certificates.cn_blocked [] 1 0)))))

-- "answer, reference index, presented index, start, length", the issuer's index, and that part's start and length
abbrev all_numbers : List Example
all_numbers =
    told Certificates.second_reference (0 ∷ 1 ∷ 0 ∷ 2 ∷ 5 ∷ 0 ∷ 4 ∷ 3 ∷ [])
    ∷ told Certificates.second_set (0 ∷ 0 ∷ 1 ∷ 18 ∷ 12 ∷ 0 ∷ 27 ∷ 3 ∷ [])
    ∷ told Certificates.second_issuer (2 ∷ 0 ∷ 0 ∷ 0 ∷ 0 ∷ 1 ∷ 0 ∷ 0 ∷ [])
    ∷ []

-- ---- listings

abbrev listings : List Example
listings =
    san_rows Certificates.san_listed
    ∷ written (map San.name_kind Certificates.sealed_names) (8 ∷ 3 ∷ 4 ∷ 5 ∷ 0 ∷ 0 ∷ [])
    ∷ subject_rows Certificates.subject_listed
    ∷ constraints_rows Certificates.constraints_listed
    ∷ listing Certificates.fits
    ∷ listing Certificates.just_fits
    ∷ listing Certificates.too_short
    ∷ listing Certificates.long
    ∷ listing Certificates.unread
    ∷ []

abbrev pub table : List Example
table =
    domains ++ (services ++ (uris ++ (records ++ (general_names ++ (groups ++ (absences ++ (verdicts ++ (refusals ++ (witnesses ++ (all_numbers ++ listings))))))))))

pub desk : All table
unfolding part same begins before after ascii up_to Names.letter Names.digit Names.letter_digit_hyphen Names.lower Names.same_text Names.ldh Names.label Names.longer Names.labels Names.last_of Names.domain Names.two_labels Names.same_labels Names.same_domain Names.wildcard Names.dns_id Names.leftmost_matches Names.labels_match Names.dns_matches Names.dns_restriction Names.subtree_labels Names.dns_within Names.one_label_then Names.dns_reaches Names.service Names.service_of Names.domain_of Names.srv_id Names.srv_matches Names.restriction Names.given_service Names.given_domain Names.last_labels Names.domain_within Names.in_subtree Names.scheme_byte Names.scheme Names.scheme_of Names.authority_end Names.authority_of Names.host_and_port Names.host_of Names.port_of Names.uri_id Names.uri_matches Records.reference_of Records.filled Records.good_service Records.good_reference Records.good_record Records.split Records.records_of Records.good_records Records.references_of Der.length_bytes Der.element Der.header Der.run Der.push Der.groups Der.rows_of_members Der.rows_of_groups San.tag_of San.content_of San.write_name San.sealed San.good_value San.good_srv_name San.good_name San.name_kind San.rows_of_names Subject.write_attribute Subject.good_attribute Subject.write_set Subject.good_set Subject.numbered Subject.is_cn Subject.attribute_kind Subject.attribute_row Seen.together Seen.seen_records Matching.tagged_text Matching.srv_text Matching.entry_text Matching.sole_cn Matching.cn_text Matching.blocks_cn Matching.presented_in Matching.presented_to Matching.text_matches Matching.matches Matching.first_pair Matching.subtrees_of Matching.allowed Matching.breaks_as Matching.breaks Matching.first_broken Matching.first_breach Verdict.witness_of Verdict.judged Verdict.outcome_of Verdict.numbers_of Verdict.verdict_of Constraints.good_restriction Constraints.good_subtree Constraints.write_subtree Constraints.write_side Constraints.good_side Constraints.subtree_row Listing.listed_of Listing.table_after Records.shown_at Records.shown Verdict.witness_text Verdict.witness_place Verdict.witness_part Verdict.all_numbers
desk = all_hold table tt

-- ---- 3/13: the viewer

-- a step from a position: 1 and a row's four numbers, or 0 and four zeros; and the position after it
abbrev view : Seen.Seen Row → ℕ → List ℕ → Example
view x at numbers =
    let n = Viewer.view_numbers (Viewer.view_of x at) in
    written (n.shown ∷ n.kind ∷ n.start ∷ n.length ∷ n.group ∷ n.at ∷ []) numbers

-- the positions after a step from each of these
abbrev stepped : List Row → List ℕ → List ℕ → Example
stepped rows positions next = written (map (λ at. (Viewer.view_of (listed rows) at).at) positions) next

-- "Opening unreadable bytes is refused with 3, 4 or 5, over-long ones with 7, in 01's order."
abbrev openings : List Example
openings =
    written (Viewer.opening_of 3 too_long ∷ Viewer.opening_of 4 too_long ∷ Viewer.opening_of 5 too_long ∷ []) (7 ∷ 7 ∷ 7 ∷ [])
    ∷ written (Viewer.opening_of 3 unreadable ∷ Viewer.opening_of 4 unreadable ∷ Viewer.opening_of 5 unreadable ∷ []) (3 ∷ 4 ∷ 5 ∷ [])
    ∷ written (Viewer.opening_of 3 (listed []) ∷ Viewer.opening_of 4 (listed (Certificates.three_attributes).rows) ∷ []) (0 ∷ 0 ∷ [])
    ∷ []

abbrev views : List Example
views =
    san_rows Certificates.two_entries
    ∷ subject_rows Certificates.three_attributes
    ∷ constraints_rows Certificates.three_subtrees
    -- "the first row .. that starts at or past the position, whatever position it's handed"
    ∷ view (listed (Certificates.two_entries).rows) 0 (1 ∷ 2 ∷ 2 ∷ 5 ∷ 0 ∷ 7 ∷ [])
    ∷ view (listed (Certificates.two_entries).rows) 2 (1 ∷ 2 ∷ 2 ∷ 5 ∷ 0 ∷ 7 ∷ [])
    ∷ view (listed (Certificates.two_entries).rows) 3 (1 ∷ 2 ∷ 7 ∷ 5 ∷ 1 ∷ 12 ∷ [])
    ∷ view (listed (Certificates.two_entries).rows) 7 (1 ∷ 2 ∷ 7 ∷ 5 ∷ 1 ∷ 12 ∷ [])
    -- "a step at the end doesn't move it"
    ∷ view (listed (Certificates.two_entries).rows) 8 (0 ∷ 0 ∷ 0 ∷ 0 ∷ 0 ∷ 8 ∷ [])
    ∷ view (listed (Certificates.two_entries).rows) 12 (0 ∷ 0 ∷ 0 ∷ 0 ∷ 0 ∷ 12 ∷ [])
    ∷ view (listed (Certificates.two_entries).rows) 18446744073709551615 (0 ∷ 0 ∷ 0 ∷ 0 ∷ 0 ∷ 18446744073709551615 ∷ [])
    -- from a subtree's SEQUENCE its GeneralName is shown
    ∷ view (listed (Certificates.three_subtrees).rows) 26 (1 ∷ 2 ∷ 28 ∷ 5 ∷ 1 ∷ 33 ∷ [])
    -- "or the listing refuses the bytes, it says that it's at the end"; an absent string has no row either
    ∷ view too_long 0 (0 ∷ 0 ∷ 0 ∷ 0 ∷ 0 ∷ 0 ∷ [])
    ∷ view unreadable 3 (0 ∷ 0 ∷ 0 ∷ 0 ∷ 0 ∷ 3 ∷ [])
    ∷ view (listed []) 0 (0 ∷ 0 ∷ 0 ∷ 0 ∷ 0 ∷ 0 ∷ [])
    -- "After a row the position stands just past its element.", be it the header of a set or of a side
    ∷ stepped (Certificates.two_entries).rows (Viewer.opening_at ∷ 7 ∷ 12 ∷ []) (7 ∷ 12 ∷ 12 ∷ [])
    ∷ stepped (Certificates.three_attributes).rows (Viewer.opening_at ∷ 14 ∷ 26 ∷ 38 ∷ []) (14 ∷ 26 ∷ 38 ∷ 38 ∷ [])
    ∷ stepped (Certificates.three_subtrees).rows (Viewer.opening_at ∷ 24 ∷ 33 ∷ 52 ∷ []) (24 ∷ 33 ∷ 52 ∷ 52 ∷ [])
    ∷ []

pub viewer : All (openings ++ views)
unfolding same up_to ascii begins before after Names.letter Names.digit Names.letter_digit_hyphen Names.ldh Names.label Names.longer Names.labels Names.last_of Names.domain Names.dns_restriction Names.service Names.service_of Names.domain_of Names.srv_id Names.restriction Der.length_bytes Der.element Der.header Der.run Der.push Der.groups Der.rows_of_members Der.rows_of_groups San.tag_of San.content_of San.write_name San.sealed San.good_value San.good_srv_name San.good_name San.name_kind San.rows_of_names Subject.write_attribute Subject.good_attribute Subject.write_set Subject.good_set Subject.numbered Subject.is_cn Subject.attribute_kind Subject.attribute_row Constraints.good_restriction Constraints.good_subtree Constraints.write_subtree Constraints.write_side Constraints.good_side Constraints.subtree_row Viewer.row_from Viewer.row_or_end Viewer.view_of Viewer.opening_of Viewer.numbers_at Viewer.view_numbers
viewer = all_hold (openings ++ views) tt

-- ---- "Longest inputs, in bytes: SAN 16,384; subject 4,096; constraints 16,384; references 5,120. One byte more is answer 7."

pub record Limits : Type 0 where
  pub san : (b : List ℕ) → Sees san_input b too_long ↔ (16384 < length b)
  pub subject : (b : List ℕ) → Sees subject_input b too_long ↔ (4096 < length b)
  pub constraints : (b : List ℕ) → Sees constraints_input b too_long ↔ (16384 < length b)
  pub references : (b : List ℕ) → T (Verdict.is_long (seen_records b)) ↔ (5120 < length b)

long_records : (t u : Bool) (l : List Records.Reference) → T (Verdict.is_long (cond t too_long (cond u (listed l) unreadable))) ↔ T t
long_records true u l = (λ h. h, λ h. h)
long_records false true l = (λ h. h, λ h. h)
long_records false false l = (λ h. h, λ h. h)

records_limit_lem : (b : List ℕ) → T (Verdict.is_long (seen_records b)) ↔ (5120 < length b)
unfolding seen_records
records_limit_lem b =
    let e = long_records (ltb 5120 (length b)) (Records.good_records b) (Records.references_of b) in
    (λ h. ltb→lt 5120 (length b) (e.0 h), λ h. e.1 (lt→ltb 5120 (length b) h))

pub limits : Limits
limits = record {
  san = λ b. (λ h. h, λ h. h);
  subject = λ b. (λ h. h, λ h. h);
  constraints = λ b. (λ h. h, λ h. h);
  references = records_limit_lem;
}
