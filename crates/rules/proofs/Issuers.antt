-- The examples of request 6/13, computed: the constraints of several issuers, dNSName subtrees, and how strings are cut by their lengths.
use Prim.Native.Nat.{ℕ}
use Prim.Native.String.{String}
use mathlib.Core.Bool.{true, false}
use mathlib.Core.List.{List, [], ◌∷◌, ◌++◌, map}
use mathlib.Core.Option.{Option, none, some}
use lib.ListN.{length, replicate}
use Rattle.rules.specs.Bytes.{part, sum, cut, same, begins, before, after, ascii, up_to}
use Rattle.rules.specs.Names
use Rattle.rules.specs.Records
use Rattle.rules.specs.Records.{Reference, reference}
use Rattle.rules.specs.Der
use Rattle.rules.specs.Der.{Member}
use Rattle.rules.specs.San
use Rattle.rules.specs.San.{GeneralName, plain, other, srv_oid}
use Rattle.rules.specs.Subject
use Rattle.rules.specs.Constraints
use Rattle.rules.specs.Seen
use Rattle.rules.specs.Seen.{too_long, unreadable, listed, together}
use Rattle.rules.specs.Matching
use Rattle.rules.specs.Verdict
use Rattle.rules.specs.Verdict.{numbers}
use Rattle.rules.proofs.Text.{text, hex}
use Rattle.rules.proofs.Test.{all_hold}
use Rattle.rules.proofs.Holds.{Example, tested, written, verdict, refused, All, passing}
use Rattle.rules.proofs.Marked.{s, s_names, j_names}
use Rattle.rules.proofs.Certificates.{dns, chained}

-- ---- names and strings

abbrev dns_name : String → GeneralName
dns_name t = plain 0x82 (text t)

abbrev srv_name : String → GeneralName
srv_name t = other srv_oid 0x16 (text t)

-- a string of one subtree: permitted, excluded
abbrev permits : GeneralName → List (Member GeneralName)
permits n = record { group = 0; value = n } ∷ []

abbrev excludes : GeneralName → List (Member GeneralName)
excludes n = record { group = 1; value = n } ∷ []

-- the verdict on a list of names beside J, for one reference, by the lists of the issuers' strings
abbrev judges : Reference → List GeneralName → List (List (Member GeneralName)) → List ℕ → Example
judges r san strings six =
    let v = Verdict.verdict_of (listed (r ∷ [])) (listed san) (listed j_names) (together (map listed strings)) in
    written (v.answer ∷ v.reference ∷ v.presented ∷ v.start ∷ v.length ∷ v.issuer ∷ []) six

-- for the reference DNS `a.b`
abbrev ab : List GeneralName → List (List (Member GeneralName)) → List ℕ → Example
ab = judges (reference 1 [] (text "a.b"))

-- ---- chains of strings

-- permitted are `a.b`, `b` and `c`, in bytes
abbrev permits_ab : List ℕ
permits_ab = hex "30 09 A0 07 30 05 82 03 61 2E 62"

abbrev permits_b : List ℕ
permits_b = hex "30 07 A0 05 30 03 82 01 62"

abbrev permits_c : List ℕ
permits_c = hex "30 07 A0 05 30 03 82 01 63"

abbrev chains : List Example
chains =
    -- "All of them must hold"; "lowest issuer first"
    verdict (chained s s_names (permits_ab ∷ permits_b ∷ []) (permits (dns_name "a.b") ∷ permits (dns_name "b") ∷ []) dns (numbers 0 0 0 2 5 0))
    ∷ verdict (chained s s_names (permits_ab ∷ permits_c ∷ []) (permits (dns_name "a.b") ∷ permits (dns_name "c") ∷ []) dns (numbers 2 0 0 0 0 1))
    ∷ verdict (chained s s_names (replicate 7 [] ++ permits_c ∷ []) (replicate 7 [] ++ permits (dns_name "c") ∷ []) dns (numbers 2 0 0 0 0 7))
    -- ".. then lowest name": `_m.b` breaks the first string, `a.b` the second; then both the same string
    ∷ ab (dns_name "a.b" ∷ srv_name "_m.b" ∷ []) (permits (srv_name "_n") ∷ permits (dns_name "c") ∷ []) (2 ∷ 0 ∷ 1 ∷ 0 ∷ 0 ∷ 0 ∷ [])
    ∷ ab (dns_name "a.b" ∷ srv_name "_m.b" ∷ []) ((permits (srv_name "_n") ++ permits (dns_name "c")) ∷ []) (2 ∷ 0 ∷ 0 ∷ 0 ∷ 0 ∷ 0 ∷ [])
    -- "The CN stays free", and URIs are
    ∷ judges (reference 4 [] (text "a.b")) [] (excludes (dns_name "") ∷ []) (0 ∷ 0 ∷ 0 ∷ 4 ∷ 12 ∷ 0 ∷ [])
    ∷ judges (reference 3 (text "s") (text "a.b")) (plain 0x86 (text "s://a.b") ∷ []) (excludes (dns_name "") ∷ []) (0 ∷ 0 ∷ 0 ∷ 2 ∷ 9 ∷ 0 ∷ [])
    -- one unreadable string is 5, and one too long is 7 wherever it stands
    ∷ refused (listed []) (listed []) (listed []) (together (listed (permits (dns_name "c")) ∷ unreadable ∷ [])) 5
    ∷ refused unreadable unreadable unreadable (together (unreadable ∷ listed [] ∷ too_long ∷ [])) 7
    ∷ refused unreadable unreadable unreadable (together (too_long ∷ unreadable ∷ [])) 7
    ∷ []

-- ---- dNSName subtrees

-- "With any dNSName subtree in a string, a dNSName that is no DNS-ID breaks it": not with an SRVName subtree alone
abbrev no_dns_id : String → List Example
no_dns_id t =
    ab (dns_name t ∷ []) (permits (dns_name "") ∷ []) (2 ∷ 0 ∷ 0 ∷ 0 ∷ 0 ∷ 0 ∷ [])
    ∷ ab (dns_name t ∷ []) (excludes (dns_name "q.r") ∷ []) (2 ∷ 0 ∷ 0 ∷ 0 ∷ 0 ∷ 0 ∷ [])
    ∷ ab (dns_name t ∷ []) (excludes (srv_name "q.r") ∷ []) (1 ∷ 0 ∷ 0 ∷ 0 ∷ 0 ∷ 0 ∷ [])
    ∷ []

-- `*.a.b` and the reference DNS `q.a.b`, under one string: allowed, and not
abbrev allowed : List (Member GeneralName) → Example
allowed string = judges (reference 1 [] (text "q.a.b")) (dns_name "*.a.b" ∷ []) (string ∷ []) (0 ∷ 0 ∷ 0 ∷ 2 ∷ 7 ∷ 0 ∷ [])

abbrev broken : List (Member GeneralName) → Example
broken string = judges (reference 1 [] (text "q.a.b")) (dns_name "*.a.b" ∷ []) (string ∷ []) (2 ∷ 0 ∷ 0 ∷ 0 ∷ 0 ∷ 0 ∷ [])

abbrev subtrees : List Example
subtrees =
    -- "an empty text contains every name"
    ab s_names (permits (dns_name "") ∷ []) (0 ∷ 0 ∷ 0 ∷ 2 ∷ 5 ∷ 0 ∷ [])
    ∷ ab s_names (excludes (dns_name "") ∷ []) (2 ∷ 0 ∷ 0 ∷ 0 ∷ 0 ∷ 0 ∷ [])
    -- "lie in no excluded .. subtree, and, if any permitted .. subtree exists, lie in one"
    ∷ ab s_names ((permits (dns_name "a.b") ++ permits (dns_name "c")) ∷ []) (0 ∷ 0 ∷ 0 ∷ 2 ∷ 5 ∷ 0 ∷ [])
    ∷ ab s_names ((excludes (dns_name "c") ++ excludes (dns_name "a.b")) ∷ []) (2 ∷ 0 ∷ 0 ∷ 0 ∷ 0 ∷ 0 ∷ [])
    ∷ ab s_names ((permits (dns_name "b") ++ excludes (dns_name "a.b")) ∷ []) (2 ∷ 0 ∷ 0 ∷ 0 ∷ 0 ∷ 0 ∷ [])
    -- "zero or more labels added on the left"; "Letters compare without case, label by label"
    ∷ tested (Names.dns_within (text "a.B") (text "x.A.b")) true
    -- "A wildcard name lies in a subtree if the subtree's labels are its last labels, the star taken as an ordinary label"
    ∷ allowed (permits (dns_name "a.b"))
    ∷ allowed (permits (dns_name "b"))
    ∷ allowed (permits (dns_name ""))
    ∷ broken (permits (dns_name "x.a.b"))
    ∷ broken (excludes (dns_name "a.b"))
    -- "It also breaks an excluded subtree made of one label and then the text after `*.`"
    ∷ broken (excludes (dns_name "X.A.B"))
    ∷ tested (Names.dns_reaches (text "x.a.B") (text "*.A.b")) true
    ∷ allowed (excludes (dns_name "y.x.a.b"))
    ∷ allowed (excludes (dns_name "xa.b"))
    -- .. and a name without a wildcard does not
    ∷ ab s_names (excludes (dns_name "x.b") ∷ []) (0 ∷ 0 ∷ 0 ∷ 2 ∷ 5 ∷ 0 ∷ [])
    ∷ (no_dns_id "" ++ (no_dns_id "*" ++ (no_dns_id "*.b" ++ no_dns_id "10.4.0.7")))

-- "any other text must be a domain, else 5": of a dNSName, and of no other form
abbrev restrictions : List Example
restrictions =
    tested ((Constraints.constraints_grammar).good (permits (dns_name ""))) true
    ∷ tested ((Constraints.constraints_grammar).good (permits (dns_name "b"))) true
    ∷ tested ((Constraints.constraints_grammar).good (permits (dns_name ".b"))) false
    ∷ tested ((Constraints.constraints_grammar).good (excludes (dns_name "b."))) false
    ∷ tested ((Constraints.constraints_grammar).good (excludes (dns_name "*.b.c"))) false
    ∷ tested ((Constraints.constraints_grammar).good (permits (dns_name "7"))) false
    ∷ written (passing (λ t. (Constraints.constraints_grammar).good (permits (plain t (text ".b"))))) (hex "81 86 87 88 A3 A4 A5")
    ∷ written (passing (λ t. (Constraints.constraints_grammar).good (permits (plain t [])))) (hex "81 82 86 87 88 A3 A4 A5")
    -- "If the OID is the eight bytes": a ninth, and one less
    ∷ tested ((Constraints.constraints_grammar).good (permits (other (hex "2B 06 01 05 05 07 08 07 01") 0x16 (text ".b")))) true
    ∷ tested ((Constraints.constraints_grammar).good (permits (other (hex "2B 06 01 05 05 07 08") 0x16 (text ".b")))) true
    ∷ []

-- ---- strings and their lengths

-- the count of the strings, and each behind its length; nothing where there are none
abbrev strings_shown : Option (List (List ℕ)) → List ℕ
strings_shown none = []
strings_shown (some strings) = length strings ∷ Der.run (λ string. length string ∷ string) strings

abbrev cuts : List ℕ → List ℕ → List ℕ → Example
cuts lengths bytes shown = written (strings_shown (Seen.strings_of lengths bytes)) shown

abbrev lengths_shown : Option (List ℕ) → List ℕ
lengths_shown none = []
lengths_shown (some lengths) = length lengths ∷ lengths

abbrev from_c : List ℕ → List ℕ → Example
from_c bytes shown = written (lengths_shown (Seen.lengths_from_c bytes)) shown

abbrev strings : List Example
strings =
    -- "end to end in one slice beside a slice of their lengths"
    cuts (2 ∷ 0 ∷ 1 ∷ []) (7 ∷ 8 ∷ 9 ∷ []) (3 ∷ 2 ∷ 7 ∷ 8 ∷ 0 ∷ 1 ∷ 9 ∷ [])
    ∷ cuts [] [] (0 ∷ [])
    -- "Take 0 to 8 constraint strings"; "a ninth, or lengths with another sum, is 7"
    ∷ cuts (replicate 8 0) [] (8 ∷ replicate 8 0)
    ∷ cuts (replicate 9 0) [] []
    ∷ cuts [] (7 ∷ []) []
    ∷ cuts (2 ∷ []) (7 ∷ []) []
    ∷ tested (Seen.lengths_fit (replicate 8 16384) 131072) true
    -- no sum of lengths wraps
    ∷ cuts (18446744073709551615 ∷ 4 ∷ []) (7 ∷ 8 ∷ 9 ∷ []) []
    -- "From C each length is two bytes, high first; an odd count is 7"
    ∷ from_c (0 ∷ 11 ∷ []) (1 ∷ 11 ∷ [])
    ∷ from_c (11 ∷ 0 ∷ []) (1 ∷ 2816 ∷ [])
    ∷ from_c (64 ∷ 0 ∷ 255 ∷ 255 ∷ []) (2 ∷ 16384 ∷ 65535 ∷ [])
    ∷ from_c [] (0 ∷ [])
    ∷ from_c (0 ∷ []) []
    ∷ from_c (0 ∷ 11 ∷ 0 ∷ []) []
    ∷ written (strings_shown (Seen.strings_by none [])) []
    ∷ []

pub issuers : All (chains ++ (subtrees ++ (restrictions ++ strings)))
unfolding part same begins before after ascii up_to Names.letter Names.digit Names.letter_digit_hyphen Names.lower Names.same_text Names.ldh Names.label Names.longer Names.labels Names.last_of Names.domain Names.two_labels Names.same_labels Names.same_domain Names.wildcard Names.dns_id Names.leftmost_matches Names.labels_match Names.dns_matches Names.dns_restriction Names.subtree_labels Names.dns_within Names.one_label_then Names.dns_reaches Names.service Names.service_of Names.domain_of Names.srv_id Names.restriction Names.given_service Names.given_domain Names.last_labels Names.domain_within Names.in_subtree Names.scheme_byte Names.scheme Names.scheme_of Names.authority_end Names.authority_of Names.host_and_port Names.host_of Names.port_of Names.uri_id Names.uri_matches Records.reference_of Records.filled Records.good_service Records.good_reference Records.good_record Records.split Records.records_of Records.good_records Records.references_of Der.length_bytes Der.element Der.header Der.run Der.push Der.groups Der.rows_of_members Der.rows_of_groups San.tag_of San.content_of San.write_name San.sealed San.good_value San.good_srv_name San.good_name San.name_kind San.rows_of_names Subject.write_attribute Subject.good_attribute Subject.write_set Subject.good_set Subject.numbered Subject.is_cn Subject.attribute_kind Subject.attribute_row Constraints.good_restriction Constraints.good_subtree Constraints.write_subtree Constraints.write_side Constraints.good_side sum Seen.lengths_fit cut Seen.strings_of Seen.lengths_from_c Seen.strings_by Seen.together Seen.seen_records Matching.tagged_text Matching.srv_text Matching.entry_text Matching.sole_cn Matching.cn_text Matching.blocks_cn Matching.presented_in Matching.presented_to Matching.text_matches Matching.matches Matching.first_pair Matching.subtrees_of Matching.allowed Matching.breaks_as Matching.breaks Matching.first_broken Matching.first_breach Verdict.witness_of Verdict.judged Verdict.outcome_of Verdict.numbers_of Verdict.verdict_of
issuers = all_hold (chains ++ (subtrees ++ (restrictions ++ strings))) tt
