-- P1 to P16: the examples that document 01 marks, as one table under one proved statement.
use Prim.Native.Nat.{ℕ}
use mathlib.Core.Bool.{true, false}
use mathlib.Core.List.{List, [], ◌∷◌}
use Rattle.rules.specs.Bytes.{part, same, begins, before, after, ascii, up_to}
use Rattle.rules.specs.Names
use Rattle.rules.specs.Records
use Rattle.rules.specs.Der
use Rattle.rules.specs.San
use Rattle.rules.specs.Subject
use Rattle.rules.specs.Seen
use Rattle.rules.specs.Matching
use Rattle.rules.specs.Verdict
use Rattle.rules.specs.Verdict.{numbers}
use Rattle.rules.proofs.Text.{text}
use Rattle.rules.proofs.Test.{all_hold}
use Rattle.rules.proofs.Holds.{Certificate, Example, subtree, dns_name, no_dns_id, verdict, All, record_bytes}

-- "S is `30 05 82 03 61 2E 62`; J is `30 0E 31 0C 30 0A 06 03 55 04 03 0C 03 61 2E 62`."
abbrev pub s : List ℕ
s = 0x30 ∷ 0x05 ∷ 0x82 ∷ 0x03 ∷ 0x61 ∷ 0x2E ∷ 0x62 ∷ []

abbrev pub s_names : List San.GeneralName
s_names = San.plain 0x82 (text "a.b") ∷ []

abbrev pub j : List ℕ
j = 0x30 ∷ 0x0E ∷ 0x31 ∷ 0x0C ∷ 0x30 ∷ 0x0A ∷ 0x06 ∷ 0x03 ∷ 0x55 ∷ 0x04 ∷ 0x03 ∷ 0x0C ∷ 0x03 ∷ 0x61 ∷ 0x2E ∷ 0x62 ∷ []

abbrev pub j_names : List (Der.Member Subject.Attribute)
j_names = record { group = 0; value = record { oid = Subject.cn_oid; tag = 0x0C; content = text "a.b" } } ∷ []

abbrev pub p16 : Certificate
p16 = record {
  san = s;
  san_names = s_names;
  subject = j;
  subject_names = j_names;
  constraints = [];
  constraints_names = [];
  references = record_bytes 1 [] 63 (text "A.B") 250;
  numbers = numbers 0 0 0 2 5 0;
}

abbrev pub table : List Example
table =
    -- P1 to P11: "the eleven restriction and name pairs of RFC 4985 section 4, seven inside and four outside"
    subtree (text "example.com") (text "_mail.example.com") true
    ∷ subtree (text "example.com") (text "_ntp.example.com") true
    ∷ subtree (text "example.com") (text "_mail.1.example.com") true
    ∷ subtree (text "_mail") (text "_mail.example.com") true
    ∷ subtree (text "_mail") (text "_mail.1example.com") true
    ∷ subtree (text "_mail.example.com") (text "_mail.example.com") true
    ∷ subtree (text "_mail.example.com") (text "_mail.1.example.com") true
    ∷ subtree (text "example.com") (text "_mail.1example.com") false
    ∷ subtree (text "_mail") (text "_ntp.example.com") false
    ∷ subtree (text "_mail.example.com") (text "_mail.1example.com") false
    ∷ subtree (text "_mail.example.com") (text "_ntp.example.com") false
    -- P12 to P15
    ∷ dns_name (text "*.branch.example") (text "desk.branch.example") true
    ∷ dns_name (text "*.branch.example") (text "x.desk.branch.example") false
    ∷ dns_name (text "*.branch.example") (text "branch.example") false
    ∷ no_dns_id (text "bar.*.example")
    -- P16: S, J, reference DNS `A.B`
    ∷ verdict p16
    ∷ []

pub marked : All table
unfolding part same begins before after ascii up_to Names.letter Names.digit Names.letter_digit_hyphen Names.lower Names.same_text Names.ldh Names.label Names.longer Names.labels Names.last_of Names.domain Names.two_labels Names.same_labels Names.same_domain Names.wildcard Names.dns_id Names.leftmost_matches Names.labels_match Names.dns_matches Names.service Names.service_of Names.domain_of Names.srv_id Names.restriction Names.given_service Names.given_domain Names.last_labels Names.domain_within Names.in_subtree Records.reference_of Records.filled Records.good_service Records.good_reference Records.good_record Records.split Records.records_of Records.good_records Records.references_of Der.length_bytes Der.element Der.header Der.run Der.push Der.groups Der.rows_of_members Der.rows_of_groups San.tag_of San.content_of San.write_name San.sealed San.good_value San.good_srv_name San.good_name San.name_kind San.rows_of_names Subject.write_attribute Subject.good_attribute Subject.write_set Subject.good_set Subject.numbered Subject.is_cn Subject.attribute_kind Subject.attribute_row Seen.together Seen.seen_records Matching.tagged_text Matching.srv_text Matching.entry_text Matching.sole_cn Matching.cn_text Matching.blocks_cn Matching.presented_in Matching.presented_to Matching.text_matches Matching.matches Matching.first_pair Matching.first_breach Verdict.witness_of Verdict.judged Verdict.outcome_of Verdict.numbers_of Verdict.verdict_of
marked = all_hold table tt
