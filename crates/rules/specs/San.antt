-- How the names of a subjectAltName are put into bytes. There is no reader in this file.
use Rattle.std.specs.Prelude.{ℕ, suc, ◌+◌, ◌%◌, Bool, true, cond, not, ◌&&◌, ◌||◌, List, [], ◌∷◌, ◌++◌, length, eqb}
use Rattle.rules.specs.Bytes.{some?, all, same, ascii}
use Rattle.rules.specs.Der.{element, header, run, good_tag, Grammar}
use Rattle.rules.specs.declared.Row.{Row}

-- "its tag and whole content (for an otherName its OID and the inner element's tag and content ..)"
pub data GeneralName : Type 0 where
  plain : ℕ → List ℕ → GeneralName
  other : List ℕ → ℕ → List ℕ → GeneralName

-- "the eight bytes 2B 06 01 05 05 07 08 07"
abbrev pub srv_oid : List ℕ
srv_oid = 0x2B ∷ 0x06 ∷ 0x01 ∷ 0x05 ∷ 0x05 ∷ 0x07 ∷ 0x08 ∷ 0x07 ∷ []

unfoldable pub tag_of : GeneralName → ℕ
tag_of (plain t c) = t
tag_of (other o t c) = 0xA0

-- "A0, otherName: an OID element (tag 06 ..), then tag A0 holding exactly one element."
unfoldable pub content_of : GeneralName → List ℕ
content_of (plain t c) = c
content_of (other o t c) = element 0x06 o ++ element 0xA0 (element t c)

unfoldable pub write_name : GeneralName → List ℕ
write_name n = element (tag_of n) (content_of n)

-- "81, 82, 86: every byte below 128."
abbrev pub text_tag : ℕ → Bool
text_tag t = eqb t 0x81 || eqb t 0x82 || eqb t 0x86

-- "87, 88, A3, A4, A5: content not looked into."
abbrev pub sealed_tag : ℕ → Bool
sealed_tag t = eqb t 0x87 || eqb t 0x88 || eqb t 0xA3 || eqb t 0xA4 || eqb t 0xA5

unfoldable pub sealed : List ℕ → Bool
sealed c = true

-- "an OID element (tag 06, content not empty)"
abbrev pub good_oid : List ℕ → Bool
good_oid = some?

-- the element inside an otherName, or an attribute's value: any tag that is good, content not looked into
unfoldable pub good_value : ℕ → List ℕ → Bool
good_value t c = good_tag t && sealed c

-- "that inner element has tag 16, at least one byte, all below 128"
unfoldable pub good_srv_name : ℕ → List ℕ → Bool
good_srv_name t c = eqb t 0x16 && some? c && ascii c

-- "Tags not named here are unreadable." "If the OID is the eight bytes .., that inner element has .."
unfoldable pub good_name : GeneralName → Bool
good_name (plain t c) = (text_tag t && ascii c) || (sealed_tag t && sealed c)
good_name (other o t c) = good_oid o && good_value t c && (not (same o srv_oid) || good_srv_name t c)

-- "Kinds: tag's low five bits; 9 for an SRVName"
unfoldable pub name_kind : GeneralName → ℕ
name_kind (plain t c) = t % 32
name_kind (other o t c) = cond (same o srv_oid) 9 (0xA0 % 32)

-- "Group: entry index"
unfoldable pub rows_of_names : ℕ → ℕ → List GeneralName → List Row
rows_of_names at i [] = []
rows_of_names at i (n ∷ ns) =
    record { kind = name_kind n; start = at; length = length (write_name n); group = i }
    ∷ rows_of_names (at + length (write_name n)) (suc i) ns

-- "SAN: tag 30, one or more GeneralNames."
abbrev pub san_grammar : Grammar GeneralName
san_grammar = record {
  good = λ l. all good_name l && some? l;
  write = λ l. element 0x30 (run write_name l);
  rows = λ l. rows_of_names (header (run write_name l)) 0 l;
}
