-- How the attributes of a subject are put into bytes. There is no reader in this file.
use Rattle.std.specs.Prelude.{ℕ, suc, Bool, true, cond, ◌&&◌, ◌||◌, List, [], ◌∷◌, ◌++◌, length, eqb}
use Rattle.rules.specs.Bytes.{all, chain, same, up_to}
use Rattle.rules.specs.Der.{element, header, run, Member, Group, groups, rows_of_groups, Grammar}
use Rattle.rules.specs.San.{good_oid, good_value}
use Rattle.rules.specs.declared.Row.{Row}

-- "for an attribute its OID and its value's tag and content"
pub record Attribute : Type 0 where
  pub oid : List ℕ
  pub tag : ℕ
  pub content : List ℕ

-- "attributes (30) of one OID element and one value element"
unfoldable pub write_attribute : Attribute → List ℕ
write_attribute a = element 0x30 (element 0x06 a.oid ++ element a.tag a.content)

unfoldable pub good_attribute : Attribute → Bool
good_attribute a = good_oid a.oid && good_value a.tag a.content

-- "sets (31), each of one or more attributes"
unfoldable pub write_set : Group Attribute → List ℕ
write_set g = element 0x31 (run write_attribute g.members)

-- "The attributes of a set stand in ascending byte order, equal ones allowed (X.690, SET OF)."
unfoldable pub good_set : Group Attribute → Bool
good_set g = all good_attribute g.members && chain (λ a b. up_to (write_attribute a) (write_attribute b)) g.members

-- "its set, numbered from 0 without a gap"
unfoldable pub numbered : ℕ → List (Group Attribute) → Bool
numbered i [] = true
numbered i (g ∷ gs) = eqb g.number i && numbered (suc i) gs

-- "The CN's OID content is 55 04 03."
abbrev pub cn_oid : List ℕ
cn_oid = 0x55 ∷ 0x04 ∷ 0x03 ∷ []

unfoldable pub is_cn : Attribute → Bool
is_cn a = same a.oid cn_oid

-- "tag 0C, 13 or 16"
abbrev pub cn_tag : ℕ → Bool
cn_tag t = eqb t 0x0C || eqb t 0x13 || eqb t 0x16

-- "in a subject 10 for a CN with tag 0C, 13 or 16, 11 for another CN, 12 otherwise"
unfoldable pub attribute_kind : Attribute → ℕ
attribute_kind a = cond (is_cn a) (cond (cn_tag a.tag) 10 11) 12

-- "RDN index": the group of a row is the number of the attribute's set
unfoldable pub attribute_row : ℕ → ℕ → Attribute → Row
attribute_row at number a = record { kind = attribute_kind a; start = at; length = length (write_attribute a); group = number }

-- "Subject: tag 30, zero or more sets"
abbrev pub subject_grammar : Grammar (Member Attribute)
subject_grammar = record {
  good = λ l. numbered 0 (groups l) && all good_set (groups l);
  write = λ l. element 0x30 (run write_set (groups l));
  rows = λ l. rows_of_groups write_attribute attribute_row (header (run write_set (groups l))) (groups l);
}
