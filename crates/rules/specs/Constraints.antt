-- How the subtrees of nameConstraints are put into bytes. There is no reader in this file.
use Rattle.std.specs.Prelude.{ℕ, ◌+◌, Bool, not, ◌&&◌, ◌||◌, List, length, eqb, ltb}
use Rattle.rules.specs.Bytes.{some?, all, chain, same}
use Rattle.rules.specs.Names.{restriction, dns_restriction}
use Rattle.rules.specs.Der.{element, header, run, Member, Group, groups, rows_of_groups, Grammar}
use Rattle.rules.specs.San.{GeneralName, plain, other, srv_oid, good_name, write_name, name_kind}
use Rattle.rules.specs.declared.Row.{Row}

-- a side's number: permitted 0, excluded 1
abbrev pub permitted : ℕ
permitted = 0

abbrev pub excluded : ℕ
excluded = 1

-- "An SRVName here has one of three texts". 6/13, of a dNSName: "any other text must be a domain, else 5"
unfoldable pub good_restriction : GeneralName → Bool
good_restriction (plain t c) = not (eqb t 0x82) || dns_restriction c
good_restriction (other o t c) = not (same o srv_oid) || restriction c

unfoldable pub good_subtree : GeneralName → Bool
good_subtree n = good_name n && good_restriction n

-- "30 elements, and each of those exactly one GeneralName; no minimum, no maximum"
unfoldable pub write_subtree : GeneralName → List ℕ
write_subtree n = element 0x30 (write_name n)

-- "A0 (permitted), A1 (excluded) .. Each holds one or more 30 elements"
unfoldable pub write_side : Group GeneralName → List ℕ
write_side g = element (0xA0 + g.number) (run write_subtree g.members)

unfoldable pub good_side : Group GeneralName → Bool
good_side g = all good_subtree g.members && ltb g.number 2

-- "A subtree's row is its GeneralName." "Group: .. 0 permitted and 1 excluded"
unfoldable pub subtree_row : ℕ → ℕ → GeneralName → Row
subtree_row at number n =
    record { kind = name_kind n; start = at + header (write_name n); length = length (write_name n); group = number }

-- "tag 30 holding A0 (permitted), A1 (excluded), or both in that order; at least one"
abbrev pub constraints_grammar : Grammar (Member GeneralName)
constraints_grammar = record {
  good = λ l. all good_side (groups l) && (some? (groups l) && chain (λ g h. ltb g.number h.number) (groups l));
  write = λ l. element 0x30 (run write_side (groups l));
  rows = λ l. rows_of_groups write_subtree subtree_row (header (run write_side (groups l))) (groups l);
}
