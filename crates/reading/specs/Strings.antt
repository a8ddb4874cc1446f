-- The readers of the three certificate strings. Each is put together as its grammar is written.
use Rattle.std.specs.Prelude.{ℕ, suc, Bool, cond, ◌&&◌, List, [], ◌∷◌, ◌++◌, map, eqb, ltb}
use Rattle.std.proofs.Math.Option.{Option, some}
use Rattle.rules.specs.Bytes.{some?, chain, up_to}
use Rattle.rules.specs.Der.{Member, Group}
use Rattle.rules.specs.San.{GeneralName, plain, other, good_oid, good_value, good_name}
use Rattle.rules.specs.Subject.{Attribute, write_attribute}
use Rattle.rules.specs.Constraints.{good_restriction}
use Rattle.reading.specs.Reader.{then, Raw, as_is, also, via, tagged, numbered_by, alone, two, items}

-- ---- SAN

abbrev pub read_oid : Raw → Option (List ℕ)
read_oid = tagged 0x06 (as_is good_oid)

abbrev pub read_value : Raw → Option Raw
read_value = as_is (λ x. good_value x.tag x.content)

-- the content of an otherName: its OID and the inner element
abbrev pub read_other : List ℕ → Option (List ℕ × Raw)
read_other = two read_oid (tagged 0xA0 (alone read_value))

-- the GeneralName that an element is, before its own rules are asked
unfoldable pub name_of : Raw → Option GeneralName
name_of x =
    cond (eqb x.tag 0xA0)
    (then (read_other x.content) (λ p. some (other p.0 p.1.tag p.1.content)))
    (some (plain x.tag x.content))

unfoldable pub read_name : Raw → Option GeneralName
read_name = also good_name name_of

unfoldable pub read_san : List ℕ → Option (List GeneralName)
read_san = alone (tagged 0x30 (also some? (items read_name)))

-- ---- a list of names from its groups

-- the names of groups, in order, each with its group's number
unfoldable pub flat : {A : Type 0} → List (Group A) → List (Member A)
flat [] = []
flat (g ∷ gs) = map (λ a. record { group = g.number; value = a }) g.members ++ flat gs

-- groups numbered from i on
unfoldable pub number_from : {A : Type 0} → ℕ → List (List A) → List (Group A)
number_from i [] = []
number_from i (m ∷ ms) = record { number = i; members = m } ∷ number_from (suc i) ms

-- ---- the subject

unfoldable pub read_attribute : Raw → Option Attribute
read_attribute =
    tagged 0x30 (via (λ p. record { oid = p.0; tag = p.1.tag; content = p.1.content }) (two read_oid read_value))

-- one or more attributes, in ascending byte order
abbrev pub in_order : List Attribute → Bool
in_order s = some? s && chain (λ a b. up_to (write_attribute a) (write_attribute b)) s

unfoldable pub read_set : Raw → Option (List Attribute)
read_set = tagged 0x31 (also in_order (items read_attribute))

unfoldable pub read_sets : List ℕ → Option (List (List Attribute))
read_sets = alone (tagged 0x30 (items read_set))

-- "its set, numbered from 0 without a gap"
unfoldable pub read_subject : List ℕ → Option (List (Member Attribute))
read_subject = via (λ sets. flat (number_from 0 sets)) read_sets

-- ---- constraints

unfoldable pub read_subtree : Raw → Option GeneralName
read_subtree = tagged 0x30 (alone (also good_restriction read_name))

-- "A0 (permitted), A1 (excluded)": the side's number is the tag less A0
unfoldable pub read_side : Raw → Option (Group GeneralName)
read_side = also (λ g. some? g.members && ltb g.number 2) (numbered_by 0xA0 (items read_subtree))

-- a side before one of greater number
abbrev pub rising : {A : Type 0} → Group A → Group A → Bool
rising g h = ltb g.number h.number

unfoldable pub read_sides : List ℕ → Option (List (Group GeneralName))
read_sides = alone (tagged 0x30 (also (λ l. some? l && chain rising l) (items read_side)))

unfoldable pub read_constraints : List ℕ → Option (List (Member GeneralName))
read_constraints = via flat read_sides
