-- What is taken from a certificate string: that it is too long, that it is unreadable, or its list of names. By the grammar
-- alone: no reader stands in this file.
-- "The verdict takes from a certificate string only whether it is too long, whether it is readable, and its list"
use Rattle.std.specs.Prelude.{ℕ, ◌+◌, ◌*◌, ◌≤◌, ◌<◌, ◌≡◌, Bool, true, false, cond, ◌&&◌, ◌⊎◌, List, [], ◌∷◌, length, T, ltb, leb, eqb}
use Rattle.std.proofs.Math.Option.{Option, none, some}
use Rattle.rules.specs.Bytes.{sum, cut}
use Rattle.rules.specs.Numbers.{san_limit, subject_limit, constraints_limit, records_limit, most_issuers}
use Rattle.rules.specs.Records.{Reference, good_records, references_of}
use Rattle.rules.specs.Der.{Member, Grammar, Writes}
use Rattle.rules.specs.San.{GeneralName, san_grammar}
use Rattle.rules.specs.Subject.{Attribute, subject_grammar}
use Rattle.rules.specs.Constraints.{constraints_grammar}

pub data Seen (Name : Type 0) : Type 0 where
  too_long : Seen Name
  unreadable : Seen Name
  listed : List Name → Seen Name

-- a certificate string: its longest length, whether it may be absent, and its grammar
pub record Input (Name : Type 0) : Type 0 where
  pub limit : ℕ
  pub optional : Bool
  pub grammar : Grammar Name

-- "An empty string means that the certificate has none"
abbrev pub san_input : Input GeneralName
san_input = record { limit = san_limit; optional = true; grammar = san_grammar }

-- "It is never absent: an empty string is unreadable"
abbrev pub subject_input : Input (Member Attribute)
subject_input = record { limit = subject_limit; optional = false; grammar = subject_grammar }

-- "Empty means none."
abbrev pub constraints_input : Input (Member GeneralName)
constraints_input = record { limit = constraints_limit; optional = true; grammar = constraints_grammar }

-- "A string is readable exactly when its own grammar writes some list as its bytes; an absent SAN or absent constraints
-- count as readable, with the empty list."
abbrev pub Reads : {Name : Type 0} → Input Name → List ℕ → List Name → Type 0
Reads I bytes list = Writes I.grammar list bytes ⊎ (T I.optional × (bytes ≡ []) × (list ≡ []))

-- what is seen of these bytes
abbrev pub Sees : {Name : Type 0} → Input Name → List ℕ → Seen Name → Type 0
Sees I bytes too_long = I.limit < length bytes
Sees {Name} I bytes unreadable = (length bytes ≤ I.limit) × ((list : List Name) → Reads I bytes list → ⊥)
Sees I bytes (listed list) = (length bytes ≤ I.limit) × Reads I bytes list

-- ---- the constraint strings of all issuers

-- 6/13: "0 to 8 constraint strings"; "a ninth, or lengths with another sum, is 7"
unfoldable pub lengths_fit : List ℕ → ℕ → Bool
lengths_fit lengths size = leb (length lengths) most_issuers && eqb (sum lengths) size

-- 6/13: "end to end in one slice beside a slice of their lengths"
unfoldable pub strings_of : List ℕ → List ℕ → Option (List (List ℕ))
strings_of lengths bytes = cond (lengths_fit lengths (length bytes)) (some (cut lengths bytes)) none

-- 6/13: "From C each length is two bytes, high first; an odd count is 7."
abbrev pub length_then : ℕ → ℕ → Option (List ℕ) → Option (List ℕ)
length_then high low none = none
length_then high low (some ns) = some ((high * 256 + low) ∷ ns)

unfoldable pub lengths_from_c : List ℕ → Option (List ℕ)
lengths_from_c [] = some []
lengths_from_c (high ∷ []) = none
lengths_from_c (high ∷ low ∷ b) = length_then high low (lengths_from_c b)

-- what is no lengths at all cuts nothing
unfoldable pub strings_by : Option (List ℕ) → List ℕ → Option (List (List ℕ))
strings_by none bytes = none
strings_by (some lengths) bytes = strings_of lengths bytes

-- what is seen of all strings: too long if one is, else unreadable if one is, else the list of each
abbrev pub and_seen : {A : Type 0} → Seen A → Seen (List A) → Seen (List A)
and_seen too_long xs = too_long
and_seen unreadable too_long = too_long
and_seen unreadable unreadable = unreadable
and_seen unreadable (listed ls) = unreadable
and_seen (listed l) too_long = too_long
and_seen (listed l) unreadable = unreadable
and_seen (listed l) (listed ls) = listed (l ∷ ls)

unfoldable pub together : {A : Type 0} → List (Seen A) → Seen (List A)
together [] = listed []
together (x ∷ xs) = and_seen x (together xs)

-- ---- our reference records, in the same three cases

unfoldable pub seen_records : List ℕ → Seen Reference
seen_records b =
    cond (ltb records_limit (length b)) too_long (cond (good_records b) (listed (references_of b)) unreadable)
