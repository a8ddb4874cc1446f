-- The names of a SAN value: each is made of one text; its bytes, and how many they are.
use Rattle.std.specs.Prelude.{ℕ, ◌+◌, cond, List, [], ◌∷◌, eqb}
use Rattle.rules.specs.Numbers.{srv_kind}
use Rattle.rules.specs.San.{write_name}
use Rattle.rules.specs.Writing.{Identifier, identifier, name_for}
use Rattle.output.specs.Output.{element_size}

-- a name of its kind and text
abbrev pub identifier_of : ℕ → List (List ℕ) → Identifier
identifier_of kind [] = identifier kind []
identifier_of kind (text ∷ texts) = identifier kind text

-- as it is written
unfoldable pub identifier_bytes : Identifier → List ℕ
identifier_bytes i = write_name (name_for i)

-- how long a name of this kind is whose text has n bytes; the OID's element has 10
unfoldable pub name_size : ℕ → ℕ → ℕ
name_size kind n = cond (eqb kind srv_kind) (element_size (10 + element_size (element_size n))) (element_size n)
