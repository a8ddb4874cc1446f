-- DER as writing: how elements, runs of elements and groups of names are put into bytes. There is no reader in this file.
-- Document 01, "DER grammar".
use Rattle.std.specs.Prelude.{ℕ, suc, ◌+◌, ◌/◌, ◌%◌, ◌≡◌, Bool, cond, not, List, [], ◌∷◌, ◌++◌, length, T, ltb, eqb}
use Rattle.rules.specs.declared.Row.{Row}

-- "Every length is definite and shortest: one byte to 127; 81 and a byte from 128 to 255; 82 and two bytes from 256."
-- A content of 65,536 bytes or more has no writing in bytes: its first length byte would be 256 or more.
unfoldable pub length_bytes : ℕ → List ℕ
length_bytes n = cond (ltb n 128) (n ∷ []) (cond (ltb n 256) (0x81 ∷ n ∷ []) (0x82 ∷ n / 256 ∷ n % 256 ∷ []))

-- an element: its tag, its length, its content
unfoldable pub element : ℕ → List ℕ → List ℕ
element t c = t ∷ (length_bytes (length c) ++ c)

-- how many bytes of an element stand before its content
unfoldable pub header : List ℕ → ℕ
header c = suc (length (length_bytes (length c)))

-- elements side by side; as the content of another, they fill it exactly
unfoldable pub run : {A : Type 0} → (A → List ℕ) → List A → List ℕ
run write [] = []
run write (a ∷ l) = write a ++ run write l

-- "Tags are one byte; low five bits all ones is unreadable."
abbrev pub good_tag : ℕ → Bool
good_tag t = not (eqb (t % 32) 31)

-- ---- a list of names that stand in groups: the sets of a subject, the sides of constraints

-- a name, with the number of its group: "in a subject its set, numbered from 0 without a gap, in constraints its side"
pub record Member (A : Type 0) : Type 0 where
  pub group : ℕ
  pub value : A

-- the names of one group
pub record Group (A : Type 0) : Type 0 where
  pub number : ℕ
  pub members : List A

-- one name more in front: in the first group if that has its number, else in a group of its own
unfoldable pub push : {A : Type 0} → Member A → List (Group A) → List (Group A)
push m [] = record { number = m.group; members = m.value ∷ [] } ∷ []
push m (g ∷ gs) =
    cond (eqb m.group g.number)
    (record { number = g.number; members = m.value ∷ g.members } ∷ gs)
    (record { number = m.group; members = m.value ∷ [] } ∷ g ∷ gs)

-- the groups of a list, in order; none is empty
unfoldable pub groups : {A : Type 0} → List (Member A) → List (Group A)
groups [] = []
groups (m ∷ l) = push m (groups l)

-- ---- rows

-- "the length is that of the name's element as written .., the start is the number of bytes written before that element"
module _ {A : Type 0} (write : A → List ℕ) (row : ℕ → ℕ → A → Row) where
  -- the rows of a group's members, side by side from `at` on
  unfoldable pub rows_of_members : ℕ → ℕ → List A → List Row
  rows_of_members at number [] = []
  rows_of_members at number (a ∷ l) = row at number a ∷ rows_of_members (at + length (write a)) number l

  -- the rows of groups, side by side from `at` on, each written as an element around its members
  unfoldable pub rows_of_groups : ℕ → List (Group A) → List Row
  rows_of_groups at [] = []
  rows_of_groups at (g ∷ gs) =
      let content = run write g.members in
      rows_of_members (at + header content) g.number g.members
      ++ rows_of_groups (at + header content + length content) gs

-- ---- a grammar

-- which lists of names are good, the bytes that a good list is written as, and its rows
pub record Grammar (Name : Type 0) : Type 0 where
  pub good : List Name → Bool
  pub write : List Name → List ℕ
  pub rows : List Name → List Row

-- the grammar writes this list as these bytes
pub record Writes {Name : Type 0} (G : Grammar Name) (list : List Name) (bytes : List ℕ) : Type 0 where
  pub good : T (G.good list)
  pub bytes_are : bytes ≡ G.write list
