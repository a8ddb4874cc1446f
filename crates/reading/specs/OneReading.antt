-- One reading. Document 01: "A string is readable exactly when its own grammar writes some list as its bytes"; "A list's count
-- is the number of its names. It has one row for each". Stated once over a grammar; proofs/OneReading.antt proves it of the three strings.
use Rattle.std.specs.Prelude.{ℕ, ◌≡◌, ◌↔◌, List, [], length}
use Rattle.std.proofs.Math.Option.{Option, some}
use Rattle.rules.specs.Der.{Grammar, Writes}

-- a reader reads exactly what a grammar writes, and the bytes have one reading
pub record ReadsExactly {Name : Type 0} (G : Grammar Name) (read : List ℕ → Option (List Name)) : Type 0 where
  -- bytes are read as a list exactly where the grammar writes that list as those bytes
  pub exactly : (b : List ℕ) (l : List Name) → (read b ≡ some l) ↔ Writes G l b
  -- two lists written as the same bytes are the same list
  pub only : (l l' : List Name) (b : List ℕ) → Writes G l b → Writes G l' b → l ≡ l'
  -- a list has no second writing
  pub once : (l : List Name) (b b' : List ℕ) → Writes G l b → Writes G l b' → b ≡ b'
  -- no list is written as no bytes: an absent string is told from every other
  pub present : (l : List Name) → Writes G l [] → ⊥
  -- a list has one row for each name
  pub count : (l : List Name) → length (G.rows l) ≡ length l
