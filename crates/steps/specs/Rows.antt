-- The rows that a walk shows from a cursor on.
use Rattle.std.specs.Prelude.{ℕ, ◌-◌, List, [], ◌∷◌, length, Option, Some, None}
use Prim.Native.Nat.{zero, suc}
use Rattle.std.specs.Borrow.{Bor}
use Rattle.rules.specs.declared.Row.{Row}
use Rattle.steps.specs.Steps.{start, step}
use Rattle.steps.specs.declared.Cursor.{Cursor}
use Rattle.steps.specs.declared.Source.{Source}
use Rattle.steps.specs.declared.Step.{Step}
use Rattle.steps.specs.declared.Rows.{Rows}

-- the row of a step, and those that the rest shows
abbrev pub row_then : (Cursor → List Row) → Option Step → List Row
row_then rest None = []
row_then rest (Some t) = t.row ∷ rest t.next

-- the rows of the first k steps
unfoldable pub rows_by : (Cursor → Option Step) → ℕ → Cursor → List Row
rows_by step zero c = []
rows_by step (suc k) c = row_then (rows_by step k) (step c)

-- all rows: each step takes a byte at least
unfoldable pub rows_from : Source → List ℕ → Cursor → List Row
rows_from source s c = rows_by (step source s) (length s - c.at) c

abbrev pub rows_of : Source → List ℕ → List Row
rows_of source s = rows_from source s (start source s)

-- the rows of a walk that is under way
abbrev pub rows_left : Rows → List Row
rows_left r = rows_from r.source r.bytes.now r.cursor

-- the walk over a string, from its first name on
abbrev pub walk_of : Source → Bor (List ℕ) → Rows
walk_of source bytes = record { source = source; bytes = bytes; cursor = start source bytes.now }
