-- The viewer: how a string opens, and what each step shows from a position. Request 3/13.
use Rattle.std.specs.Prelude.{ℕ, ◌+◌, List, leb, Some, None}
use Rattle.std.specs.Prelude as std
use Rattle.std.proofs.Math.Option.{Option, none, some}
use Rattle.rules.specs.Bytes.{find}
use Rattle.rules.specs.Numbers.{accepted, input_too_long}
use Rattle.rules.specs.Seen.{Seen, too_long, unreadable, listed}
use Rattle.rules.specs.declared.Row.{Row}
use Rattle.rules.specs.declared.View.{View}
use Rattle.rules.specs.declared.ViewNumbers.{ViewNumbers}

-- ---- one step

-- "the first row of 01's listing that starts at or past the position, whatever position it's handed"
unfoldable pub row_from : ℕ → List Row → Option Row
row_from at = find (λ r. leb at r.start)

-- "After a row the position stands just past its element." "if there is none, .. it says that it's at the end"; "a step at the
-- end doesn't move it"
unfoldable pub row_or_end : Option Row → ℕ → View
row_or_end (some r) at = record { row = Some r; at = r.start + r.length }
row_or_end none at = record { row = None; at = at }

-- "if there is none, or the listing refuses the bytes, it says that it's at the end"
unfoldable pub view_of : Seen Row → ℕ → View
view_of too_long at = row_or_end none at
view_of unreadable at = row_or_end none at
view_of (listed rows) at = row_or_end (row_from at rows) at

-- ---- an opening

-- "Opening unreadable bytes is refused with 3, 4 or 5, over-long ones with 7, in 01's order." The first argument is the string's
-- own number, 3, 4 or 5.
unfoldable pub opening_of : ℕ → Seen Row → ℕ
opening_of refusal too_long = input_too_long
opening_of refusal unreadable = refusal
opening_of refusal (listed rows) = accepted

-- "It opens at position 0, refused or not"
abbrev pub opening_at : ℕ
opening_at = 0

-- ---- a step's six numbers

-- 1 and the row's four, or 0 and four zeros; then the position
unfoldable pub numbers_at : std.Option Row → ℕ → ViewNumbers
numbers_at (Some r) at = record { shown = 1; kind = r.kind; start = r.start; length = r.length; group = r.group; at = at }
numbers_at None at = record { shown = 0; kind = 0; start = 0; length = 0; group = 0; at = at }

unfoldable pub view_numbers : View → ViewNumbers
view_numbers v = numbers_at v.row v.at
