-- The listing: its answer and count, and the table afterwards. Document 01, "Listing".
use Rattle.std.specs.Prelude.{ℕ, cond, List, ◌++◌, length, drop, ltb}
use Rattle.rules.specs.Numbers.{accepted, input_too_long, table_too_short}
use Rattle.rules.specs.Der.{Grammar}
use Rattle.rules.specs.Seen.{Seen, too_long, unreadable, listed}
use Rattle.rules.specs.declared.Row.{Row}
use Rattle.rules.specs.declared.Listed.{Listed}

-- the rows of what is seen of a string
unfoldable pub rows_seen : {Name : Type 0} → Grammar Name → Seen Name → Seen Row
rows_seen G too_long = too_long
rows_seen G unreadable = unreadable
rows_seen G (listed l) = listed (G.rows l)

-- "The answer is 0 and the count; or 7, then 3, 4 or 5 (each with count 0), then 8 with the count needed, given exactly when
-- that exceeds the rows lent." The first argument is the string's own number, 3, 4 or 5; the last is the number of rows lent.
unfoldable pub listed_of : ℕ → Seen Row → ℕ → Listed
listed_of refusal too_long lent = record { answer = input_too_long; count = 0 }
listed_of refusal unreadable lent = record { answer = refusal; count = 0 }
listed_of refusal (listed rows) lent =
    cond (ltb lent (length rows)) (record { answer = table_too_short; count = length rows }) (record { answer = accepted; count = length rows })

-- "Rows past the count, and all rows after a refusal, stay."
unfoldable pub table_after : Seen Row → List Row → List Row
table_after too_long old = old
table_after unreadable old = old
table_after (listed rows) old = cond (ltb (length old) (length rows)) old (rows ++ drop (length rows) old)
