-- The law of a listing's rows: each ends no later than the next one starts, none is empty, and the last ends within the string.
-- Stated once; proofs/Laid.antt proves it for the three grammars and for what is seen of a string.
use Rattle.std.specs.Prelude.{ℕ, ◌+◌, ◌≤◌, ◌<◌, List, [], ◌∷◌}
use Rattle.rules.specs.declared.Row.{Row}

-- the rows lie side by side, from `at` to `end`
pub data Laid : ℕ → ℕ → List Row → Type 0 where
  over : {at end : ℕ} → at ≤ end → Laid at end []
  next : {at end : ℕ} {r : Row} {rows : List Row}
      → at ≤ r.start → 0 < r.length → Laid (r.start + r.length) end rows → Laid at end (r ∷ rows)
