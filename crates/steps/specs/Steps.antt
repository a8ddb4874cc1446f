-- One step of a walk: the row of the name at a cursor, and the next cursor. For every cursor.
use Rattle.std.specs.Prelude.{ℕ, ◌+◌, ◌-◌, ◌%◌, List, cond, ltb, eqb, length, Result, Ok, Err, Option, Some, None}
use Rattle.der.specs.Places.{element_at, tagged_at}
use Rattle.der.specs.declared.Element.{Element}
use Rattle.entries.specs.Entries.{name_at, attribute_at, subtree_at}
use Rattle.entries.specs.declared.Name.{Name}
use Rattle.entries.specs.declared.Unreadable.{Unreadable}
use Rattle.steps.specs.declared.Cursor.{Cursor}
use Rattle.steps.specs.declared.Step.{Step}
use Rattle.steps.specs.declared.Source.{Source}
use Rattle.steps.specs.declared.Source.TheVariants.{San, Subject, Constraints}

-- which string a number means
abbrev pub source_of : ℕ → Source
source_of which = cond (eqb which 0) San (cond (eqb which 1) Subject Constraints)

unfoldable pub next_group : ℕ → ℕ → ℕ
next_group group at = cond (ltb group at) (group + 1) group

abbrev pub cursor : ℕ → ℕ → ℕ → Cursor
cursor at end group = record { at = at; end = end; group = group }

-- the step that shows a name from `at` to `next`
abbrev pub shown : ℕ → ℕ → ℕ → ℕ → Cursor → Step
shown kind start next group c = record { row = record { kind = kind; start = start; length = next - start; group = group }; next = c }

-- ---- what is read, or what holds where nothing is

abbrev pub or_else : {A E X : Type 0} → X → Result A E → (A → X) → X
or_else z (Ok a) f = f a
or_else z (Err why) f = z

-- ---- the parts that names stand in: the whole SAN, the sets of a subject, the sides of constraints

unfoldable pub set_opened : List ℕ → ℕ → ℕ → Cursor
set_opened s at group = or_else (cursor at at group) (tagged_at s at (length s) 0x31) (λ e. cursor e.start e.next group)

unfoldable pub side_opened : List ℕ → ℕ → Cursor
side_opened s at = or_else (cursor at at 0) (element_at s at (length s)) (λ e. cursor e.start e.next (e.tag % 2))

-- the first name of a whole string whose outermost element is read
abbrev pub first_in : Source → List ℕ → Element → Cursor
first_in San s e = cursor e.start e.next 0
first_in Subject s e = set_opened s e.start 0
first_in Constraints s e = side_opened s e.start

unfoldable pub start : Source → List ℕ → Cursor
start source s = or_else (cursor 0 0 0) (tagged_at s 0 (length s) 0x30) (first_in source s)

-- ---- a name, and what follows it

-- an element as an entry, an attribute, a subtree
abbrev pub shape_at : Source → List ℕ → Element → Result Name Unreadable
shape_at San s e = name_at s e.tag e.start e.next
shape_at Subject s e = attribute_at s e.tag e.start e.next
shape_at Constraints s e = subtree_at s e.tag e.start e.next

-- where the row starts of a name whose element starts at `at`, and that element's content at b: the row of a subtree is the
-- GeneralName's, which starts where the subtree's content does
abbrev pub row_start : Source → ℕ → ℕ → ℕ
row_start San at b = at
row_start Subject at b = at
row_start Constraints at b = b

unfoldable pub attribute_next : List ℕ → ℕ → ℕ → ℕ → Cursor
attribute_next s n end group = cond (eqb n end) (set_opened s n (next_group group n)) (cursor n end group)

unfoldable pub subtree_next : List ℕ → ℕ → ℕ → ℕ → Cursor
subtree_next s n end group = cond (eqb n end) (side_opened s n) (cursor n end group)

-- what follows a name that ends at n, in a part that ends at `end`
abbrev pub after_name : Source → List ℕ → ℕ → ℕ → ℕ → Cursor
after_name San s n end group = cursor n end (next_group group n)
after_name Subject s n end group = attribute_next s n end group
after_name Constraints s n end group = subtree_next s n end group

-- the name from `at` on, in a part that ends at `end`, if one stands there
unfoldable pub entry : Source → List ℕ → ℕ → ℕ → ℕ → Option Step
entry source s at end group =
    or_else None (element_at s at end) (λ e.
    or_else None (shape_at source s e) (λ m.
    Some (shown m.kind (row_start source at e.start) e.next group (after_name source s e.next end group))))

-- none where the cursor does not lie in the slice
unfoldable pub step : Source → List ℕ → Cursor → Option Step
step source s c = cond (ltb (length s) c.end) None (cond (ltb c.end c.at) None (entry source s c.at c.end c.group))
