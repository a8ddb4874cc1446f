-- The subtrees of one form in a part of the constraints.
use Rattle.std.specs.Prelude.{ℕ, ◌≡◌, Bool, ◌||◌, List, [], ◌∷◌, T, ltb, Ok, Err}
use Rattle.rules.specs.Bytes.{some?, all, chain}
use Rattle.rules.specs.Der.{Group}
use Rattle.rules.specs.San.{GeneralName}
use Rattle.rules.specs.Constraints.{permitted, excluded}
use Rattle.rules.specs.Matching.{with_some, if_some, Form, subtrees_of}
use Rattle.reading.specs.Strings.{flat, read_subtree, read_side, rising, read_constraints}
use Rattle.der.specs.Places.{Answer, element_at}
use Rattle.der.specs.Runs.{Run, items_in, names_of}
use Rattle.constrained.specs.declared.Part.{Part}
use Rattle.constrained.specs.declared.Sides.{Sides}

-- an identifier lies in a subtree, or breaks it where it is excluded; false where the subtree is of another form
unfoldable pub lies_in : Form → List ℕ → GeneralName → Bool
lies_in form name subtree = if_some (form.text subtree) (λ text. form.inside text name)

unfoldable pub reaches : Form → List ℕ → GeneralName → Bool
reaches form name subtree = if_some (form.text subtree) (λ text. form.reaches text name)

-- the texts of the names of the form among some names
unfoldable pub texts_of : Form → List GeneralName → List (List ℕ)
texts_of form [] = []
texts_of form (n ∷ l) = with_some (form.text n) (texts_of form l)

-- the texts of the subtrees of the form from `start` to `end`
unfoldable pub texts_in : Form → List ℕ → ℕ → ℕ → List (List ℕ)
texts_in form s start end = texts_of form (items_in read_subtree s start end)

-- ---- parts and sides

-- a part that ends where another does, begins at its first subtree of the form, and is empty where there is none
pub record Narrowed (form : Form) (s : List ℕ) (start end at : ℕ) : Type 0 where
  pub subtrees : Run read_subtree s at end
  pub texts : texts_in form s at end ≡ texts_in form s start end
  pub any_there : some? (texts_in form s start end) ≡ ltb at end

-- a side's number is 0 or 1
abbrev pub small : Group GeneralName → Bool
small g = ltb g.number 2

-- from `start` to `end` stand the sides of the constraints
pub record SideRun (s : List ℕ) (start end : ℕ) : Type 0 where
  pub sides : Run read_side s start end
  pub low : T (all small (items_in read_side s start end))
  pub filled : T (some? (items_in read_side s start end))
  pub rise : T (chain rising (items_in read_side s start end))
  pub list : flat (items_in read_side s start end) ≡ names_of read_constraints s

-- an element's content; nothing, where no element is
abbrev pub nowhere : Part
nowhere = record { start = 0; end = 0 }

abbrev pub part_of : Answer → Part
part_of (Ok e) = record { start = e.start; end = e.next }
part_of (Err why) = nowhere

unfoldable pub content_at : List ℕ → ℕ → ℕ → Part
content_at s at end = part_of (element_at s at end)

-- the part holds the subtrees of a side, of any form
pub record Side (s : List ℕ) (number start end : ℕ) : Type 0 where
  pub subtrees : Run read_subtree s start end
  pub texts : (form : Form) → texts_in form s start end ≡ subtrees_of form number (names_of read_constraints s)

-- both sides
pub record BothSides (s : List ℕ) (r : Sides) : Type 0 where
  pub inside : Side s permitted r.permitted.start r.permitted.end
  pub outside : Side s excluded r.excluded.start r.excluded.end

-- the part holds the subtrees of a side that are of the form, and is empty where there is none
pub record FormSide (form : Form) (s : List ℕ) (number start end : ℕ) : Type 0 where
  pub subtrees : Run read_subtree s start end
  pub texts : texts_in form s start end ≡ subtrees_of form number (names_of read_constraints s)
  pub any_there : some? (subtrees_of form number (names_of read_constraints s)) ≡ ltb start end

pub record FormSides (form : Form) (s : List ℕ) (r : Sides) : Type 0 where
  pub inside : FormSide form s permitted r.permitted.start r.permitted.end
  pub outside : FormSide form s excluded r.excluded.start r.excluded.end

-- "if the constraints hold any SRVName subtree", or any dNSName subtree
unfoldable pub restricting : Sides → Bool
restricting r = ltb r.permitted.start r.permitted.end || ltb r.excluded.start r.excluded.end
