-- What is asked for, by the code's types.
use Rattle.std.specs.Prelude.{ℕ, List}
use Rattle.rules.specs.Bytes.{cut}
use Rattle.rules.specs.Writing.{Request, request}
use Rattle.writing.specs.declared.list.Name.{Name}
use Rattle.writing.specs.declared.list.Names.{Names}

-- a name, as a writer makes it of its kind and texts
abbrev pub made : {A : Type 0} → (ℕ → List (List ℕ) → A) → Name → A
made make name = make name.kind (cut name.lengths.now name.texts.now)

-- what is asked for
abbrev pub listed : Names → Request
listed names = request names.kinds.now names.lengths.now names.texts.now
