-- Validated names, and what a walk over them has left.
use Rattle.std.specs.Prelude.{ℕ, ◌≡◌, List, []}
use Rattle.std.specs.Prelude as std
use Rattle.std.specs.Iterator.{YieldsFirstBy}
use Rattle.std.proofs.Math.Option.{get_or}
use Rattle.rules.specs.San.{GeneralName, plain}
use Rattle.reading.specs.Strings.{read_name, read_subtree}
use Rattle.der.specs.Runs.{items_in}
use Rattle.entries.specs.Entries.{whole_at}
use Rattle.constrained.specs.declared.ValidName.{ValidName}
use Rattle.constrained.specs.declared.Entries.{Entries}
use Rattle.constrained.specs.declared.Subtrees.{Subtrees}

-- the name itself
unfoldable pub name_in : ValidName → GeneralName
name_in n = get_or (whole_at n.bytes.now n.start n.end) (plain 0 [])

-- the entries that are left, and the names of the subtrees
unfoldable pub entries_left : Entries → List GeneralName
entries_left s = items_in read_name s.bytes.now s.at s.end

unfoldable pub subtrees_left : Subtrees → List GeneralName
subtrees_left s = items_in read_subtree s.bytes.now s.at s.end

-- a step gives the first of them, and stays in its part
abbrev pub SubtreeGives : Subtrees → std.Option ValidName → Subtrees → Type 0
SubtreeGives s r t = YieldsFirstBy name_in subtrees_left s r t × (t.bytes.now ≡ s.bytes.now) × (t.end ≡ s.end)
