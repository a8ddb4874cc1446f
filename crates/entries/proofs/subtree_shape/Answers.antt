use Rattle.std.proofs.Common.{rules}
use Rattle.entries.proofs.Laws.{subtrees}
use Rattle.entries.proofs.subtree_shape.Goals as goal

pub returns-then-tag-ne48 : goal.returns-then-tag-ne48
returns-then-tag-ne48 c = search (rules, subtrees)

pub returns-in_err-name : goal.returns-in_err-name
returns-in_err-name c = let name = c.in_err-name.was in search (rules, subtrees)

pub returns-then-name-end : goal.returns-then-name-end
returns-then-name-end c = let name = c.in_ok-name.was in search (rules, subtrees)

pub name_shape-requires-clause-start_le_end : goal.name_shape-requires-clause-start_le_end
name_shape-requires-clause-start_le_end c = let name = c.in_ok-name.was in search (rules, subtrees)

pub returns : goal.returns
returns c = let name = c.in_ok-name.was in search (rules, subtrees)
