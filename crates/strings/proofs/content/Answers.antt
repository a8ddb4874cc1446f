use Rattle.std.proofs.Common.{rules}
use Rattle.strings.proofs.Laws.{outer_laws}
use Rattle.strings.proofs.content.Goals as goal

pub returns-in_err-whole : goal.returns-in_err-whole
returns-in_err-whole c = let e = c.in_err-whole.was in search (rules, outer_laws)

pub returns-then-whole-s : goal.returns-then-whole-s
returns-then-whole-s c = let e = c.in_ok-whole.was in search (rules, outer_laws)
