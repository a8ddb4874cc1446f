use Rattle.std.proofs.Common.{rules}
use Rattle.strings.proofs.Laws.{outer_laws}
use Rattle.strings.proofs.constraints_count.Goals as goal

pub returns : goal.returns
returns c = let e = c.in_ok-content.was in search (rules, outer_laws)
