use Rattle.std.proofs.Common.{rules}
use Rattle.strings.proofs.Laws.{side_laws}
use Rattle.strings.proofs.count_side.Goals as goal

pub returns-in_err-e : goal.returns-in_err-e
returns-in_err-e c = let e = c.in_err-e.was in search (rules, side_laws)

pub returns-then-not-good_subtree : goal.returns-then-not-good_subtree
returns-then-not-good_subtree c = let e = c.in_ok-e.was in search (rules, side_laws)

pub loop-at-preserved : goal.loop-at-preserved
loop-at-preserved c = let e = c.in_ok-e.was in search (rules, side_laws)
