use Rattle.std.proofs.Common.{rules}
use Rattle.presented.proofs.Laws.{sets}
use Rattle.presented.proofs.set_at.Goals as goal

pub loop-p-preserved : goal.loop-p-preserved
loop-p-preserved c = (search (rules, sets), search (rules, sets))
