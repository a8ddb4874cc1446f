use Rattle.std.proofs.Common.{rules}
use Rattle.presented.proofs.Laws.{walk}
use Rattle.presented.proofs.blocks_cn.Goals as goal

pub loop-at-init : goal.loop-at-init
loop-at-init c = search (rules, walk)
