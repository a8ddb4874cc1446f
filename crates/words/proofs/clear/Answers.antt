use Rattle.std.proofs.Common.{rules}
use Rattle.words.proofs.Laws.{laws}
use Rattle.words.proofs.clear.Goals as goal

pub returns-then-n-lt8 : goal.returns-then-n-lt8
returns-then-n-lt8 g c = search (rules, laws)

pub returns-then-n-lt16 : goal.returns-then-n-lt16
returns-then-n-lt16 g c = search (rules, laws)

pub returns-then-n-lt32 : goal.returns-then-n-lt32
returns-then-n-lt32 g c = search (rules, laws)

pub loop-k-init : goal.loop-k-init
loop-k-init g c = search (rules, laws)

pub returns-then-not-clear4 : goal.returns-then-not-clear4
returns-then-not-clear4 g c = search (rules, laws)

pub loop-k-preserved : goal.loop-k-preserved
loop-k-preserved g c = search (rules, laws)

pub returns : goal.returns
returns g c = search (rules, laws)
