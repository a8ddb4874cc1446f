use Rattle.std.proofs.Common.{length, ◌-◌}
use Rattle.rules.specs.Records.{reference}
use Rattle.pairs.proofs.Search.{Sets}
use Rattle.pairs.proofs.first_cn.Given as goal

abbrev pub invariant-loop-at : goal.invariant-loop-at
invariant-loop-at l = Sets l.san l.subject l.i (reference 4 l.r.service.now l.r.domain.text.now) l.at l.j

abbrev pub decreases-loop-at : goal.decreases-loop-at
decreases-loop-at l = length l.subject - l.at
