use Rattle.std.proofs.Common.{length}
use Rattle.names.proofs.Laws.{DomainLeft}
use Rattle.names.proofs.domain_by_labels.Given as goal

abbrev pub invariant-loop-label : goal.invariant-loop-label
invariant-loop-label l = DomainLeft l.s l.rest

abbrev pub decreases-loop-label : goal.decreases-loop-label
decreases-loop-label l = length l.rest
