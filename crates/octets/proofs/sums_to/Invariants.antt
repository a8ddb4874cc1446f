use Rattle.octets.proofs.Adding.{AddsUp}
use Rattle.octets.proofs.sums_to.Given as goal

abbrev pub invariant-loop-n : goal.invariant-loop-n
invariant-loop-n l = AddsUp l.lengths l.total l.n-index l.left
