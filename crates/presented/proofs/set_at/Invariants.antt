use Rattle.std.proofs.Common.{◌-◌}
use Rattle.reading.specs.Strings.{read_attribute}
use Rattle.der.specs.Runs.{Run}
use Rattle.presented.proofs.Sets.{SoleLeft}
use Rattle.presented.proofs.set_at.Given as goal

abbrev pub invariant-loop-p : goal.invariant-loop-p
invariant-loop-p l = Run read_attribute l.subject l.p l.set.next × SoleLeft l.subject l.at l.set.next l.cns l.p

abbrev pub decreases-loop-p : goal.decreases-loop-p
decreases-loop-p l = l.set.next - l.p
