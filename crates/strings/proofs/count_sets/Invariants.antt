use Rattle.std.proofs.Common.{◌-◌, ◌≤◌, ◌≡◌}
use Rattle.strings.specs.Counts.{sets_at}
use Rattle.strings.specs.Counts.{sets_on}
use Rattle.strings.proofs.count_sets.Given as goal

abbrev pub invariant-loop-at : goal.invariant-loop-at
invariant-loop-at l = (l.at ≤ l.end) × (l.k ≤ l.at) × (sets_at l.s l.from l.end ≡ sets_on l.s l.k l.at l.end)

abbrev pub decreases-loop-at : goal.decreases-loop-at
decreases-loop-at l = l.end - l.at
