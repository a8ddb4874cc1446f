use Rattle.std.proofs.Common.{◌-◌, ◌≤◌, ◌≡◌}
use Rattle.strings.specs.Counts.{sides_at}
use Rattle.strings.specs.Counts.{sides_on}
use Rattle.strings.proofs.count_sides.Given as goal

abbrev pub invariant-loop-at : goal.invariant-loop-at
invariant-loop-at l = (l.at ≤ l.end) × (l.k ≤ l.at) × (160 ≤ l.low) × (sides_at l.s l.from l.end ≡ sides_on l.s l.low l.k l.at l.end)

abbrev pub decreases-loop-at : goal.decreases-loop-at
decreases-loop-at l = l.end - l.at
