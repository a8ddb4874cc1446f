use Rattle.std.proofs.Common.{◌-◌, ◌≤◌, ◌≡◌}
use Rattle.strings.specs.Counts.{names_at}
use Rattle.strings.specs.Counts.{names_on}
use Rattle.strings.proofs.count_names.Given as goal

abbrev pub invariant-loop-at : goal.invariant-loop-at
invariant-loop-at l = (l.at ≤ l.end) × (l.k ≤ l.at) × (names_at l.s l.from l.end ≡ names_on l.s l.k l.at l.end)

abbrev pub decreases-loop-at : goal.decreases-loop-at
decreases-loop-at l = l.end - l.at
