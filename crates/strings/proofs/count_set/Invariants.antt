use Rattle.std.proofs.Common.{◌-◌, ◌≤◌, ◌≡◌}
use Rattle.strings.specs.Counts.{set_at}
use Rattle.strings.specs.Counts.{set_on}
use Rattle.strings.proofs.count_set.Given as goal

abbrev pub invariant-loop-at : goal.invariant-loop-at
invariant-loop-at l = (l.at ≤ l.end) × (l.k ≤ l.at) × (l.last ≤ l.at) × (set_at l.s l.from l.end ≡ set_on l.s l.last l.k l.at l.end)

abbrev pub decreases-loop-at : goal.decreases-loop-at
decreases-loop-at l = l.end - l.at
