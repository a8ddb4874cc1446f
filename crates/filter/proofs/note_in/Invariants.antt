use Rattle.std.proofs.Common.{◌-◌, ◌≡◌, length}
use Rattle.reading.specs.Strings.{read_name}
use Rattle.der.specs.Runs.{Run}
use Rattle.filter.proofs.Laws.{NotedLeft}
use Rattle.filter.proofs.note_in.Given as goal

abbrev pub invariant-loop-at : goal.invariant-loop-at
invariant-loop-at l = (length l.table ≡ length l.initial.table) × Run read_name l.san l.at l.end × NotedLeft l.san l.start l.end l.table l.at

abbrev pub decreases-loop-at : goal.decreases-loop-at
decreases-loop-at l = l.end - l.at
