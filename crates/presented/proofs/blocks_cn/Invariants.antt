use Rattle.std.proofs.Common.{◌-◌}
use Rattle.der.specs.Runs.{Run}
use Rattle.reading.specs.Strings.{read_name}
use Rattle.presented.proofs.Entries.{BlocksLeft}
use Rattle.presented.proofs.blocks_cn.Given as goal

abbrev pub invariant-loop-at : goal.invariant-loop-at
invariant-loop-at l = Run read_name l.san l.at l.end × BlocksLeft l.san l.at l.end

abbrev pub decreases-loop-at : goal.decreases-loop-at
decreases-loop-at l = l.end - l.at
