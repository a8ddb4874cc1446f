use Rattle.std.proofs.Common.{rules}
use Rattle.strings.proofs.Laws.{sides_laws}
use Rattle.strings.proofs.Counting.{next_within}
use Rattle.strings.proofs.Sides.{sides_low, sides_high, sides_none, sides_count, sides_next}
use Rattle.strings.proofs.count_sides.Goals.{then-side-low-via-then-side-low, then-side-low-via-else-side-low+then-side-gt161, then-side-low-via-else-side-low+else-side-gt161+then-side}
use Rattle.strings.proofs.count_sides.Goals as goal

pub returns-in_err-side : goal.returns-in_err-side
returns-in_err-side c = let e = c.in_err-side.was in search (rules, sides_laws)

pub returns-then-side-low : goal.returns-then-side-low
returns-then-side-low c =
    let e = c.in_ok-side.was in
    elim c.then-side-low.branch [
      | then-side-low-via-then-side-low w ↦ search (rules, sides_low)
      | then-side-low-via-else-side-low+then-side-gt161 w ↦ search (rules, sides_high)
      | then-side-low-via-else-side-low+else-side-gt161+then-side w ↦ search (rules, sides_none)
    ]

pub returns-in_err-k : goal.returns-in_err-k
returns-in_err-k c = let e = c.in_ok-side.was in let k = c.in_err-k.was in search (rules, sides_laws)

pub loop-at-preserved : goal.loop-at-preserved
loop-at-preserved c = let e = c.in_ok-side.was in let k = c.in_ok-k.was in (search next_within, search sides_count, search rules, search sides_next)
