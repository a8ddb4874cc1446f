use Rattle.std.proofs.Common.{◌≡◌, length}
use Rattle.steps.specs.Rows.{rows_left}
use Rattle.listing.proofs.Table.{filled}
use Rattle.listing.proofs.fill.Given as goal

abbrev pub invariant-loop-i : goal.invariant-loop-i
invariant-loop-i l = l.table ≡ filled (length l.yielded) (rows_left l.fn.rows) l.initial.table
