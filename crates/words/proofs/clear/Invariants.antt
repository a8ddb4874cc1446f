use Rattle.std.proofs.Common.{◌+◌, ◌*◌}
use Rattle.words.specs.Words.{clear?}
use Rattle.words.proofs.Every.{Left}
use Rattle.words.proofs.clear.Given as goal

abbrev pub invariant-loop-k : goal.invariant-loop-k
invariant-loop-k g l = Left (clear? g.row.BITS) l.s l.start l.end l.start (l.start + 32 * l.k)
