use Rattle.std.proofs.Common.{length, ◌≡◌}
use Rattle.output.proofs.Laws as laws
use Rattle.output.proofs.put_at.Given as goal

abbrev pub invariant-loop-k : goal.invariant-loop-k
invariant-loop-k l = (length l.buffer ≡ length l.initial.buffer) × laws.Putting l.initial.buffer l.at l.text l.buffer l.k
