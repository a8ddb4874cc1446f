use Rattle.std.proofs.Common.{◌≡◌, ◌≤◌}
use Rattle.words.specs.Words.{every, zero?}
use Rattle.names.specs.Pairs.{marks}
use Rattle.names.proofs.good16.Given as goal

abbrev pub invariant-loop-k : goal.invariant-loop-k
invariant-loop-k l = (l.at ≤ l.k) × (l.good ≡ every zero? (marks l.s) l.at l.k)
