use Rattle.std.proofs.Common.{◌≡◌, ◌+◌, ◌≤◌, length}
use Rattle.words.specs.Words.{zero?}
use Rattle.words.proofs.Every.{Left}
use Rattle.names.specs.Pairs.{marks}
use Rattle.names.proofs.domain_by_pairs.Given as goal

abbrev pub invariant-loop-at : goal.invariant-loop-at
invariant-loop-at l = (l.last + 17 ≡ length l.s) × (l.at ≤ l.last) × Left zero? (marks l.s) 0 (l.last + 16) 0 l.at
