use Rattle.std.proofs.Common.{◌-◌, ◌≡◌, None}
use Rattle.rules.specs.Numbers.{kind_number}
use Rattle.pairs.proofs.Search.{Walks, Names}
use Rattle.pairs.proofs.first_between.Given as goal

abbrev pub invariant-loop-at : goal.invariant-loop-at
invariant-loop-at l = (l.found ≡ None) × Names l.references l.san l.subject l.from l.to l.i (kind_number l.r.kind) l.r.service.now l.r.domain.text.now l.end l.at l.j

abbrev pub decreases-loop-at : goal.decreases-loop-at
decreases-loop-at l = l.end - l.at

abbrev pub invariant-pairs : goal.invariant-pairs
invariant-pairs l = (l.found ≡ None) × Walks l.references l.san l.subject l.from l.to l.i
