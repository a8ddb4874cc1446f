use Rattle.std.proofs.Common.{◌≡◌, ◌+◌, ◌*◌, length}
use Rattle.issuers.proofs.Laws.{PairsLeft}
use Rattle.issuers.proofs.read_lengths.Given as goal

abbrev pub invariant-loop-i : goal.invariant-loop-i
invariant-loop-i l =
    let pairs = l.i-iterator.iter in
    let i = l.i-iterator.count in
    (pairs.size ≡ 2) × (length pairs.rest.now + 2 * i ≡ length l.b) × (length l.values ≡ 9) × PairsLeft l.b l.values pairs.rest.now i
