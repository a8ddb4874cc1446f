use Rattle.std.proofs.Common.{◌≡◌, ◌+◌, ◌≤◌, length, true}
use Rattle.rules.specs.Bytes.{all}
use Rattle.rules.specs.Der.{run}
use Rattle.rules.specs.Writing.{asked}
use Rattle.writing.specs.Listed.{listed}
use Rattle.writing.proofs.content_size.Given as goal

abbrev pub invariant-loop-name : goal.invariant-loop-name
invariant-loop-name g l =
    let w = g.W.Writer in
    (l.names.per ≡ w.PER) × (all w.described.good (asked w.described (listed l.names)) ≡ true) × (length l.names.texts.now ≤ w.LIMIT) × (l.size ≤ w.LIMIT)
    × (l.size + length (run w.bytes (asked w.described (listed l.names))) ≡ length (run w.bytes (asked w.described (listed l.initial.names))))

abbrev pub decreases-loop-name : goal.decreases-loop-name
decreases-loop-name g l = length l.names.kinds.now
