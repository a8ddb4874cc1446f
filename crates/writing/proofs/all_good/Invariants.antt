use Rattle.std.proofs.Common.{◌≡◌, ◌≤◌, length}
use Rattle.rules.specs.Bytes.{all}
use Rattle.rules.specs.Writing.{asked}
use Rattle.writing.specs.Listed.{listed}
use Rattle.writing.proofs.all_good.Given as goal

abbrev pub invariant-loop-name : goal.invariant-loop-name
invariant-loop-name g l =
    let w = g.W.Writer in
    (l.rest.per ≡ w.PER) × (all w.described.good (asked w.described (listed l.rest)) ≡ all w.described.good (asked w.described (listed l.initial.rest)))
    × (length l.rest.texts.now ≤ length l.initial.rest.texts.now)

abbrev pub decreases-loop-name : goal.decreases-loop-name
decreases-loop-name g l = length l.rest.kinds.now
