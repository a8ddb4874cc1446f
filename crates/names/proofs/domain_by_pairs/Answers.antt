use Rattle.std.proofs.Common.{arith, length, ◌-◌}
use Rattle.names.proofs.Pairs.{pairs_end, pairs_near}
use Rattle.names.proofs.domain_by_pairs.Goals.{else-loop-at-test, then-loop-at-test+else-not-good16+else-last-at-gt16}
use Rattle.names.proofs.domain_by_pairs.Goals as goal

pub returns : goal.returns
returns c =
    elim c.loop-at-test.branch [
      | else-loop-at-test w ↦
          pairs_end c.args.s.now c.requires.in_bounds c.requires.s_len_bound c.requires.s_value c.is_alnum.result c.is_alnum.ensures
          c.if-not-is_alnum.false (length c.args.s.now - 17) c.loop-at.at c.loop-at.invariant.0 c.loop-at.invariant.2
          c.good16-2.result c.good16-2.ensures (omega arith) (omega arith)
      | then-loop-at-test+else-not-good16+else-last-at-gt16 w ↦
          pairs_near c.args.s.now c.requires.in_bounds c.requires.s_len_bound c.requires.s_value c.is_alnum.result c.is_alnum.ensures
          c.if-not-is_alnum.false (length c.args.s.now - 17) c.loop-at.at c.loop-at.invariant.0 c.loop-at.invariant.2 (omega arith)
          (omega arith) w.good16.result w.good16.ensures w.if-not-good16.false c.good16-2.result c.good16-2.ensures
    ]
