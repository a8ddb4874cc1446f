use Rattle.std.proofs.Common.{arith, ap, ◌∙◌, ◌≡◌, ◌/◌, length, length-append, length-set}
use Rattle.issuers.proofs.Laws.{pairs_next, pairs_end, c_read}
use Rattle.issuers.proofs.read_lengths.Goals as goal

pub loop-i-preserved : goal.loop-i-preserved
loop-i-preserved c =
    let v = c.loop-i.invariant in
    let s = c.in-Some.ensures.steps in
    let long = ap length s.0.1.0 ∙ length-append c.in-Some.pair.now c.next.new.self.iter.rest.now in
    let pair : length c.in-Some.pair.now ≡ 2 = s.0.1.1 ∙ v.0 in (
      s.0.0 ∙ v.0,
      omega (arith, long, pair, s.2),
      simp length-set v.2,
      rw (c.from.ensures, c.from-in-loop-i.ensures, s.1, s.2) (pairs_next _ _ _ _ _ _ v.3 s.0.1.0 pair (omega (arith, long, pair))),
    )

pub returns : goal.returns
returns c =
    let v = c.loop-i.invariant in
    let s = c.in-None.ensures.steps in
    let i : c.loop-i.i-iterator.count ≡ length c.args.b.now / 2 = omega (arith, s.0.1.0, v.0, v.1) in
    c_read _ (omega arith) _ _ (rw (← i) (pairs_end _ _ _ _ v.3 (omega (arith, s.0.1.0, v.0))))
