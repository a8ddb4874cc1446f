use Rattle.std.proofs.Common.{sym, ◌∙◌, ap, arith, ◌≡◌, ◌+◌, length, length-append}
use Rattle.rules.specs.Bytes.{all}
use Rattle.writing.specs.Listed.{listed}
use Rattle.writing.proofs.Walking.{asked_none, per_next, judged_bad, judged_good}
use Rattle.writing.proofs.all_good.Goals as goal

pub returns-then-not-good : goal.returns-then-not-good
returns-then-not-good g c =
    let v = c.loop-name.invariant in
    judged_bad g.met.W.Writer.parts c.loop-name.rest c.in-Some.name c.in-Some.others v.0 c.in-Some.ensures _ c.good.ensures c.if-not-good.true ∙ v.1

pub loop-name-preserved : goal.loop-name-preserved
loop-name-preserved g c =
    let v = c.loop-name.invariant in
    let texts = c.loop-name.rest.texts.now in
    let first = c.in-Some.name.texts.now in
    let others = c.in-Some.others.texts.now in
    let cut : length texts ≡ length first + length others = ap length c.in-Some.ensures.2 ∙ length-append first others in (
      per_next g.met.W.Writer.parts c.loop-name.rest c.in-Some.name c.in-Some.others v.0 c.in-Some.ensures,
      judged_good g.met.W.Writer.parts c.loop-name.rest c.in-Some.name c.in-Some.others v.0 c.in-Some.ensures _ c.good.ensures c.if-not-good.false ∙ v.1,
      omega (arith, cut, v.2),
    )

pub returns : goal.returns
returns g c =
    let w = g.W.Writer in
    sym (ap (all w.described.good) (asked_none g.met.W.Writer.parts (listed c.loop-name.rest) c.in_default.ensures)) ∙ c.loop-name.invariant.1
