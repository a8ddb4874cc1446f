use Rattle.std.proofs.Common.{arith, ◌∙◌}
use Rattle.writing.specs.Listed.{listed}
use Rattle.writing.proofs.Walking.{per_next, name_good, good_next, short_next, fits_name, put_next, none_left}
use Rattle.writing.proofs.put_names.Goals as goal

pub put-requires-clause-good : goal.put-requires-clause-good
put-requires-clause-good g c =
    let v = c.loop-name.invariant in
    name_good g.met.W.Writer.parts c.loop-name.names c.in-Some.name c.in-Some.others v.0 c.in-Some.ensures v.1

pub put-requires-clause-fits : goal.put-requires-clause-fits
put-requires-clause-fits g c =
    let v = c.loop-name.invariant in
    fits_name g.met.W.Writer.parts c.loop-name.names c.in-Some.name c.in-Some.others v.0 c.in-Some.ensures _ _ _ _ _ v.4

pub loop-name-preserved : goal.loop-name-preserved
loop-name-preserved g c =
    let v = c.loop-name.invariant in (
      per_next g.met.W.Writer.parts c.loop-name.names c.in-Some.name c.in-Some.others v.0 c.in-Some.ensures,
      good_next g.met.W.Writer.parts c.loop-name.names c.in-Some.name c.in-Some.others v.0 c.in-Some.ensures v.1,
      omega (arith, short_next g.met.W.Writer.parts c.loop-name.names c.in-Some.name c.in-Some.others v.0 c.in-Some.ensures),
      c.put.ensures.same_buffer ∙ v.3,
      put_next g.met.W.Writer.parts c.loop-name.names c.in-Some.name c.in-Some.others v.0 c.in-Some.ensures _ _ _ _ _ v.4 _ _ c.put.ensures.put,
    )

pub returns-clause-put : goal.returns-clause-put
returns-clause-put g c = none_left g.met.W.Writer.parts (listed c.loop-name.names) c.in_default.ensures _ _ _ _ _ c.loop-name.invariant.4
