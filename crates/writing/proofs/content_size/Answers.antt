use Rattle.std.proofs.Common.{arith, refl, ap, length, ◌≡◌}
use Rattle.rules.specs.Der.{run}
use Rattle.rules.specs.Writing.{asked}
use Rattle.writing.specs.Listed.{listed}
use Rattle.writing.proofs.Walking.{asked_none, per_next, name_good, good_next, size_next, short_next, texts_within}
use Rattle.writing.proofs.content_size.Goals as goal

pub returns-then-LIMIT-names : goal.returns-then-LIMIT-names
returns-then-LIMIT-names g c =
    (refl, omega (arith, texts_within g.met.W.Writer.parts c.args.names c.requires.per c.requires.good))

pub size-size-requires-clause-good : goal.size-size-requires-clause-good
size-size-requires-clause-good g c =
    let v = c.loop-name.invariant in
    name_good g.met.W.Writer.parts c.loop-name.names c.in-Some.name c.in-Some.others v.0 c.in-Some.ensures v.1

pub size-size-requires-clause-short : goal.size-size-requires-clause-short
size-size-requires-clause-short g c =
    let v = c.loop-name.invariant in
    omega (arith, short_next g.met.W.Writer.parts c.loop-name.names c.in-Some.name c.in-Some.others v.0 c.in-Some.ensures)

pub returns-then-LIMIT-size : goal.returns-then-LIMIT-size
returns-then-LIMIT-size g c =
    let v = c.loop-name.invariant in
    (refl, omega (arith, v.4, size_next g.met.W.Writer.parts c.loop-name.names c.in-Some.name c.in-Some.others v.0 c.in-Some.ensures, c.size-size.ensures.value))

pub loop-name-preserved : goal.loop-name-preserved
loop-name-preserved g c =
    let v = c.loop-name.invariant in (
      per_next g.met.W.Writer.parts c.loop-name.names c.in-Some.name c.in-Some.others v.0 c.in-Some.ensures,
      good_next g.met.W.Writer.parts c.loop-name.names c.in-Some.name c.in-Some.others v.0 c.in-Some.ensures v.1,
      omega (arith, short_next g.met.W.Writer.parts c.loop-name.names c.in-Some.name c.in-Some.others v.0 c.in-Some.ensures),
      omega arith,
      omega (arith, v.4, size_next g.met.W.Writer.parts c.loop-name.names c.in-Some.name c.in-Some.others v.0 c.in-Some.ensures, c.size-size.ensures.value),
    )

pub returns : goal.returns
unfolding run
returns g c =
    let v = c.loop-name.invariant in
    let w = g.W.Writer in
    let e : length (run w.bytes (asked w.described (listed c.loop-name.names))) ≡ 0 = ap (λ l. length (run w.bytes l)) (asked_none g.met.W.Writer.parts (listed c.loop-name.names) c.in_default.ensures) in
    (omega (arith, v.4, e), v.3, omega arith)
