use Rattle.std.proofs.Common.{rules, tests}
use Rattle.octets.proofs.Pairs.{pairs, all_is}
use Rattle.octets.proofs.each_same.Goals as goal

pub returns : goal.returns
returns c =
    all_is c.args.a.now c.args.b.now c.all.ensures.runs.0 _ c.all.new.self c.all.ensures.runs.1 _ c.all.result (search (pairs, rules))
    c.all.ensures.ran (λ x b q k. search (rules, tests))
