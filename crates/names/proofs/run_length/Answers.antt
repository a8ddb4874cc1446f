use Rattle.std.proofs.Common.{rules, tests}
use Rattle.std.proofs.lemmas.Iterator.{YieldsList-from_slice}
use Rattle.std.proofs.lemmas.Iterator.Search.{position_from_yields_List}
use Rattle.octets.proofs.Cut.{found_is}
use Rattle.names.specs.Label.{outside}
use Rattle.names.proofs.run_length.Goals as goal

pub returns : goal.returns
unfolding outside
returns c =
    found_is outside c.args.s.now c.position.result c.unwrap_or.result
    (position_from_yields_List outside _ _ c.position.result c.position.ensures.ran (YieldsList-from_slice c.args.s.now cc)
    (λ x b q k. search (rules, tests)))
    (search rules)
