use Rattle.std.proofs.Common.{rules, tests}
use Rattle.std.proofs.lemmas.Iterator.{YieldsList-from_slice}
use Rattle.std.proofs.lemmas.Iterator.Search.{position_from_yields_List}
use Rattle.rules.specs.Names.{is}
use Rattle.octets.proofs.Cut.{found_is}
use Rattle.octets.proofs.find.Goals as goal

pub returns : goal.returns
returns c =
    found_is (is c.args.b) c.args.s.now c.position.result c.unwrap_or.result
    (position_from_yields_List (is c.args.b) _ _ c.position.result c.position.ensures.ran (YieldsList-from_slice c.args.s.now cc)
    (λ x b q k. search (rules, tests)))
    (search rules)
