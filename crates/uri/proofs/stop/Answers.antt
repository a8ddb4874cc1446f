use Rattle.std.proofs.Common.{rules, arith}
use Rattle.std.proofs.lemmas.Grind.{common_steps}
use Rattle.std.proofs.lemmas.Iterator.{YieldsList-from_slice}
use Rattle.std.proofs.lemmas.Iterator.Search.{position_from_yields_List}
use Rattle.octets.proofs.Cut.{before_within}
use Rattle.uri.specs.Parts.{stops}
use Rattle.uri.proofs.Authority.{place_is}
use Rattle.uri.proofs.stop.Goals as goal

pub returns : goal.returns
returns c =
    let e = position_from_yields_List (stops c.args.b) _ _ c.position.result c.position.ensures.ran (YieldsList-from_slice c.args.s.now (search rules)) (λ x r q k. search rules) in
    let p = place_is (stops c.args.b) c.args.s.now in
    let w = before_within (stops c.args.b) c.args.s.now in
    grind (arith, common_steps)
