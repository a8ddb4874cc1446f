use Rattle.std.proofs.Common.{rules, tests}
use Rattle.std.proofs.lemmas.Iterator.{YieldsList-from_slice}
use Rattle.std.proofs.lemmas.Iterator.Search.{all_from_yields_List}
use Rattle.rules.specs.Names.{digit}
use Rattle.words.proofs.Every.{all_from_list}
use Rattle.octets.proofs.digits.Goals as goal

pub returns : goal.returns
returns c =
    all_from_list digit c.args.s.now c.all.result
    (all_from_yields_List digit _ _ _ c.all.ensures.ran (YieldsList-from_slice c.args.s.now cc) (λ x b q k. search (rules, tests)))
