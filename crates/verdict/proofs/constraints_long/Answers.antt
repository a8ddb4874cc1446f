use Rattle.std.proofs.Common.{rules, tests, sym, ◌∙◌}
use Rattle.std.proofs.lemmas.Iterator.{YieldsList-from_slice}
use Rattle.std.proofs.lemmas.Iterator.Search.{any_from_yields_List}
use Rattle.std.specs.Prelude.{nat_lt}
use Rattle.rules.specs.Numbers.{constraints_limit}
use Rattle.verdict.proofs.Laws.{lengths_each}
use Rattle.verdict.proofs.constraints_long.Goals as goal

pub returns-else-not-lengths_fit : goal.returns-else-not-lengths_fit
returns-else-not-lengths_fit c =
    lengths_each c.args.lengths.now c.args.size (sym c.lengths_fit.ensures ∙ c.if-not-lengths_fit.false) c.any.result
    (any_from_yields_List (nat_lt constraints_limit) _ _ _ c.any.ensures.ran (YieldsList-from_slice c.args.lengths.now cc) (λ x b q k. search (rules, tests)))
