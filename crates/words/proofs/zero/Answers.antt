use Rattle.std.proofs.Common.{arith, ◌∙◌}
use Rattle.words.specs.Words.{zero?, clear?}
use Rattle.words.proofs.Values.{clear_zero}
use Rattle.words.proofs.Laws.{every_as}
use Rattle.words.proofs.zero.Goals as goal

pub returns : goal.returns
returns c = c.clear.ensures ∙ every_as (clear? 0xFF) zero? clear_zero c.args.s.now c.args.start c.args.end c.requires.end_in_bounds (λ k. omega (arith, c.type_inv.s k))
