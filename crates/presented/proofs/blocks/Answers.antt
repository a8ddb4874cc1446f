use Rattle.std.proofs.Common.{sym, ◌∙◌}
use Rattle.std.proofs.Math.Bool.{true≢false}
use Rattle.presented.proofs.Entries.{blocks_srv}
use Rattle.presented.proofs.blocks.Goals.{then-is_some, else-is_some}
use Rattle.presented.proofs.blocks.Goals as goal

pub returns-else-is_some-2 : goal.returns-else-is_some-2
returns-else-is_some-2 c =
    elim c.if-is_some.branch [
      | then-is_some w ↦ absurd (true≢false (sym w.if-is_some.true ∙ sym w.value-is ∙ c.if-is_some-2.false))
      | else-is_some w ↦
          c.is_some-else-is_some-2.ensures ∙ blocks_srv c.args.san.now c.args.at c.args.end c.requires.end_value c.text_for.result c.text_for.ensures
          w.text_for-else-is_some.result w.text_for-else-is_some.ensures (sym c.is_some.ensures ∙ w.if-is_some.false)
          (sym w.is_some-else-is_some.ensures ∙ sym w.value-is ∙ c.if-is_some-2.false)
          c.text_for-else-is_some-2.result c.text_for-else-is_some-2.ensures
    ]
