use Rattle.std.proofs.Common.{rules, arith, ◌∙◌}
use Rattle.std.proofs.lemmas.Grind.{common_steps}
use Rattle.std.proofs.lemmas.Iterator.Search.{all_from_yields_List}
use Rattle.rules.specs.Records.{good_record}
use Rattle.records.proofs.Chunks.{split_given}
use Rattle.records.proofs.Laws.{none, uneven, whole}
use Rattle.records.proofs.good_records.Goals.{then-not-is_empty, else-not-is_empty}
use Rattle.records.proofs.good_records.Goals as goal

pub returns-then-references-eq0 : goal.returns-then-references-eq0
returns-then-references-eq0 c =
    elim c.if-not-is_empty.branch [
      | then-not-is_empty w ↦
          whole c.args.references.now (search rules) (search rules) c.all.result
          (all_from_yields_List good_record _ _ _ c.all.ensures.ran (split_given c.args.references.now c.chunks_exact.ensures.rest c.chunks_exact.ensures.size) (λ x b q k. search rules))
      | else-not-is_empty w ↦ grind (arith, common_steps)
    ]

pub returns-else-references-eq0 : goal.returns-else-references-eq0
returns-else-references-eq0 c =
    elim c.if-not-is_empty.branch [
      | then-not-is_empty w ↦ c.if-references-eq0.false ∙ uneven c.args.references.now (search rules) (search rules)
      | else-not-is_empty w ↦ c.if-references-eq0.false ∙ none c.args.references.now (search rules)
    ]
