use Rattle.std.proofs.Common.{rules, ◌∙◌}
use Rattle.dns.proofs.Laws.{past_short, past_no_dot, past_other, past_is}
use Rattle.dns.proofs.past_first.Goals.{then-text-at-eq46, else-text-at-eq46}
use Rattle.dns.proofs.past_first.Goals as goal

pub returns-then-text-t : goal.returns-then-text-t
returns-then-text-t c = past_short _ _ c.if-text-t.true

pub returns-then-same_text : goal.returns-then-same_text
returns-then-same_text c =
    elim c.if-text-at-eq46.branch [
      | then-text-at-eq46 w ↦ past_is c.args.text.now c.args.t.now c.if-text-t.false w.same_text.result w.same_text.ensures (search rules) c.find.result (search rules)
      | else-text-at-eq46 w ↦ absurd (search rules)
    ]

pub returns-else-same_text : goal.returns-else-same_text
returns-else-same_text c =
    c.if-same_text.false ∙ elim c.if-text-at-eq46.branch [
      | then-text-at-eq46 w ↦ past_other c.args.text.now c.args.t.now c.if-text-t.false w.same_text.result w.same_text.ensures (search rules)
      | else-text-at-eq46 w ↦ past_no_dot c.args.text.now c.args.t.now c.if-text-t.false w.if-text-at-eq46.false
    ]
