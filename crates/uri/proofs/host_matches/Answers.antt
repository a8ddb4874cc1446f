use Rattle.std.proofs.Common.{rules, ◌+◌, length, ◌∙◌, sym}
use borrow.Author.Tests.{eq-eqb, ne_eqb}
use Rattle.octets.proofs.Parts.{rest_is}
use Rattle.uri.proofs.Host.{host_short, host_other, host_no_colon, host_alone, host_ported}
use Rattle.uri.proofs.host_matches.Goals.{then-n-h, else-n-h}
use Rattle.uri.proofs.host_matches.Goals as goal

pub returns-then-n-h-2 : goal.returns-then-n-h-2
returns-then-n-h-2 c =
    eq-eqb _ _ c.if-n-h-2.true ∙ elim c.if-n-h.branch [
      | then-n-h w ↦ host_alone c.args.domain.now c.args.h.now c.requires w.same_text.result w.same_text.ensures (search rules) (sym c.if-n-h-2.true)
      | else-n-h w ↦ absurd (search rules)
    ]

pub returns-then-h-n-eq58 : goal.returns-then-h-n-eq58
returns-then-h-n-eq58 c =
    elim c.if-n-h.branch [
      | then-n-h w ↦
          host_ported c.args.domain.now c.args.h.now c.requires w.same_text.result w.same_text.ensures (search rules) _ c.digits.result (rest_is c.args.h.now (length c.args.domain.now + 1)) c.digits.ensures w.if-n-h.true (λ e. c.if-n-h-2.false (sym e)) (search rules)
      | else-n-h w ↦ absurd (search rules)
    ]

pub returns-else-h-n-eq58 : goal.returns-else-h-n-eq58
returns-else-h-n-eq58 c =
    ne_eqb _ _ (search rules) ∙ elim c.if-n-h.branch [
      | then-n-h w ↦ host_no_colon c.args.domain.now c.args.h.now w.if-n-h.true (λ e. c.if-n-h-2.false (sym e)) (search rules)
      | else-n-h w ↦ absurd (search rules)
    ]

pub returns-else-same_text : goal.returns-else-same_text
returns-else-same_text c =
    c.if-same_text.false ∙ elim c.if-n-h.branch [
      | then-n-h w ↦ host_other c.args.domain.now c.args.h.now w.same_text.result w.same_text.ensures (search rules)
      | else-n-h w ↦ host_short c.args.domain.now c.args.h.now w.if-n-h.false
    ]
