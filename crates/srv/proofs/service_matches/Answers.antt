use Rattle.std.proofs.Common.{rules, sym, ◌∙◌}
use borrow.Author.Tests.{eqb-true, eqb-false}
use Rattle.octets.proofs.Parts.{rest_is}
use Rattle.srv.proofs.Match.{match_short, match_length, match_bare, match_rest}
use Rattle.srv.proofs.service_matches.Goals.{then-n-text, else-n-text, then-text-n, else-text-n}
use Rattle.srv.proofs.service_matches.Goals as goal

pub returns-then-text-eq95 : goal.returns-then-text-eq95
returns-then-text-eq95 c =
    elim c.if-n-text.branch [
      | then-n-text v ↦ elim c.if-text-n.branch [
        | then-text-n w ↦
            match_rest c.args.service.now c.args.domain.now c.args.text.now v.if-n-text.true (eqb-true _ _ (sym w.value-is ∙ c.if-text-eq95.true)) _ c.parts_match.result (rest_is c.args.text.now 1) c.parts_match.ensures
        | else-text-n w ↦ absurd (search rules)
      ]
      | else-n-text v ↦ absurd (search rules)
    ]

pub returns-else-text-eq95 : goal.returns-else-text-eq95
returns-else-text-eq95 c =
    c.if-text-eq95.false ∙ elim c.if-n-text.branch [
      | then-n-text v ↦ elim c.if-text-n.branch [
        | then-text-n w ↦ match_bare c.args.service.now c.args.domain.now c.args.text.now v.if-n-text.true (eqb-false _ _ (sym w.value-is ∙ c.if-text-eq95.false))
        | else-text-n w ↦ match_length c.args.service.now c.args.domain.now c.args.text.now (eqb-false _ _ (sym v.value-is ∙ w.if-text-n.false))
      ]
      | else-n-text v ↦ match_short c.args.service.now c.args.domain.now c.args.text.now v.if-n-text.false
    ]
