use Rattle.std.proofs.Common.{rules, ◌+◌, length, ◌∙◌}
use Rattle.octets.proofs.Parts.{rest_is}
use Rattle.srv.proofs.Match.{parts_same, parts_other_service, parts_other_byte}
use Rattle.srv.proofs.parts_match.Goals.{then-rest-n-eq46, else-rest-n-eq46}
use Rattle.srv.proofs.parts_match.Goals as goal

pub returns-then-same_text : goal.returns-then-same_text
returns-then-same_text c =
    elim c.if-rest-n-eq46.branch [
      | then-rest-n-eq46 w ↦
          parts_same c.args.service.now c.args.domain.now c.args.rest.now w.same_text.result w.same_text.ensures c.requires.service_value c.requires.domain_value _ c.same_text-then-same_text.result (rest_is c.args.rest.now (length c.args.service.now + 1)) c.same_text-then-same_text.ensures c.requires.service_in_bounds w.if-rest-n-eq46.true (search rules)
      | else-rest-n-eq46 w ↦ absurd (search rules)
    ]

pub returns-else-same_text : goal.returns-else-same_text
returns-else-same_text c =
    c.if-same_text.false ∙ elim c.if-rest-n-eq46.branch [
      | then-rest-n-eq46 w ↦ parts_other_service c.args.service.now c.args.domain.now c.args.rest.now w.same_text.result w.same_text.ensures (search rules)
      | else-rest-n-eq46 w ↦ parts_other_byte c.args.service.now c.args.domain.now c.args.rest.now w.if-rest-n-eq46.false
    ]
