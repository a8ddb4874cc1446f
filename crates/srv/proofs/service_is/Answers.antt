use Rattle.std.proofs.Common.{rules, ◌∙◌}
use borrow.Author.Tests.{eq-eqb}
use Rattle.srv.proofs.Subtree.{service_none, service_short, service_differs, service_whole, service_dotted}
use Rattle.srv.proofs.service_is.Goals.{then-n-rest, else-n-rest}
use Rattle.srv.proofs.service_is.Goals as goal

pub returns-in_default : goal.returns-in_default
returns-in_default c = service_none c.args.service.now c.args.name.now (search rules)

pub returns-then-rest-n : goal.returns-then-rest-n
returns-then-rest-n c =
    eq-eqb _ _ c.if-rest-n.true ∙ elim c.if-n-rest.branch [
      | then-n-rest w ↦
          service_whole c.args.service.now c.args.name.now c.requires c.in-Some.rest.now (search rules) w.same_text.result w.same_text.ensures (search rules) c.if-rest-n.true
      | else-n-rest w ↦ absurd (search rules)
    ]

pub returns-else-rest-n : goal.returns-else-rest-n
returns-else-rest-n c =
    elim c.if-n-rest.branch [
      | then-n-rest w ↦
          service_dotted c.args.service.now c.args.name.now c.requires c.in-Some.rest.now (search rules) w.same_text.result w.same_text.ensures (search rules) w.if-n-rest.true c.if-rest-n.false
      | else-n-rest w ↦ absurd (search rules)
    ]

pub returns-else-same_text : goal.returns-else-same_text
returns-else-same_text c =
    c.if-same_text.false ∙ elim c.if-n-rest.branch [
      | then-n-rest w ↦
          service_differs c.args.service.now c.args.name.now c.requires c.in-Some.rest.now (search rules) w.same_text.result w.same_text.ensures (search rules)
      | else-n-rest w ↦ service_short c.args.service.now c.args.name.now c.requires c.in-Some.rest.now (search rules) w.if-n-rest.false
    ]
