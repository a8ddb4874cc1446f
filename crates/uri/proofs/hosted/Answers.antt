use Rattle.std.proofs.Common.{rules, ◌+◌, ◌∙◌}
use borrow.Author.Tests.{eq-eqb}
use Rattle.octets.proofs.Parts.{rest_is}
use Rattle.uri.proofs.Host.{hosted_no_domain, hosted_no_port, hosted_port}
use Rattle.uri.proofs.hosted.Goals as goal

pub returns-then-n-h : goal.returns-then-n-h
returns-then-n-h c = eq-eqb _ _ c.if-n-h.true ∙ hosted_no_port c.args.h.now c.find-n.result (search rules) c.domain.result c.domain.ensures c.if-domain.true c.if-n-h.true

pub returns-else-n-h : goal.returns-else-n-h
returns-else-n-h c =
    hosted_port c.args.h.now c.find-n.result (search rules) c.domain.result c.domain.ensures _ c.digits.result (rest_is c.args.h.now (c.find-n.result + 1)) c.digits.ensures c.if-domain.true

pub returns-else-domain : goal.returns-else-domain
returns-else-domain c = c.if-domain.false ∙ hosted_no_domain c.args.h.now c.find-n.result (search rules) c.domain.result c.domain.ensures c.if-domain.false
