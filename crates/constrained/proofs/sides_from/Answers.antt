use Rattle.constrained.proofs.Groups.{sides_excluded, sides_two}
use Rattle.constrained.proofs.sides_from.Goals as goal

pub returns-then-element : goal.returns-then-element
returns-then-element c =
    sides_excluded c.args.s.now c.args.start c.args.end c.requires c.read_element.result c.read_element.ensures c.in-Ok.element c.in-Ok.is c.if-element.true

pub returns : goal.returns
returns c =
    sides_two c.args.s.now c.args.start c.args.end c.requires c.read_element.result c.read_element.ensures c.in-Ok.element c.in-Ok.is c.if-element.false
    c.content_at.result c.content_at.ensures
