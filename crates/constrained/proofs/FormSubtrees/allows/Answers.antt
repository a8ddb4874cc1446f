use Rattle.constrained.proofs.Permission.{allowed_no_id, allowed_excluded, allowed_free, allowed_permitted}
use Rattle.constrained.proofs.FormSubtrees.allows.Goals as goal

pub returns-in_default : goal.returns-in_default
returns-in_default c = allowed_no_id c.args.self.now c.requires c.args.text.now c.in_default.ensures

pub returns-then-reaches_any : goal.returns-then-reaches_any
returns-then-reaches_any c =
    allowed_excluded c.args.self.now c.requires c.args.text.now c.in-Some.id c.in-Some.ensures.0 c.in-Some.ensures.1 c.excluded.result c.excluded.ensures
    c.reaches_any.result c.reaches_any.ensures c.if-reaches_any.true

pub returns-then-is_empty : goal.returns-then-is_empty
returns-then-is_empty c =
    allowed_free c.args.self.now c.requires c.args.text.now c.in-Some.id c.in-Some.ensures.0 c.in-Some.ensures.1 c.excluded.result c.excluded.ensures
    c.reaches_any.result c.reaches_any.ensures c.if-reaches_any.false c.is_empty.result c.is_empty.ensures c.if-is_empty.true

pub returns-else-is_empty : goal.returns-else-is_empty
returns-else-is_empty c =
    allowed_permitted c.args.self.now c.requires c.args.text.now c.in-Some.id c.in-Some.ensures.0 c.in-Some.ensures.1 c.excluded.result c.excluded.ensures
    c.reaches_any.result c.reaches_any.ensures c.if-reaches_any.false c.is_empty.result c.is_empty.ensures c.if-is_empty.false
    c.permitted.result c.permitted.ensures c.lies_in_any.result c.lies_in_any.ensures
