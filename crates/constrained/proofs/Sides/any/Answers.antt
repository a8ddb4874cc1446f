use Rattle.constrained.proofs.Permission.{any_excluded}
use Rattle.constrained.proofs.Sides.any.Goals as goal

pub returns-else-not-is_empty : goal.returns-else-not-is_empty
returns-else-not-is_empty c =
    any_excluded c.args.self.now c.is_empty.result c.is_empty.ensures c.if-not-is_empty.false c.is_empty-else-not-is_empty.result c.is_empty-else-not-is_empty.ensures
