use Rattle.constrained.proofs.Groups.{side_run}
use Rattle.constrained.proofs.both_sides.Goals as goal

pub sides_from-requires : goal.sides_from-requires
sides_from-requires c = side_run c.args.s.now c.read_element.result c.read_element.ensures c.requires c.in-Ok.whole c.in-Ok.is
