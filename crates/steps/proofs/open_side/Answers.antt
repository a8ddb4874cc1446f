use Rattle.steps.proofs.Stepping.{side_found}
use Rattle.steps.proofs.open_side.Goals as goal

pub returns-in-Ok : goal.returns-in-Ok
returns-in-Ok c = side_found _ _ _ _ c.read_element.ensures _ c.in-Ok.is _ c.wide.ensures.0 c.into_part.ensures
