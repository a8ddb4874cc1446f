use Rattle.steps.proofs.Stepping.{set_found}
use Rattle.steps.proofs.open_set.Goals as goal

pub returns-in-Ok : goal.returns-in-Ok
returns-in-Ok c = set_found _ _ _ _ _ c.tagged.ensures _ c.in-Ok.is c.into_part.ensures
