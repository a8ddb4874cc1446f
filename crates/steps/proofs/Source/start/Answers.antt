use Rattle.steps.proofs.Stepping.{start_san}
use Rattle.steps.proofs.Source.start.Goals as goal

pub returns-in-San : goal.returns-in-San
returns-in-San c = start_san _ _ _ _ c.tagged.ensures _ c.in-Ok.is c.in-San.is c.into_part.ensures
