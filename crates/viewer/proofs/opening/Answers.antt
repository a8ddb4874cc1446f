use Rattle.std.proofs.Common.{refl}
use Rattle.viewer.proofs.Finding.{opening_refused}
use Rattle.viewer.proofs.opening.Goals as goal

pub returns-in-Err : goal.returns-in-Err
returns-in-Err c = opening_refused _ _ refl _ _ c.opened.ensures _ c.in-Err.is _ c.into.ensures
