use Rattle.listing.proofs.Planning.{plan_refused}
use Rattle.listing.proofs.planned.Goals as goal

pub returns-in_err-names : goal.returns-in_err-names
returns-in_err-names c = plan_refused _ _ _ _ c.opened.ensures _ c.in_err-names.was _ c.from_residual.ensures.1
