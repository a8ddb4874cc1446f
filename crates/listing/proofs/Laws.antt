-- What each function of the crate returns, by its own tests.
use Rattle.listing.proofs.Planning.{subject_counted, none_counted, san_counted, constraints_counted, open_long, open_unreadable, open_rows, plan_refused, plan_short, plan_whole}

pub ruleset laws = (
  subject_counted,
  none_counted,
  san_counted,
  constraints_counted,
  open_long,
  open_unreadable,
  open_rows,
  plan_refused,
  plan_short,
  plan_whole,
)
