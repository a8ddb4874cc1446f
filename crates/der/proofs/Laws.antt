-- What each function of the crate returns, by its own tests.
use Rattle.der.proofs.Elements.{placed_long, placed_found, element_none, element_short, element_other, one_none, one_low, one_is, two_none, two_low, two_is, tagged_none, tagged_same, tagged_other, value_refused, value_bad, value_good, short_end, short_start, any_end, any_start, is_there}

pub ruleset laws = (
  placed_long,
  placed_found,
  element_none,
  element_short,
  element_other,
  one_none,
  one_low,
  one_is,
  two_none,
  two_low,
  two_is,
  tagged_none,
  tagged_same,
  tagged_other,
  value_refused,
  value_bad,
  value_good,
  short_end,
  short_start,
  any_end,
  any_start,
  is_there,
)
