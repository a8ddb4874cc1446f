-- What each function of the crate returns, by its own tests.
use Rattle.steps.proofs.Stepping.{source_san, source_subject, source_constraints, group_next, group_last, set_none, set_found, side_none, side_found, start_none, start_san, start_subject, start_constraints, start_fits, attribute_last, attribute_on, subtree_last, subtree_on, step_outside, step_past, step_none, element_body, element_fits, element_later, step_unreadable, step_shows}
use Rattle.steps.proofs.Left.{left_none, left_more}

-- of numbers of strings and of groups
pub ruleset numbers = (source_san, source_subject, source_constraints, group_next, group_last)

-- of the parts that names stand in
pub ruleset parts = (set_none, set_found, side_none, side_found)

pub ruleset starts = (start_none, start_san, start_subject, start_constraints, start_fits)

pub ruleset followers = (attribute_last, attribute_on, subtree_last, subtree_on)

pub ruleset names = (step_outside, step_past, step_none, element_body, element_fits, element_later, step_unreadable, step_shows)

pub ruleset lefts = (left_none, left_more)

pub ruleset laws = (numbers, followers, lefts)
