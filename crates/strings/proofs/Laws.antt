-- What each function of the crate returns, by its own tests: one set of laws for each loop.
use Rattle.strings.proofs.Counting.{next_later, next_body, next_within, next_fits, next_less, next_count, names_start_lem, names_end, names_refused, names_bad, names_next, content_refused, content_open, content_is, content_start, san_none, san_empty, san_names_lem}
use Rattle.strings.proofs.Counting.{order_is, set_empty, set_start, set_end, set_refused, set_malformed, set_unordered, set_next}
use Rattle.strings.proofs.Counting.{sets_start, sets_end, sets_refused, set_body, set_within, set_fits, set_less, sets_bad, sets_count, sets_sum, sets_next, subject_none, subject_sets}
use Rattle.strings.proofs.Counting.{side_start, side_end, side_refused, side_bad, side_next}
use Rattle.strings.proofs.Usual.{unusual, usual_name_is, usual_attribute_is, usual_set_is, usual_within, usual_less, usual_count, usual_names, usual_sets}
use Rattle.strings.proofs.Sides.{sides_empty, sides_start, sides_end, sides_refused, sides_low, sides_high, sides_none, sides_bad, sides_count, sides_sum, sides_next, constraints_none, constraints_sides}

pub ruleset places = (next_later, next_body, next_within, next_fits, next_less, next_count)

pub ruleset usual_laws = (usual_within, usual_less, usual_count)

pub ruleset names_laws = (places, usual_laws, usual_names, names_start_lem, names_end, names_refused, names_bad, names_next)

pub ruleset outer_laws = (content_refused, content_open, content_is, content_start, san_none, san_empty, san_names_lem, subject_none, subject_sets, constraints_none, constraints_sides)

pub ruleset set_laws = (places, set_empty, set_start, set_end, set_refused, set_malformed, set_unordered, set_next)

pub ruleset sets_laws = (usual_laws, usual_sets, sets_start, sets_end, sets_refused, set_body, set_within, set_fits, set_less, sets_bad, sets_count, sets_sum, sets_next)

pub ruleset side_laws = (places, side_start, side_end, side_refused, side_bad, side_next)

pub ruleset sides_laws = (places, sides_empty, sides_start, sides_end, sides_refused, sides_low, sides_high, sides_none, sides_bad, sides_count, sides_sum, sides_next)

pub ruleset laws = (order_is, unusual, usual_name_is, usual_attribute_is, usual_set_is, names_laws, outer_laws, set_laws, sets_laws, side_laws, sides_laws)
