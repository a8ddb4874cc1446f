use Rattle.std.proofs.Common.{rules}
use Rattle.strings.proofs.Laws.{sets_laws}
use Rattle.strings.proofs.Counting.{set_within, sets_count, sets_next}
use Rattle.strings.proofs.Usual.{usual_less, usual_within, usual_count, usual_sets}
use Rattle.strings.proofs.count_sets.Goals as goal

pub loop-at-smaller-in-Some : goal.loop-at-smaller-in-Some
loop-at-smaller-in-Some c = search usual_less

pub loop-at-preserved-in-Some : goal.loop-at-preserved-in-Some
loop-at-preserved-in-Some c = (search usual_within, search usual_count, search usual_sets)

pub returns-in_err-set : goal.returns-in_err-set
returns-in_err-set c = let e = c.in_err-set.was in search (rules, sets_laws)

pub returns-in_err-k : goal.returns-in_err-k
returns-in_err-k c = let e = c.in_ok-set.was in let k = c.in_err-k.was in search (rules, sets_laws)

pub loop-at-preserved : goal.loop-at-preserved
loop-at-preserved c = let e = c.in_ok-set.was in let k = c.in_ok-k.was in (search set_within, search sets_count, search sets_next)
