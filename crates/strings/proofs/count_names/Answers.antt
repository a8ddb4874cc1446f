use Rattle.std.proofs.Common.{rules}
use Rattle.strings.proofs.Laws.{names_laws}
use Rattle.strings.proofs.Counting.{next_within, next_count, names_next}
use Rattle.strings.proofs.Usual.{usual_within, usual_count, usual_names}
use Rattle.strings.proofs.count_names.Goals.{in-Some, in_default+in_ok-e+else-not-good_name}
use Rattle.strings.proofs.count_names.Goals as goal

pub returns-in_err-e : goal.returns-in_err-e
returns-in_err-e c = let e = c.in_err-e.was in search (rules, names_laws)

pub returns-then-not-good_name : goal.returns-then-not-good_name
returns-then-not-good_name c = let e = c.in_ok-e.was in search (rules, names_laws)

pub loop-at-preserved : goal.loop-at-preserved
loop-at-preserved c =
    elim c.match-usual_name.branch [
      | in-Some w ↦ let next = w.in-Some.is in rw w.at-is (search usual_within, search usual_count, search usual_names)
      | in_default+in_ok-e+else-not-good_name w ↦ let e = w.in_ok-e.was in rw w.at-is (search next_within, search next_count, search names_next)
    ]
