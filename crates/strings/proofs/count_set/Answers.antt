use Rattle.std.proofs.Common.{rules}
use Rattle.strings.proofs.Laws.{set_laws}
use Rattle.strings.proofs.count_set.Goals as goal

pub returns-in_err-e : goal.returns-in_err-e
returns-in_err-e c = let e = c.in_err-e.was in search (rules, set_laws)

pub returns-in_err-attribute : goal.returns-in_err-attribute
returns-in_err-attribute c = let e = c.in_ok-e.was in let a = c.in_err-attribute.was in search (rules, set_laws)

pub returns-then-not-in_order : goal.returns-then-not-in_order
returns-then-not-in_order c = let e = c.in_ok-e.was in let a = c.in_ok-attribute.was in search (rules, set_laws)
