use Rattle.std.proofs.Common.{rules}
use Rattle.entries.proofs.Laws.{others}
use Rattle.entries.proofs.other_name.Goals as goal

pub returns-in_err-oid : goal.returns-in_err-oid
returns-in_err-oid c = let oid = c.in_err-oid.was in search (rules, others)

pub returns-then-oid : goal.returns-then-oid
returns-then-oid c = let oid = c.in_ok-oid.was in search (rules, others)

pub tagged-requires-2-clause-at_le_end : goal.tagged-requires-2-clause-at_le_end
tagged-requires-2-clause-at_le_end c = let oid = c.in_ok-oid.was in search (rules, others)

pub returns-in_err-inner : goal.returns-in_err-inner
returns-in_err-inner c = let oid = c.in_ok-oid.was in let inner = c.in_err-inner.was in search (rules, others)

pub returns-then-inner-end : goal.returns-then-inner-end
returns-then-inner-end c = let oid = c.in_ok-oid.was in let inner = c.in_ok-inner.was in search (rules, others)

pub value-requires-clause-at_le_end : goal.value-requires-clause-at_le_end
value-requires-clause-at_le_end c = let oid = c.in_ok-oid.was in let inner = c.in_ok-inner.was in search (rules, others)

pub returns-in_err-value : goal.returns-in_err-value
returns-in_err-value c = let oid = c.in_ok-oid.was in let inner = c.in_ok-inner.was in let value = c.in_err-value.was in search (rules, others)

pub returns-then-value-end : goal.returns-then-value-end
returns-then-value-end c = let oid = c.in_ok-oid.was in let inner = c.in_ok-inner.was in let value = c.in_ok-value.was in search (rules, others)

pub slice_bounds-other_kind-count : goal.slice_bounds-other_kind-count
slice_bounds-other_kind-count c = let oid = c.in_ok-oid.was in search (rules, others)

pub slice_bounds-other_kind-end : goal.slice_bounds-other_kind-end
slice_bounds-other_kind-end c = let oid = c.in_ok-oid.was in search (rules, others)

pub returns : goal.returns
returns c = let oid = c.in_ok-oid.was in let inner = c.in_ok-inner.was in let value = c.in_ok-value.was in search (rules, others)
