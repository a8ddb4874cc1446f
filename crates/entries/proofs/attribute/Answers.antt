use Rattle.std.proofs.Common.{rules}
use Rattle.entries.proofs.Laws.{attributes}
use Rattle.entries.proofs.attribute.Goals as goal

pub returns-then-tag-ne48 : goal.returns-then-tag-ne48
returns-then-tag-ne48 c = search (rules, attributes)

pub returns-in_err-oid : goal.returns-in_err-oid
returns-in_err-oid c = let oid = c.in_err-oid.was in search (rules, attributes)

pub returns-then-oid : goal.returns-then-oid
returns-then-oid c = let oid = c.in_ok-oid.was in search (rules, attributes)

pub value-requires-clause-at_le_end : goal.value-requires-clause-at_le_end
value-requires-clause-at_le_end c = let oid = c.in_ok-oid.was in search (rules, attributes)

pub returns-in_err-value : goal.returns-in_err-value
returns-in_err-value c = let oid = c.in_ok-oid.was in let value = c.in_err-value.was in search (rules, attributes)

pub returns-then-value-end : goal.returns-then-value-end
returns-then-value-end c = let oid = c.in_ok-oid.was in let value = c.in_ok-value.was in search (rules, attributes)

pub returns : goal.returns
returns c = let oid = c.in_ok-oid.was in let value = c.in_ok-value.was in search (rules, attributes)
