use Rattle.std.proofs.Common.{rules}
use Rattle.names.proofs.Laws.{label_laws}
use Rattle.names.proofs.domain_by_labels.Goals as goal

pub returns-then-not-bounded : goal.returns-then-not-bounded
returns-then-not-bounded c = search (rules, label_laws)

pub returns-in_default : goal.returns-in_default
returns-in_default c = search (rules, label_laws)
