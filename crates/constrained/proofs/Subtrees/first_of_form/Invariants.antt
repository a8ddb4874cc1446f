use Rattle.std.proofs.Common.{◌-◌}
use Rattle.entries.specs.Entries.{form_of}
use Rattle.constrained.proofs.Parts.{Passed}
use Rattle.constrained.proofs.Subtrees.first_of_form.Given as goal

abbrev pub invariant-loop-subtree : goal.invariant-loop-subtree
invariant-loop-subtree l = Passed (form_of l.form) l.fn.self l.rest l.at

abbrev pub decreases-loop-subtree : goal.decreases-loop-subtree
decreases-loop-subtree l = l.rest.end - l.rest.at
