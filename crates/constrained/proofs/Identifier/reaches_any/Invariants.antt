use Rattle.entries.specs.Entries.{form_of}
use Rattle.constrained.specs.Subtrees.{reaches}
use Rattle.constrained.specs.Walks.{subtrees_left}
use Rattle.constrained.proofs.Meeting.{AnyLeft}
use Rattle.constrained.proofs.Identifier.reaches_any.Given as goal

abbrev pub invariant-loop-subtree : goal.invariant-loop-subtree
invariant-loop-subtree l =
    (goal.iterator-loop-subtree).can_next l.subtree-iterator × (goal.iterator-loop-subtree).is_finite l.subtree-iterator
    × AnyLeft (reaches (form_of l.self.form) l.self.name.text.now) (subtrees_left l.fn.subtrees) (subtrees_left l.subtree-iterator)
