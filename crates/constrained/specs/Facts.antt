-- Facts that structs keep have one proof at most.
use Rattle.std.specs.Prelude.{ℕ, List}
use Rattle.std.proofs.Math.Option.{Option}
use Rattle.std.proofs.Props.{props}
use Rattle.reading.specs.Reader.{Raw}
use Rattle.rules.specs.Matching.{Form}
use Rattle.der.specs.Runs.{Run, Readable}
use Rattle.constrained.specs.declared.Sides.{Sides}
use Rattle.constrained.specs.Subtrees.{FormSides}

pub run_prop : {A : Type 0} (f : Raw → Option A) (s : List ℕ) (at end : ℕ) → IsProp (Run f s at end)
unfolding Readable
run_prop f s at end = Prim.hlevel props

pub form_sides_prop : (form : Form) (s : List ℕ) (r : Sides) → IsProp (FormSides form s r)
unfolding Readable
form_sides_prop form s r = Prim.hlevel props
