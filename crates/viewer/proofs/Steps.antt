-- Step after step: a viewer that is stepped n times shows what the n-th step of the viewer's request shows from its position. So what is
-- proved of that from an opening (`viewings` of crates/demands) is so of `open` and `step`.
use Prim.Native.Nat.{ℕ, zero, suc}
use mathlib.Core.Path.{◌≡◌, refl}
use mathlib.Core.List.{List}
use denote.Ref.{Bor}
use Rattle.rules.specs.Viewer.{opening_at}
use Rattle.reading.specs.Calls.{view_on}
use Rattle.demands.specs.Viewing.{nth_at, nth_row}
use Rattle.viewer.specs.Viewers.{opened_by, stepped_by}
use Rattle.viewer.specs.declared.Viewer.{Viewer}

-- a viewer after n steps
abbrev pub stepped : ℕ → Viewer → Viewer
stepped zero v = v
stepped (suc n) v = stepped n (stepped_by v).viewer

pub steps_show : (n : ℕ) (v : Viewer) → (stepped_by (stepped n v)).row ≡ nth_row (view_on v.which v.der.now) v.at n
unfolding nth_row nth_at
steps_show zero v = refl
steps_show (suc n) v = steps_show n (stepped_by v).viewer

-- and from an opening
pub opened_show : (n : ℕ) (der : Bor (List ℕ)) (which : ℕ)
    → (stepped_by (stepped n (opened_by der which).viewer)).row ≡ nth_row (view_on which der.now) opening_at n
opened_show n der which = steps_show n (opened_by der which).viewer
