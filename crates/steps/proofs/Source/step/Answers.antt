use Rattle.std.proofs.Common.{sym, ◌∙◌}
use Rattle.steps.proofs.Stepping.{there, step_shows}
use Rattle.steps.proofs.Source.step.Goals as goal

pub returns : goal.returns
returns c =
    let e = there _ _ (sym c.ok.ensures.value ∙ c.in_ok-element.was) in
    let m = there _ _ (sym c.ok-2.ensures.value ∙ c.in_ok-name.was) in
    step_shows _ _ _ c.if-s-c.false c.if-c.false _ c.read_element.ensures _ e _ c.shape.ensures _ m _ c.row_start-start.ensures _ c.after.ensures
