use Rattle.std.proofs.Common.{refl, arith, length-set}
use Rattle.output.specs.Output.{Fits}
use Rattle.output.proofs.Laws as laws
use Rattle.output.proofs.put_at.Goals as goal

pub loop-k-init : goal.loop-k-init
loop-k-init c = (refl, laws.put_none _ _ _)

pub overflow_add-buffer : goal.overflow_add-buffer
unfolding Fits
overflow_add-buffer c = omega arith

pub bounds-buffer-at : goal.bounds-buffer-at
unfolding Fits
bounds-buffer-at c = omega arith

pub loop-k-preserved : goal.loop-k-preserved
unfolding Fits
loop-k-preserved c = (simp length-set (omega arith), laws.put_more _ _ _ _ _ c.loop-k.invariant.1 (omega arith) (omega arith))

pub overflow_add-result : goal.overflow_add-result
unfolding Fits
overflow_add-result c = omega arith

pub returns : goal.returns
returns c = laws.put_all _ _ _ _ _ c.loop-k.invariant.1 (omega arith)
