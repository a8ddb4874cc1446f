use Rattle.constrained.proofs.Strings.{BreachLeft}
use Rattle.constrained.proofs.first_breach.Given as goal

abbrev pub invariant-loop-issuer : goal.invariant-loop-issuer
invariant-loop-issuer l = BreachLeft l.san l.lengths l.constraints l.issuer
