use Rattle.std.proofs.Common.{◌≡◌, ◌+◌, ◌<◌, length}
use Rattle.octets.proofs.Texts.{PartLeft}
use Rattle.octets.proofs.same_text.Given as goal

abbrev pub invariant-loop-k : goal.invariant-loop-k
invariant-loop-k l = (l.n ≡ length l.a) × (l.n ≡ length l.b) × (l.last + 8 ≡ l.n) × (l.k < l.n) × PartLeft l.a l.b 0 l.n l.k
