use Rattle.std.proofs.Common.{rules}
use Rattle.octets.proofs.Parts.{rest_is}
use Rattle.dns.proofs.Laws.{wild_short, wild_first, wild_second, wild_here}
use Rattle.dns.proofs.past_star.Goals.{in_default-via-then-s-lt2, in_default-via-else-s-lt2+in-42+in_default-1, in_default-via-else-s-lt2+in_default-1}
use Rattle.dns.proofs.past_star.Goals as goal

pub returns-in-42 : goal.returns-in-42
returns-in-42 c = (wild_here c.args.s.now c.in-42.len_at_least (search rules) (search rules), rest_is c.args.s.now 2)

pub returns-in_default : goal.returns-in_default
returns-in_default c =
    elim c.in_default.branch [
      | in_default-via-then-s-lt2 w ↦ wild_short c.args.s.now (search rules)
      | in_default-via-else-s-lt2+in-42+in_default-1 w ↦ wild_second c.args.s.now (search rules) (search rules)
      | in_default-via-else-s-lt2+in_default-1 w ↦ wild_first c.args.s.now (search rules) (search rules)
    ]
