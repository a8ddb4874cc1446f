use Rattle.std.proofs.Common.{rules}
use Rattle.octets.proofs.Parts.{rest_is}
use Rattle.uri.proofs.Uri.{slashed_short, slashed_first, slashed_second, slashed_here}
use Rattle.uri.proofs.past_slashes.Goals.{in_default-via-then-s-lt2, in_default-via-else-s-lt2+in-47+in_default-1, in_default-via-else-s-lt2+in_default-1}
use Rattle.uri.proofs.past_slashes.Goals as goal

pub returns-in-47 : goal.returns-in-47
returns-in-47 c = (slashed_here c.args.s.now c.in-47.len_at_least (search rules) (search rules), rest_is c.args.s.now 2)

pub returns-in_default : goal.returns-in_default
returns-in_default c =
    elim c.in_default.branch [
      | in_default-via-then-s-lt2 w ↦ slashed_short c.args.s.now (search rules)
      | in_default-via-else-s-lt2+in-47+in_default-1 w ↦ slashed_second c.args.s.now (search rules) (search rules)
      | in_default-via-else-s-lt2+in_default-1 w ↦ slashed_first c.args.s.now (search rules) (search rules)
    ]
