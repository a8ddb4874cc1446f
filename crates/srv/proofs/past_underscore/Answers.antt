use Rattle.std.proofs.Common.{rules, sym, ◌∙◌}
use borrow.Author.Tests.{eq-eqb, ne_eqb}
use Rattle.octets.proofs.Parts.{rest_is}
use Rattle.srv.proofs.Prefixed.{underscored_empty, underscored_first}
use Rattle.srv.proofs.past_underscore.Goals.{in_default-via-then-s-lt1, in_default-via-else-s-lt1+in_default-1}
use Rattle.srv.proofs.past_underscore.Goals as goal

pub returns-in-95 : goal.returns-in-95
returns-in-95 c = (sym (underscored_first c.args.s.now c.in-95.len_at_least) ∙ eq-eqb _ _ (search rules), rest_is c.args.s.now 1)

pub returns-in_default : goal.returns-in_default
returns-in_default c =
    elim c.in_default.branch [
      | in_default-via-then-s-lt1 w ↦ underscored_empty c.args.s.now (search rules)
      | in_default-via-else-s-lt1+in_default-1 w ↦ sym (underscored_first c.args.s.now (search rules)) ∙ ne_eqb _ _ (search rules)
    ]
