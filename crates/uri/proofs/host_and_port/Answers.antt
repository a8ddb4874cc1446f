use Rattle.std.proofs.Common.{rules, arith, ◌+◌}
use Rattle.std.proofs.lemmas.Grind.{common_steps}
use Rattle.octets.proofs.Parts.{rest_is}
use Rattle.uri.proofs.Authority.{host_plain, host_past}
use Rattle.uri.proofs.host_and_port.Goals.{in_default-via-in-Some+in_default, in_default-via-in_default}
use Rattle.uri.proofs.host_and_port.Goals as goal

pub returns-in-Some-eq64 : goal.returns-in-Some-eq64
returns-in-Some-eq64 c =
    host_past c.args.rest.now c.stop-n.result (search rules) _ (rest_is c.args.rest.now (c.stop-n.result + 1)) c.stop.result (search rules) (search rules) (search rules)

pub returns-in_default : goal.returns-in_default
returns-in_default c =
    elim c.in_default.branch [
      | in_default-via-in-Some+in_default w ↦ host_plain c.args.rest.now c.stop-n.result (search rules) (λ l e. grind (arith, common_steps)) (search rules)
      | in_default-via-in_default w ↦ host_plain c.args.rest.now c.stop-n.result (search rules) (λ l e. grind (arith, common_steps)) (search rules)
    ]
