use Rattle.std.proofs.Common.{get_or, drop, arith}
use Rattle.std.proofs.lemmas.Grind.{common_steps}
use Rattle.rules.specs.Numbers.{service_length_at, service_size, domain_length_at, domain_size}
use Rattle.records.proofs.References.{filled_fits, record_reference}
use Rattle.records.proofs.good_record.Goals.{then-b-eq0, else-b-eq0, then-filled, else-filled}
use Rattle.records.proofs.good_record.Goals as goal

pub service_in-requires-clause-fits : goal.service_in-requires-clause-fits
service_in-requires-clause-fits c =
    elim c.if-filled.branch [
      | then-filled w ↦ elim c.if-b-eq0.branch [
        | then-b-eq0 v ↦ filled_fits (drop 4 c.args.b.now) service_size (get_or c.args.b.now service_length_at 0) (grind (arith, common_steps))
        | else-b-eq0 v ↦ grind (arith, common_steps)
      ]
      | else-filled w ↦ grind (arith, common_steps)
    ]

pub domain_in-requires-clause-fits : goal.domain_in-requires-clause-fits
domain_in-requires-clause-fits c =
    elim c.if-filled.branch [
      | then-filled w ↦ filled_fits (drop 67 c.args.b.now) domain_size (get_or c.args.b.now domain_length_at 0) (grind (arith, common_steps))
      | else-filled w ↦ grind (arith, common_steps)
    ]

pub returns-then-filled-2 : goal.returns-then-filled-2
returns-then-filled-2 c =
    elim c.if-filled.branch [
      | then-filled w ↦ elim c.if-b-eq0.branch [
        | then-b-eq0 v ↦
            record_reference c.args.b.now c.service_in.result.now c.domain_in.result.now c.good_reference.result v.if-b-eq0.true (grind (arith, common_steps)) (grind (arith, common_steps)) c.service_in.ensures c.domain_in.ensures c.good_reference.ensures
        | else-b-eq0 v ↦ grind (arith, common_steps)
      ]
      | else-filled w ↦ grind (arith, common_steps)
    ]
