use Rattle.std.proofs.Common.{◌≡◌, ◌*◌, sym, ap, ◌∙◌}
use Rattle.rules.specs.Bytes.{part}
use Rattle.rules.specs.Numbers.{record_size, kind_number}
use Rattle.rules.specs.Records.{reference, reference_of, good_reference}
use Rattle.records.proofs.References.{service_fits, domain_fits, record_good, at_good, parts_are, no_kind}
use Rattle.records.specs.References.{reference_at}
use Rattle.records.proofs.reference_at.Goals as goal

pub service_in-requires-clause-fits : goal.service_in-requires-clause-fits
unfolding part
service_in-requires-clause-fits c =
    rw c.nth_record-b.ensures.value (service_fits _ (record_good c.args.references.now c.args.i c.requires.i_in_bounds c.requires.references_value))

pub domain_in-requires-clause-fits : goal.domain_in-requires-clause-fits
unfolding part
domain_in-requires-clause-fits c =
    rw c.nth_record-b.ensures.value (domain_fits _ (record_good c.args.references.now c.args.i c.requires.i_in_bounds c.requires.references_value))

pub unreachable-requires : goal.unreachable-requires
unfolding reference_at reference_of
unreachable-requires c =
    no_kind (reference_of (part c.args.references.now (c.args.i * record_size) record_size)) c.in-Err.field-0
    (rw c.nth_record-b.ensures.value at (sym c.in-Err.is ∙ c.try_from.ensures))
    (at_good c.args.references.now c.args.i c.requires.i_in_bounds c.requires.references_value)

pub invariant_of-result : goal.invariant_of-result
invariant_of-result c =
    let e : reference (kind_number c.in-Ok.kind) c.service_in.result.now c.domain_in.result.now ≡ reference_at c.args.references.now c.args.i
    = parts_are _ _ c.requires.i_in_bounds _ c.nth_record-b.ensures.value _ c.try_from.ensures _ c.in-Ok.is _ _ c.service_in.ensures c.domain_in.ensures in
    record { good = rw c.new.ensures (ap good_reference e ∙ at_good c.args.references.now c.args.i c.requires.i_in_bounds c.requires.references_value) }

pub returns : goal.returns
returns c =
    rw c.new.ensures
    (parts_are _ _ c.requires.i_in_bounds _ c.nth_record-b.ensures.value _ c.try_from.ensures _ c.in-Ok.is _ _ c.service_in.ensures c.domain_in.ensures)
