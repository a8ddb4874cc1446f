use Rattle.std.proofs.Common.{◌∙◌, ap}
use Rattle.rules.specs.Bytes.{part}
use Rattle.rules.specs.Records.{reference_of}
use Rattle.records.proofs.References.{service_fits, record_good}
use Rattle.records.specs.References.{reference_at}
use Rattle.records.proofs.service_of.Goals as goal

pub service_in-requires-clause-fits : goal.service_in-requires-clause-fits
unfolding part
service_in-requires-clause-fits c =
    rw c.nth_record.ensures.value (service_fits _ (record_good c.args.references.now c.args.i c.requires.i_in_bounds c.requires.references_value))

pub returns : goal.returns
unfolding reference_at
returns c = c.service_in.ensures ∙ ap (λ b. (reference_of b).service) c.nth_record.ensures.value
