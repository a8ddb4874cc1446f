use Rattle.std.proofs.Common.{◌∙◌, ap}
use Rattle.rules.specs.Bytes.{part}
use Rattle.rules.specs.Records.{reference_of}
use Rattle.records.proofs.References.{domain_fits, record_good}
use Rattle.records.specs.References.{reference_at}
use Rattle.records.proofs.domain_of.Goals as goal

pub domain_in-requires-clause-fits : goal.domain_in-requires-clause-fits
unfolding part
domain_in-requires-clause-fits c =
    rw c.nth_record.ensures.value (domain_fits _ (record_good c.args.references.now c.args.i c.requires.i_in_bounds c.requires.references_value))

pub returns : goal.returns
unfolding reference_at
returns c = c.domain_in.ensures ∙ ap (λ b. (reference_of b).domain) c.nth_record.ensures.value
