use Rattle.std.proofs.Common.{◌∙◌, sym}
use Rattle.verdict.proofs.Laws.{ref_none}
use Rattle.verdict.proofs.validate.Goals as goal

pub returns : goal.returns
returns c =
    let i = c.args.i in
    ref_none i.references.now i.san.now i.subject.now i.constraints.now i.lengths.now
    (sym c.any_long.ensures ∙ c.if-any_long.false)
    (sym c.good_records.ensures ∙ c.if-not-good_records.false)
    (sym c.san_read.ensures ∙ c.if-not-san_read.false)
    (sym c.subject_read.ensures ∙ c.if-not-subject_read.false)
    (sym c.constraints_read.ensures ∙ c.if-not-constraints_read.false)
    tt
