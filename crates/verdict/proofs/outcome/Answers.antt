use Rattle.verdict.proofs.Laws.{out_refused, refused_small}
use Rattle.verdict.proofs.outcome.Goals as goal

pub returns-in-Err : goal.returns-in-Err
returns-in-Err c =
    let i = c.args.i in (
      out_refused i.references.now i.san.now i.subject.now i.constraints.now i.lengths.now _ c.validate.ensures c.in-Err.refusal c.in-Err.is _ c.into.ensures,
      refused_small i.references.now i.san.now i.subject.now i.constraints.now i.lengths.now _ c.validate.ensures c.in-Err.refusal c.in-Err.is _ c.into.ensures,
    )
