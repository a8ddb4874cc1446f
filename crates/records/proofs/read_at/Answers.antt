use Rattle.std.proofs.Common.{rules, arith}
use Rattle.std.proofs.lemmas.Iterator.Consumers.{nth_from_yields_List}
use Rattle.records.proofs.Chunks.{split_given}
use Rattle.records.proofs.Laws.{show_good}
use Rattle.records.proofs.read_at.Goals as goal

pub returns : goal.returns
returns c =
    show_good c.args.references.now c.args.index (omega arith) (search rules) c.nth.result
    (nth_from_yields_List _ _ _ c.nth.ensures.ran (split_given c.args.references.now c.chunks_exact.ensures.rest c.chunks_exact.ensures.size))
