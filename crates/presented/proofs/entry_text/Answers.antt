use Rattle.entries.proofs.Whole.{as_number}
use Rattle.presented.proofs.Entries.{text_of_kind}
use Rattle.presented.proofs.entry_text.Goals as goal

pub returns : goal.returns
returns c =
    as_number c.args.end c.text_for.result _
    (text_of_kind c.args.san.now c.args.at c.args.end c.args.kind c.try_from.result c.try_from.ensures c.in-Ok.kind c.in-Ok.is c.text_for.result c.text_for.ensures)
    c.unwrap_or.result c.unwrap_or.ensures
