use Rattle.filter.proofs.Laws.{note_run}
use Rattle.filter.proofs.note.Goals as goal

pub note_in-requires : goal.note_in-requires
note_in-requires c = note_run c.args.san.now c.read_element.result c.read_element.ensures c.requires c.in-Ok.element c.in-Ok.is
