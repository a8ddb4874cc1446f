use Rattle.verdict.proofs.Laws.{small_witness}
use Rattle.verdict.proofs.shown.Goals as goal

pub text_in-requires : goal.text_in-requires
text_in-requires c = small_witness c.args.o c.args.san.now c.args.subject.now c.requires c.in-Matched.witness c.in-Matched.is
