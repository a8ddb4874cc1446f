use Rattle.entries.proofs.Whole.{long_formed}
use Rattle.entries.proofs.other_text.Goals as goal

pub returns-in_default : goal.returns-in_default
returns-in_default c =
    long_formed c.args.s.now c.args.at c.args.end c.requires.at_bound c.requires.end_in_bounds c.requires.end_value c.requires.at_value
    c.content_start-start.result c.content_start-start.ensures c.other_name.result c.other_name.ensures c.in_default.field-0 c.in_default.is
