use Rattle.presented.proofs.Sets.{there_read}
use Rattle.presented.proofs.known_element.Goals as goal

pub returns : goal.returns
returns c =
    there_read c.args.s.now c.args.at c.args.end c.read_element.result c.read_element.ensures c.requires.end_in_bounds c.requires.at_le_end c.unwrap.result
    c.unwrap.ensures
