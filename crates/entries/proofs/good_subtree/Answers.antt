use Rattle.entries.proofs.Shapes.{name_fits}
use Rattle.entries.proofs.good_subtree.Goals as goal

pub good_subtree_name-requires-clause-start_le_end : goal.good_subtree_name-requires-clause-start_le_end
good_subtree_name-requires-clause-start_le_end c =
    name_fits c.args.s.now c.args.tag c.args.end c.requires.end_in_bounds c.args.start c.requires.start_le_end c.if-tag-ne48.false
    c.read_element.result c.read_element.ensures c.in-Ok.name c.in-Ok.is
