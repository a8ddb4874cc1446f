use Rattle.entries.proofs.Subtrees.{subtree_srv}
use Rattle.entries.proofs.good_other_subtree.Goals as goal

pub returns-then-good_srv : goal.returns-then-good_srv
returns-then-good_srv c =
    subtree_srv c.args.s.now c.args.start c.args.end c.requires.start_le_end c.requires.end_in_bounds c.other_name.result c.other_name.ensures
    c.in-Ok.name c.in-Ok.is c.if-name-ne-SRV_NAME.false c.good_srv.result c.good_srv.ensures c.if-good_srv.true c.restriction.result c.restriction.ensures
