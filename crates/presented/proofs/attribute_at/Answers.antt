use Rattle.presented.proofs.Sets.{attribute_never}
use Rattle.presented.proofs.attribute_at.Goals as goal

pub returns-in_default-2 : goal.returns-in_default-2
returns-in_default-2 c =
    attribute_never c.args.s.now c.args.at c.args.end c.known_element-tag.result.tag c.known_element-tag.result.start c.known_element-tag.result.next
    c.known_element-tag.ensures c.requires.at_lt_end c.requires.run c.attribute.result c.attribute.ensures c.in_default.field-0
    c.in_default.is _
