-- What each function of the crate returns, by its own tests.
use Rattle.entries.proofs.Others.{srv_oid_long, srv_oid_is, other_no_oid, oid_body, oid_rest, oid_fits, other_empty, other_no_inner, inner_fits, other_open, other_no_value, other_value_open, other_is}
use Rattle.entries.proofs.Shapes.{shape_other, shape_plain, kind_0_c, kind_13, kind_16, kind_cn, kind_other, attribute_tag, attribute_no_oid, attribute_empty, attribute_no_value, attribute_open, attribute_is, subtree_tag, subtree_none, name_fits, subtree_open, subtree_is}
use Rattle.entries.proofs.Rules.{sealed_87, sealed_88, sealed_a3, sealed_a4, sealed_a5, srv_tag, srv_empty, srv_ascii, good_malformed, text_fits, good_srv_is, good_other_is, good_other_tag, good_part, good_sealed, good_text, good_unknown}
use Rattle.entries.proofs.Subtrees.{subtree_malformed, subtree_srv_bad, subtree_srv, subtree_other, name_other, name_dns, name_plain, good_subtree_tag, good_subtree_none, good_subtree_open, good_subtree_is}
use Rattle.entries.proofs.Whole.{whole_found, start_within, tag_other_text, tag_here, srv_not_other, srv_few, srv_other_length, srv_other_oid, srv_here, long_formed, long_srv, long_other, form_srv, form_dns, as_number}

pub ruleset laws = (
  srv_oid_long,
  srv_oid_is,
  other_no_oid,
  oid_body,
  oid_rest,
  oid_fits,
  other_empty,
  other_no_inner,
  inner_fits,
  other_open,
  other_no_value,
  other_value_open,
  other_is,
  shape_other,
  shape_plain,
  kind_0_c,
  kind_13,
  kind_16,
  kind_cn,
  kind_other,
  attribute_tag,
  attribute_no_oid,
  attribute_empty,
  attribute_no_value,
  attribute_open,
  attribute_is,
  subtree_tag,
  subtree_none,
  name_fits,
  subtree_open,
  subtree_is,
  sealed_87,
  sealed_88,
  sealed_a3,
  sealed_a4,
  sealed_a5,
  srv_tag,
  srv_empty,
  srv_ascii,
  good_malformed,
  text_fits,
  good_srv_is,
  good_other_is,
  good_other_tag,
  good_part,
  good_sealed,
  good_text,
  good_unknown,
  subtree_malformed,
  subtree_srv_bad,
  subtree_srv,
  subtree_other,
  name_other,
  name_dns,
  name_plain,
  good_subtree_tag,
  good_subtree_none,
  good_subtree_open,
  good_subtree_is,
  whole_found,
  start_within,
  tag_other_text,
  tag_here,
  srv_not_other,
  srv_few,
  srv_other_length,
  srv_other_oid,
  srv_here,
  long_formed,
  long_srv,
  long_other,
  form_srv,
  form_dns,
  as_number,
)

-- of an otherName, of an attribute, and of a subtree
pub ruleset others = (
  other_no_oid,
  oid_body,
  oid_rest,
  oid_fits,
  other_empty,
  other_no_inner,
  inner_fits,
  other_open,
  other_no_value,
  other_value_open,
  other_is,
)

pub ruleset attributes = (
  oid_body,
  oid_rest,
  oid_fits,
  attribute_tag,
  attribute_no_oid,
  attribute_empty,
  attribute_no_value,
  attribute_open,
  attribute_is,
)

pub ruleset subtrees = (subtree_tag, subtree_none, name_fits, subtree_open, subtree_is)

-- of the rules of a subtree
pub ruleset good_subtrees = (name_fits, good_subtree_tag, good_subtree_none, good_subtree_open, good_subtree_is)

pub ruleset restrictions = (text_fits, subtree_malformed, subtree_srv_bad, subtree_srv, subtree_other)
