use Rattle.std.proofs.Common.{rules, ◌+◌, sym, ◌∙◌}
use Rattle.octets.proofs.Parts.{rest_is}
use Rattle.srv.proofs.Subtree.{id_dot, id_first, id_free, subtree_domain, subtree_service, subtree_both, subtree_other_service, subtree_other_domain}
use Rattle.srv.proofs.in_subtree.Goals.{then-subtree-first-eq46, else-subtree-first-eq46}
use Rattle.srv.proofs.in_subtree.Goals as goal

pub slice_bounds-domain-count : goal.slice_bounds-domain-count
slice_bounds-domain-count c = search (rules, id_dot)

pub slice_bounds-domain-start : goal.slice_bounds-domain-start
slice_bounds-domain-start c = search (rules, id_dot)

pub slice_bounds-service-count : goal.slice_bounds-service-count
slice_bounds-service-count c = search (rules, id_first)

pub slice_bounds-service-start : goal.slice_bounds-service-start
slice_bounds-service-start c = search (rules, id_first)

pub service_is-requires : goal.service_is-requires
service_is-requires c = search (rules, id_free)

pub service_is-requires-then-domain_within : goal.service_is-requires-then-domain_within
service_is-requires-then-domain_within c = search (rules, id_free)

pub returns-then-is_none : goal.returns-then-is_none
returns-then-is_none c =
    let name = c.args.name in
    (rw (rest_is name.text.now (name.dot + 1)) at c.domain_within.ensures)
    ∙ sym (subtree_domain name.text.now c.requires name.dot name.at_first_dot c.args.subtree.now (search rules))

pub returns-then-subtree-first : goal.returns-then-subtree-first
returns-then-subtree-first c =
    let name = c.args.name in
    subtree_service name.text.now c.requires name.dot name.at_first_dot c.args.subtree.now (search rules) c.service_is.result c.service_is.ensures c.if-subtree-first.true

pub returns-then-domain_within : goal.returns-then-domain_within
returns-then-domain_within c =
    let name = c.args.name in
    elim c.if-subtree-first-eq46.branch [
      | then-subtree-first-eq46 w ↦
          let e = rw (rest_is c.args.subtree.now (name.dot + 1), rest_is name.text.now (name.dot + 1)) at w.domain_within-then-subtree-first-eq46.ensures in
          subtree_both name.text.now c.requires name.dot name.at_first_dot c.args.subtree.now (search rules) c.service_is-then-domain_within.result c.service_is-then-domain_within.ensures c.if-subtree-first.false
          (sym e ∙ sym w.value-is ∙ c.if-domain_within.true)
      | else-subtree-first-eq46 w ↦ absurd (search rules)
    ]

pub returns-else-domain_within : goal.returns-else-domain_within
returns-else-domain_within c =
    let name = c.args.name in
    c.if-domain_within.false ∙ elim c.if-subtree-first-eq46.branch [
      | then-subtree-first-eq46 w ↦
          let e = rw (rest_is c.args.subtree.now (name.dot + 1), rest_is name.text.now (name.dot + 1)) at w.domain_within-then-subtree-first-eq46.ensures in
          subtree_other_domain name.text.now c.requires name.dot name.at_first_dot c.args.subtree.now (search rules) c.if-subtree-first.false
          (sym e ∙ sym w.value-is ∙ c.if-domain_within.false)
      | else-subtree-first-eq46 w ↦
          subtree_other_service name.text.now c.requires name.dot name.at_first_dot c.args.subtree.now (search rules) c.if-subtree-first.false w.if-subtree-first-eq46.false
    ]
