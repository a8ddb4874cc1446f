use Rattle.std.proofs.Common.{rules, ◌∙◌, ◌+◌}
use Rattle.octets.proofs.Parts.{rest_is}
use Rattle.dns.proofs.Known.{known_length, known_other, known_same}
use Rattle.dns.proofs.wild_matches.Goals.{then-reference-rest, else-reference-rest}
use Rattle.dns.proofs.wild_matches.Goals as goal

pub returns-then-same_text : goal.returns-then-same_text
returns-then-same_text c =
    let r = c.args.reference in
    elim c.if-reference-rest.branch [
      | then-reference-rest w ↦
          known_same r.text.now c.requires r.dot r.at_first_dot c.args.rest.now w.if-reference-rest.true _ (rest_is r.text.now (r.dot + 1)) w.same_text.result w.same_text.ensures (search rules) c.has.result c.has.ensures
      | else-reference-rest w ↦ absurd (search rules)
    ]

pub returns-else-same_text : goal.returns-else-same_text
returns-else-same_text c =
    let r = c.args.reference in
    c.if-same_text.false ∙ elim c.if-reference-rest.branch [
      | then-reference-rest w ↦
          known_other r.text.now c.requires r.dot r.at_first_dot c.args.rest.now w.if-reference-rest.true _ (rest_is r.text.now (r.dot + 1)) w.same_text.result w.same_text.ensures (search rules)
      | else-reference-rest w ↦ known_length r.text.now c.requires r.dot r.at_first_dot c.args.rest.now w.if-reference-rest.false
    ]
