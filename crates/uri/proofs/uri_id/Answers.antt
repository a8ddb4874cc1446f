use Rattle.std.proofs.Common.{rules, ◌+◌, arith, sym, ◌∙◌}
use Rattle.std.proofs.lemmas.Grind.{common_steps}
use Rattle.octets.proofs.Parts.{rest_is}
use Rattle.uri.proofs.Uri.{uri_no_colon, uri_no_scheme, uri_no_slashes, uri_hosted}
use Rattle.uri.proofs.uri_id.Goals.{then-n-s, else-n-s}
use Rattle.uri.proofs.uri_id.Goals as goal

pub returns-then-scheme : goal.returns-then-scheme
returns-then-scheme c =
    let s = c.args.s.now in
    let n = c.find-n.result in
    let tail = rest_is s (n + 1) in
    let none = uri_no_slashes s n (search rules) in
    let some = uri_hosted s n (search rules) in
    elim c.if-n-s.branch [
      | then-n-s w ↦ grind (arith, common_steps)
      | else-n-s w ↦ absurd (search rules)
    ]

pub returns-else-scheme : goal.returns-else-scheme
returns-else-scheme c =
    c.if-scheme.false ∙ elim c.if-n-s.branch [
      | then-n-s w ↦ uri_no_scheme c.args.s.now c.find-n.result (search rules) (sym w.scheme.ensures ∙ search rules)
      | else-n-s w ↦ uri_no_colon c.args.s.now c.find-n.result (search rules) w.if-n-s.false
    ]
