use Rattle.std.proofs.Common.{rules, ◌+◌, length, arith, sym, ◌∙◌}
use Rattle.std.proofs.lemmas.Grind.{common_steps}
use borrow.Author.Tests.{eqb-false}
use Rattle.octets.proofs.Parts.{rest_is}
use Rattle.uri.proofs.Uri.{match_short, match_less, match_no_colon, match_other_scheme, match_no_slashes, match_host}
use Rattle.uri.proofs.scheme_matches.Goals.{then-n-text, else-n-text, then-domain-text, else-domain-text, then-text-n-eq58, else-text-n-eq58}
use Rattle.uri.proofs.scheme_matches.Goals as goal

pub returns-then-same_text : goal.returns-then-same_text
returns-then-same_text c =
    let a = c.args.scheme.now in
    let d = c.args.domain.now in
    let t = c.args.text.now in
    let tail = rest_is t (length a + 1) in
    let none = match_no_slashes a d t in
    let some = match_host a d t c.requires.scheme_value in
    elim c.if-text-n-eq58.branch [
      | then-text-n-eq58 u ↦ elim c.if-domain-text.branch [
        | then-domain-text v ↦ elim c.if-n-text.branch [
          | then-n-text w ↦ grind (arith, common_steps)
          | else-n-text w ↦ absurd (search rules)
        ]
        | else-domain-text v ↦ absurd (search rules)
      ]
      | else-text-n-eq58 u ↦ absurd (search rules)
    ]

pub returns-else-same_text : goal.returns-else-same_text
returns-else-same_text c =
    let a = c.args.scheme.now in
    let d = c.args.domain.now in
    let t = c.args.text.now in
    c.if-same_text.false ∙ elim c.if-n-text.branch [
      | then-n-text u ↦ elim c.if-domain-text.branch [
        | then-domain-text v ↦ elim c.if-text-n-eq58.branch [
          | then-text-n-eq58 w ↦ match_other_scheme a d t w.same_text.result w.same_text.ensures (search rules)
          | else-text-n-eq58 w ↦ match_no_colon a d t (eqb-false _ _ (sym v.value-is ∙ w.if-text-n-eq58.false))
        ]
        | else-domain-text v ↦ match_less a d t (search rules)
      ]
      | else-n-text u ↦ match_short a d t u.if-n-text.false
    ]
