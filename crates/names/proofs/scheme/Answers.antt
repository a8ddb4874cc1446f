use Rattle.std.proofs.Common.{rules, tests, length, take, drop, ◌-◌}
use Rattle.std.proofs.lemmas.Iterator.{YieldsList-from_slice}
use Rattle.std.proofs.lemmas.Iterator.Search.{all_from_yields_List}
use Rattle.rules.specs.Names.{scheme_byte}
use Rattle.names.proofs.Laws.{scheme_laws, scheme_rest}
use Rattle.names.proofs.scheme.Goals.{then-is_empty-via-then-is_empty, then-is_empty-via-else-is_empty+then-s-gt63}
use Rattle.names.proofs.scheme.Goals as goal

pub returns-then-is_empty : goal.returns-then-is_empty
returns-then-is_empty c =
    elim c.then-is_empty.branch [
      | then-is_empty-via-then-is_empty w ↦ search (rules, scheme_laws)
      | then-is_empty-via-else-is_empty+then-s-gt63 w ↦ search (rules, scheme_laws)
    ]

pub returns-then-is_letter : goal.returns-then-is_letter
returns-then-is_letter c =
    scheme_rest c.args.s.now (search rules) (search rules) (search rules) c.all.result
    (all_from_yields_List scheme_byte _ _ _ c.all.ensures.ran
    (YieldsList-from_slice (take (length c.args.s.now - 1) (drop 1 c.args.s.now)) cc) (λ x b q k. search (rules, tests)))

pub returns-else-is_letter : goal.returns-else-is_letter
returns-else-is_letter c = search (rules, scheme_laws)
