use Rattle.std.proofs.Common.{rules, tests, ◌∙◌}
use Rattle.std.proofs.lemmas.Iterator.Search.{position_from_yields_List}
use Rattle.rules.specs.Matching.{breaks}
use Rattle.reading.specs.Strings.{read_san, read_constraints}
use Rattle.der.specs.Runs.{names_of}
use Rattle.constrained.proofs.Walks.{all_entries}
use Rattle.constrained.proofs.Entry.{place_first, unrestricted}
use Rattle.constrained.proofs.first_broken.Goals as goal

pub returns-then-not-any-clause-value : goal.returns-then-not-any-clause-value
returns-then-not-any-clause-value c =
    rw (← c.new-restrictions.ensures)
    (unrestricted c.new-restrictions.result c.any.result c.any.ensures c.if-not-any.true (names_of read_san c.args.san.now))

pub returns-clause-value : goal.returns-clause-value
returns-clause-value c =
    let w = c.new-restrictions.result in
    let place =
    position_from_yields_List (breaks (names_of read_constraints w.srv.constraints.now)) _ _ _ c.position.ensures.ran (all_entries c.new.result)
    (λ x b q k. search (rules, tests)) in
    rw (← c.new-restrictions.ensures, ← c.new.ensures.value) (place ∙ place_first (names_of read_constraints w.srv.constraints.now) _)
