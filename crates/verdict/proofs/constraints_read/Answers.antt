use Rattle.std.proofs.Common.{rules, tests, false}
use Rattle.std.proofs.lemmas.Iterator.Search.{all_from_yields_List}
use Rattle.rules.specs.Bytes.{cut}
use Rattle.reading.specs.Strings.{read_constraints}
use Rattle.der.specs.Runs.{validated}
use Rattle.verdict.proofs.Laws.{all_strings, these_strings, read_each, read_never}
use Rattle.verdict.proofs.constraints_read.Goals as goal

pub returns-in-Some : goal.returns-in-Some
returns-in-Some c =
    let s = c.in-Some.strings in
    read_each c.args.constraints.now c.args.lengths.now c.requires (cut s.lengths.now s.bytes.now)
    (these_strings c.args.constraints.now c.args.lengths.now c.strings_of.result c.strings_of.ensures s c.in-Some.is) c.all.result
    (all_from_yields_List {s = s} (validated read_constraints) c.all.new.self _ _ c.all.ensures.ran
    (all_strings s) (λ x b q k. search (rules, tests)))

pub returns-in-None : goal.returns-in-None
returns-in-None c = read_never c.args.constraints.now c.args.lengths.now c.requires c.in-None.ensures false
