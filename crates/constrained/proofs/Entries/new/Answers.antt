use Rattle.std.proofs.Common.{rules, ◌≡◌}
use Rattle.der.specs.Runs.{content_start}
use Rattle.constrained.proofs.Entry.{start_ok, start_err, san_run, san_left}
use Rattle.constrained.proofs.Entries.new.Goals as goal
use Rattle.constrained.proofs.Entries.new.Goals.{in-Ok, in-Err}

pub invariant_of-result : goal.invariant_of-result
invariant_of-result c =
    let k : c.match-read_element.at ≡ content_start c.args.san.now =
    elim c.match-read_element.branch [ in-Ok w ↦ search (rules, start_ok) | in-Err w ↦ search (rules, start_err) ] in
    record { run = san_run c.args.san.now c.requires c.match-read_element.at k }

pub returns-clause-value : goal.returns-clause-value
returns-clause-value c =
    let k : c.match-read_element.at ≡ content_start c.args.san.now =
    elim c.match-read_element.branch [ in-Ok w ↦ search (rules, start_ok) | in-Err w ↦ search (rules, start_err) ] in
    san_left c.args.san.now c.requires _ (cc) k (cc)
