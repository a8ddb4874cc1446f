use Rattle.std.proofs.Common.{rules, ◌≡◌, ◌∷◌}
use Rattle.rules.specs.Bytes.{cut}
use Rattle.issuers.proofs.Laws.{cut_none, cut_next}
use Rattle.issuers.proofs.cut.StringsIterator.next.Goals as goal

pub returns-in_err-length-clause-steps : goal.returns-in_err-length-clause-steps
returns-in_err-length-clause-steps c =
    let none = cut_none _ c.args.self.now.bytes.now c.in_err-length.ensures.cases in
    rw c.from_residual.ensures (none, none)

pub returns-clause-steps : goal.returns-clause-steps
returns-clause-steps c = cut_next _ _ _ _ c.in_ok-length.ensures.cases.0 _ _ c.split_at.ensures.front c.split_at.ensures.back

pub returns-clause-goes : goal.returns-clause-goes
returns-clause-goes c =
    let e : cut c.args.self.now.lengths.now c.args.self.now.bytes.now ≡ c.split_at.result.0.now ∷ cut c.in_ok-length.lengths.now c.split_at.result.1.now =
    cut_next _ _ _ _ c.in_ok-length.ensures.cases.0 _ _ c.split_at.ensures.front c.split_at.ensures.back in
    search rules
