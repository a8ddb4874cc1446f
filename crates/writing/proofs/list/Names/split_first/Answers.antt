use Rattle.std.proofs.Common.{rules, arith, ap, ◌∙◌, ◌≡◌, ◌<◌, ◌*◌, suc, length}
use Rattle.std.specs.List as list
use Rattle.writing.proofs.Cutting.{sum_parts, sum_std}
use Rattle.writing.proofs.list.Names.split_first.Goals as goal

pub sum-requires-clause-fits : goal.sum-requires-clause-fits
sum-requires-clause-fits c =
    let parts = sum_parts _ _ _ _ c.split_at.ensures.front c.split_at.ensures.back in
    let fits : list.sum c.split_at.result.0.now < 18446744073709551616 = omega (arith, parts, sum_std c.split_at.result.0.now, c.args.self.whole) in
    search rules

pub split_at-requires-2 : goal.split_at-requires-2
split_at-requires-2 c =
    let parts = sum_parts _ _ _ _ c.split_at.ensures.front c.split_at.ensures.back in
    let is : c.sum.result ≡ list.sum c.split_at.result.0.now = search rules in
    omega (arith, parts, sum_std c.split_at.result.0.now, c.args.self.whole, is)

pub invariant_of-name : goal.invariant_of-name
invariant_of-name c =
    let is : c.sum.result ≡ list.sum c.split_at.result.0.now = search rules in
    record { whole = omega (arith, sum_std c.split_at.result.0.now, is, c.split_at-2.ensures.front_len) }

pub invariant_of-others : goal.invariant_of-others
invariant_of-others c =
    let parts = sum_parts _ _ _ _ c.split_at.ensures.front c.split_at.ensures.back in
    let is : c.sum.result ≡ list.sum c.split_at.result.0.now = search rules in
    let kinds : length c.args.self.kinds.now ≡ suc (length c.in_ok-kind.kinds.now) = search rules in
    record {
      many = omega (arith, c.args.self.many ∙ ap (λ n. c.args.self.per * n) kinds, c.split_at.ensures.back_len);
      whole = omega (arith, parts, sum_std c.split_at.result.0.now, c.args.self.whole, is, c.split_at-2.ensures.back_len);
    }
