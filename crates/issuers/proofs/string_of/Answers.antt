use Rattle.std.proofs.Common.{rules, arith, sym, ◌≡◌, ◌∙◌, ◌<◌, length, take, true}
use Rattle.std.specs.List as list
use Rattle.rules.specs.Seen.{lengths_fit}
use Rattle.issuers.specs.Strings.{sum_split, start_of, fit_sum}
use Rattle.issuers.proofs.Laws.{sum_std, of_fits, of_place}
use Rattle.issuers.proofs.string_of.Goals as goal

pub sum-start-requires-clause-fits : goal.sum-start-requires-clause-fits
unfolding start_of
sum-start-requires-clause-fits c =
    let fit : lengths_fit c.args.lengths.now (length c.args.bytes.now) ≡ true = sym c.lengths_fit.ensures ∙ c.if-not-lengths_fit.false in
    let fits : list.sum (take c.args.k c.args.lengths.now) < 18446744073709551616 =
    omega (arith, sum_std (take c.args.k c.args.lengths.now), sum_split c.args.lengths.now c.args.k, fit_sum _ _ fit) in
    search rules

pub overflow_add-result : goal.overflow_add-result
overflow_add-result c =
    let fit : lengths_fit c.args.lengths.now (length c.args.bytes.now) ≡ true = sym c.lengths_fit.ensures ∙ c.if-not-lengths_fit.false in
    let start : c.sum-start.result ≡ list.sum (take c.args.k c.args.lengths.now) = search rules in
    omega (arith, of_fits _ _ _ fit (omega arith) _ start)

pub slice_bounds-result-end-2 : goal.slice_bounds-result-end-2
slice_bounds-result-end-2 c =
    let fit : lengths_fit c.args.lengths.now (length c.args.bytes.now) ≡ true = sym c.lengths_fit.ensures ∙ c.if-not-lengths_fit.false in
    let start : c.sum-start.result ≡ list.sum (take c.args.k c.args.lengths.now) = search rules in
    omega (arith, of_fits _ _ _ fit (omega arith) _ start)

pub returns : goal.returns
returns c =
    let fit : lengths_fit c.args.lengths.now (length c.args.bytes.now) ≡ true = sym c.lengths_fit.ensures ∙ c.if-not-lengths_fit.false in
    let start : c.sum-start.result ≡ list.sum (take c.args.k c.args.lengths.now) = search rules in
    of_place _ _ _ fit (omega arith) _ start
