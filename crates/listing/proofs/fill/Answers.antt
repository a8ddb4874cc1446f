use Rattle.std.proofs.Common.{rules, ◌<◌, ◌^◌, length, ◌∙◌, arith, length-append}
use mathlib.Core.Logic.{inl}
use Rattle.steps.specs.Rows.{rows_left}
use Rattle.listing.proofs.Table.{turn_takes, all_taken, set_next, length_filled}
use Rattle.listing.proofs.fill.Goals as goal

pub loop-i-init-derived : goal.loop-i-init-derived
loop-i-init-derived c =
    let small : length c.args.table.now < 2 ^ 64 = search rules in
    ((tt, tt, inl (rw (c.into_iter-i-iterator.ensures.into_iter_gives, c.enumerate-i-items.ensures.count, c.enumerate-i-items.ensures.source) (omega (arith, c.requires, small)))), tt)

-- the row is the next, and the table has room for it
pub bounds-table-i : goal.bounds-table-i
bounds-table-i c =
    let rows = rows_left c.args.rows in
    let turn = turn_takes rows c.into_iter-i-iterator.result c.loop-i.i-iterator c.next.new.self (cc) (cc) c.loop-i.yielded c.loop-i.yielded_by _ _ c.in-Some.is c.next.ensures.steps in
    rw (turn.1, c.loop-i.invariant, length_filled (length c.loop-i.yielded) rows c.args.table.now (omega (arith, turn.0)) (omega (arith, turn.0, c.requires))) (omega (arith, turn.0, c.requires))

pub offset_bounds-table-i : goal.offset_bounds-table-i
offset_bounds-table-i c =
    let below : c.in-Some.i < length c.loop-i.table = bounds-table-i c in
    search rules

pub loop-i-preserved : goal.loop-i-preserved
loop-i-preserved c =
    let rows = rows_left c.args.rows in
    let turn = turn_takes rows c.into_iter-i-iterator.result c.loop-i.i-iterator c.next.new.self (cc) (cc) c.loop-i.yielded c.loop-i.yielded_by _ _ c.in-Some.is c.next.ensures.steps in
    rw (turn.1, c.loop-i.invariant, length-append) (set_next (length c.loop-i.yielded) rows c.args.table.now c.in-Some.row turn.0 turn.2 (omega (arith, turn.0, c.requires)))

pub returns : goal.returns
returns c =
    c.loop-i.invariant
    ∙ all_taken (rows_left c.args.rows) c.into_iter-i-iterator.result c.loop-i.i-iterator c.next.new.self (cc) (cc) c.loop-i.yielded c.loop-i.yielded_by _ c.in-None.is c.next.ensures.steps c.args.table.now
