use Rattle.std.proofs.Common.{sym, ◌∙◌}
use Rattle.listing.proofs.Table.{list_refused, list_fits}
use Rattle.listing.proofs.list.Goals as goal

pub fill-requires : goal.fill-requires
fill-requires c =
    let plan = sym c.planned.ensures ∙ c.in-Ok.is in
    (list_fits c.args.which c.args.bytes c.args.table.now _ plan).rows

pub returns-in-Ok : goal.returns-in-Ok
returns-in-Ok c =
    let plan = sym c.planned.ensures ∙ c.in-Ok.is in
    let names = list_fits c.args.which c.args.bytes c.args.table.now _ plan in
    (names.listing, c.fill.ensures ∙ names.filled)

pub returns-in-Err : goal.returns-in-Err
returns-in-Err c =
    let plan = sym c.planned.ensures ∙ c.in-Err.is in
    rw c.into.ensures (list_refused c.args.which c.args.bytes c.args.table.now _ plan)
