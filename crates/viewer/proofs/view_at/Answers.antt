use Rattle.std.proofs.Common.{rules, refl, sym, ◌∙◌, tests}
use Rattle.viewer.proofs.Finding.{view_refused, view_shows, view_ends, past_fits, walk_finds}
use Rattle.viewer.proofs.view_at.Goals as goal

pub returns-in_default : goal.returns-in_default
returns-in_default c = view_refused c.args.which _ refl c.args.der _ c.opened.ensures _ c.in_default.is c.args.at

pub overflow_add-result : goal.overflow_add-result
overflow_add-result c =
    let find = walk_finds {s = c.in-Ok.names.rows} c.args.at c.find.new.self _ c.find.result c.find.ensures.ran (λ x b q k. search (rules, tests)) in
    let fits = past_fits c.args.which _ refl c.args.der _ c.opened.ensures _ c.in-Ok.is c.args.at c.in-Some.row (sym find ∙ c.in-Some.is) in
    search rules

pub returns-in-Some : goal.returns-in-Some
returns-in-Some c =
    let find = walk_finds {s = c.in-Ok.names.rows} c.args.at c.find.new.self _ c.find.result c.find.ensures.ran (λ x b q k. search (rules, tests)) in
    view_shows c.args.which _ refl c.args.der _ c.opened.ensures _ c.in-Ok.is c.args.at c.in-Some.row (sym find ∙ c.in-Some.is)

pub returns-in-None : goal.returns-in-None
returns-in-None c =
    let find = walk_finds {s = c.in-Ok.names.rows} c.args.at c.find.new.self _ c.find.result c.find.ensures.ran (λ x b q k. search (rules, tests)) in
    view_ends c.args.which _ refl c.args.der _ c.opened.ensures _ c.in-Ok.is c.args.at (sym find ∙ c.in-None.is)
