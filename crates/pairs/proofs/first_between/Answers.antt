use Rattle.std.proofs.Common.{rules, refl, sym, ◌∙◌}
use Rattle.pairs.proofs.Search.{not_cn, none_there, cn_passed, names_begin, names_passed, name_silent, name_text_lem, name_start, name_miss, name_hit, name_fits}
use Rattle.pairs.proofs.first_between.Goals.{in_default-2-via-in-None-1, in_default-2-via-in-Some+else-text_matches, in-Cn+else-is_some, in_default+else-loop-at-test}
use Rattle.pairs.proofs.first_between.Goals as goal

pub loop-at-init : goal.loop-at-init
loop-at-init c =
    let inv = c.pairs.invariant in (
      inv.0,
      names_begin _ _ _ _ _ _ inv.1 c.pairs-test.true c.requires.san_value c.args.table c.requires.filters _
          (not_cn c.reference_at-r.result.kind c.in_default.not-Cn) _ _ c.reference_at-r.ensures c.names_start-start.result c.names_start-start.ensures _ refl
          c.first_entry-at.result c.first_entry-at.ensures,
    )

pub slice_bounds-text_matches-count : goal.slice_bounds-text_matches-count
slice_bounds-text_matches-count c =
    name_text_lem _ _ _ _ _ _ _ _ _ _ _ _ c.loop-at.invariant.1 c.loop-at-test.true _ c.element_end-next.ensures _ c.text_for.ensures _ c.in-Some.is

pub slice_bounds-text_matches-start : goal.slice_bounds-text_matches-start
slice_bounds-text_matches-start c =
    let room =
    name_text_lem _ _ _ _ _ _ _ _ _ _ _ _ c.loop-at.invariant.1 c.loop-at-test.true _ c.element_end-next.ensures _ c.text_for.ensures _ c.in-Some.is in
    search rules

pub shown-requires : goal.shown-requires
shown-requires c = record {
  at_le_next =
      name_start _ _ _ _ _ _ _ _ _ _ _ _ c.loop-at.invariant.1 c.loop-at-test.true _ c.element_end-next.ensures _ c.text_for.ensures _ c.in-Some.is;
  text_le_next =
      name_text_lem _ _ _ _ _ _ _ _ _ _ _ _ c.loop-at.invariant.1 c.loop-at-test.true _ c.element_end-next.ensures _ c.text_for.ensures _ c.in-Some.is;
}

pub loop-at-preserved : goal.loop-at-preserved
loop-at-preserved c =
    elim c.in_default-2.branch [
      | in_default-2-via-in-None-1 w ↦ (c.loop-at.invariant.0, search (rules, name_silent))
      | in_default-2-via-in-Some+else-text_matches w ↦ (
        c.loop-at.invariant.0,
        name_miss _ _ _ _ _ _ _ _ _ _ _ _ c.loop-at.invariant.1 c.loop-at-test.true _ c.element_end-next.ensures _ c.text_for.ensures _ w.in-Some.is
            w.text_matches.result w.text_matches.ensures w.if-text_matches.false,
      )
    ]

pub pairs-preserved : goal.pairs-preserved
pairs-preserved c =
    elim c.match-r.branch [
      | in-Cn+else-is_some w ↦
          let none = none_there _ (sym w.is_some.ensures ∙ w.if-is_some.false) in (
            w.found-is ∙ none,
            cn_passed _ _ _ _ _ _ c.pairs.invariant.1 c.pairs-test.true _ _ (rw w.in-Cn.is at c.reference_at-r.ensures) w.first_cn-found.result
                w.first_cn-found.ensures.value none,
          )
      | in_default+else-loop-at-test w ↦ (
        w.found-is ∙ w.loop-at.invariant.0,
        names_passed _ _ _ _ _ _ _ _ _ _ _ _ w.loop-at.invariant.1 w.loop-at-test.false,
      )
    ]

pub returns-then-text_matches : goal.returns-then-text_matches
returns-then-text_matches c = record {
  value =
      name_hit _ _ _ _ _ _ _ _ _ _ _ _ c.loop-at.invariant.1 c.loop-at-test.true _ c.element_end-next.ensures _ c.text_for.ensures _ c.in-Some.is
      c.text_matches.result c.text_matches.ensures c.if-text_matches.true c.shown.result c.shown.ensures c.witness.result c.witness.ensures;
  held_fits =
      name_fits _ _ _ _ _ _ _ _ _ _ _ _ c.loop-at.invariant.1 c.loop-at-test.true _ c.element_end-next.ensures _ c.text_for.ensures _ c.in-Some.is
      c.text_matches.result c.text_matches.ensures c.if-text_matches.true c.shown.result c.shown.ensures c.witness.result c.witness.ensures;
}
