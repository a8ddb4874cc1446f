use Rattle.std.proofs.Common.{rules}
use Rattle.pairs.proofs.Search.{sets_begin, set_silent, set_miss}
use Rattle.pairs.proofs.first_cn.Goals.{in_default-via-in-None-1, in_default-via-in-Some+else-dns_matches}
use Rattle.pairs.proofs.first_cn.Goals as goal

pub loop-at-init : goal.loop-at-init
loop-at-init c =
    sets_begin c.args.san.now c.args.subject.now c.args.i _ _ c.requires.san_value c.requires.subject_value c.first_set-at.result c.first_set-at.ensures

pub loop-at-preserved : goal.loop-at-preserved
loop-at-preserved c =
    elim c.in_default.branch [
      | in_default-via-in-None-1 w ↦ search (rules, set_silent)
      | in_default-via-in-Some+else-dns_matches w ↦
          set_miss c.args.san.now c.args.subject.now c.args.i _ _ c.loop-at.at c.loop-at.j c.loop-at.invariant c.loop-at-test.true
          c.set_at-set.result c.set_at-set.ensures w.in-Some.identifier w.in-Some.is _ w.text_at.ensures w.dns_matches.result w.dns_matches.ensures
          w.if-dns_matches.false
    ]
