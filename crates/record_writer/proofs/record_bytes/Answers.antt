use Rattle.std.proofs.Common.{rules, arith}
use Rattle.record_writer.proofs.Blank.{fits_service, fits_domain, built}
use Rattle.record_writer.proofs.record_bytes.Goals as goal

pub put_text-requires : goal.put_text-requires
put_text-requires c = fits_service c.args.kind _ _ c.requires.0 c.requires.1

pub put_text-requires-2 : goal.put_text-requires-2
put_text-requires-2 c = fits_domain c.args.kind _ _ c.requires.0 c.requires.1 _ _ c.put_text.ensures.put _ (omega arith)

pub returns : goal.returns
returns c =
    let put = built c.args.kind _ _ c.requires.0 c.requires.1 _ _ c.put_text.ensures.put _ _ c.put_text-2.ensures.put in
    search rules
