use Rattle.san_writer.proofs.Putting.{fits_wrapper, fits_oid, fits_value, fits_text, srv_put}
use Rattle.san_writer.proofs.put_srv.Goals as goal

pub put_start-requires-clause-fits : goal.put_start-requires-clause-fits
put_start-requires-clause-fits c = fits_wrapper _ _ _ c.element_size-inner.ensures.0 c.element_size-wrapped.ensures.0 _ _ c.requires.fits

pub put_element-requires-clause-fits : goal.put_element-requires-clause-fits
put_element-requires-clause-fits c = fits_oid _ _ _ c.element_size-inner.ensures.0 c.element_size-wrapped.ensures.0 _ _ c.requires.fits _ _ c.put_start.ensures.put

pub put_start-requires-2-clause-fits : goal.put_start-requires-2-clause-fits
put_start-requires-2-clause-fits c = fits_value _ _ _ c.element_size-inner.ensures.0 c.element_size-wrapped.ensures.0 _ _ c.requires.fits _ _ c.put_start.ensures.put _ _ c.put_element.ensures.put

pub put_element-requires-2-clause-fits : goal.put_element-requires-2-clause-fits
put_element-requires-2-clause-fits c = fits_text _ _ _ c.element_size-inner.ensures.0 c.element_size-wrapped.ensures.0 _ _ c.requires.fits _ _ c.put_start.ensures.put _ _ c.put_element.ensures.put _ _ c.put_start-2.ensures.put

pub returns-clause-put : goal.returns-clause-put
returns-clause-put c = srv_put _ _ _ c.element_size-inner.ensures.0 c.element_size-wrapped.ensures.0 _ _ c.requires.fits _ _ c.put_start.ensures.put _ _ c.put_element.ensures.put _ _ c.put_start-2.ensures.put _ _ c.put_element-2.ensures.put
