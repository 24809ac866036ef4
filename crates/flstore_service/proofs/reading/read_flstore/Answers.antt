use Rattle.flstore_service.proofs.ReadLemmas.{fits_read}
use Rattle.flstore_service.proofs.reading.read_flstore.Goals as goal

pub returns-clause-fits : goal.returns-clause-fits
returns-clause-fits c = fits_read _ _ c.read_lines.ensures.ok
