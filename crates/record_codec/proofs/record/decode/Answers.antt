use Rattle.record_codec.proofs.Wholes.{record_fits, record_only}
use Rattle.record_codec.proofs.record.decode.Goals as goal

pub returns-clause-only : goal.returns-clause-only
returns-clause-only c = record_only _ _ _ c.whole_record.result c.requires.0 c.requires.1 c.whole_record.ensures.ok c.whole_record.ensures.refused

pub returns-clause-fits : goal.returns-clause-fits
returns-clause-fits c = record_fits _ _ _ c.whole_record.result c.whole_record.ensures.ok
