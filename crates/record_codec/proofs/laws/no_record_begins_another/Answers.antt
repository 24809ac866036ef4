use Rattle.record_codec.proofs.Wholes.{record_law}
use Rattle.record_codec.proofs.laws.no_record_begins_another.Goals as goal

pub returns : goal.returns
returns c = record_law
