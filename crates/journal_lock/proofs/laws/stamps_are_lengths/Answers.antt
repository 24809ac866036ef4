use Rattle.journal_lock.proofs.Stamps.{stamped_length}
use Rattle.journal_lock.proofs.laws.stamps_are_lengths.Goals as goal

pub returns : goal.returns
returns c = λ load log d fits run. stamped_length load log fits run d
