use Rattle.log_laws.proofs.PendingLemmas.{pending_sound}
use Rattle.log_laws.proofs.laws.pending_is_sound.Goals as goal

pub returns : goal.returns
returns c = λ load events run. pending_sound load events run
