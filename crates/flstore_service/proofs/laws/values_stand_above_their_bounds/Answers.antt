use Rattle.flstore_service.proofs.OnceLemmas.{stands_above}
use Rattle.flstore_service.proofs.laws.values_stand_above_their_bounds.Goals as goal

pub returns : goal.returns
returns c = λ script steps. stands_above script.round script.maintainers steps
