use Rattle.flstore_service.proofs.OnceLemmas.{stands_once}
use Rattle.flstore_service.proofs.laws.each_value_stands_or_waits_once.Goals as goal

pub returns : goal.returns
returns c = λ script steps n. stands_once script.round script.maintainers steps n
