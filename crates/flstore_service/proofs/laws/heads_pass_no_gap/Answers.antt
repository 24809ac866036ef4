use Rattle.flstore_service.proofs.TruthLemmas.{no_gap}
use Rattle.flstore_service.proofs.laws.heads_pass_no_gap.Goals as goal

pub returns : goal.returns
returns c = no_gap
