-- Links and datacentres are computed.
use Rattle.std.proofs.Common.{refl}
use Rattle.stage_cases.proofs.a_send_that_changes_nothing_is_idle.Goals as goal

pub returns-clause-same : goal.returns-clause-same
returns-clause-same c = record { links = refl; datacentres = refl }

pub returns-clause-upgraded : goal.returns-clause-upgraded
returns-clause-upgraded c = record { links = refl; datacentres = refl }
