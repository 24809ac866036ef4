-- Links and datacentres are computed.
use Rattle.std.proofs.Common.{refl}
use Rattle.stage_cases.proofs.a_second_upgrade_is_idle.Goals as goal

pub returns : goal.returns
returns c = record { links = refl; datacentres = refl }
