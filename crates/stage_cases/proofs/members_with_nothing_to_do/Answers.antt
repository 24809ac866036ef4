-- The script is in its ranges; the rest is computed.
use Rattle.stage_cases.proofs.Ranges.{idle_in_range}
use Rattle.stage_cases.proofs.members_with_nothing_to_do.Goals as goal

pub returns-clause-in_range : goal.returns-clause-in_range
returns-clause-in_range c = idle_in_range
