-- The script is in its ranges; the rest is computed.
use Rattle.stage_cases.proofs.Ranges.{late_in_range}
use Rattle.stage_cases.proofs.a_mark_that_is_late.Goals as goal

pub returns-clause-in_range : goal.returns-clause-in_range
returns-clause-in_range c = late_in_range
