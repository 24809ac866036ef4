-- The script is in its ranges; the rest is computed.
use Rattle.stage_cases.proofs.Ranges.{handed_in_range}
use Rattle.stage_cases.proofs.a_new_filter_takes_over.Goals as goal

pub returns-clause-in_range : goal.returns-clause-in_range
returns-clause-in_range c = handed_in_range
