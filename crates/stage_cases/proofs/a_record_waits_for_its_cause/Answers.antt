-- The script is in its ranges; the rest is computed.
use Rattle.stage_cases.proofs.Ranges.{cause_in_range}
use Rattle.stage_cases.proofs.a_record_waits_for_its_cause.Goals as goal

pub returns-clause-in_range : goal.returns-clause-in_range
returns-clause-in_range c = cause_in_range
