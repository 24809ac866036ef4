-- The script is in its ranges; the rest is computed.
use Rattle.stage_cases.proofs.Ranges.{asked_in_range}
use Rattle.stage_cases.proofs.a_session_asks_for_what_is_not_there.Goals as goal

pub returns-clause-in_range : goal.returns-clause-in_range
returns-clause-in_range c = asked_in_range
