-- Idle turns have no events, kind by kind of turn.
use Rattle.stage_world.proofs.IdleTurns.{idle_is_silent}
use Rattle.stage_world.proofs.laws.idle_turns_have_no_events.Goals as goal

pub returns : goal.returns
returns c = λ w z step h good idle. idle_is_silent w z step h good idle
