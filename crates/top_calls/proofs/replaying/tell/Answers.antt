use Rattle.top_calls.proofs.ScriptFits.{all_fit_are_steps}
use Rattle.top_calls.proofs.replaying.tell.Goals as goal

pub replay-requires-clause-steps : goal.replay-requires-clause-steps
replay-requires-clause-steps c = all_fit_are_steps _ _ c.requires.steps
