use Rattle.world.proofs.TakingLemmas.{run_of}
use Rattle.world.proofs.laws.turns_are_runs.Goals as goal

pub returns : goal.returns
returns c script ts s h = run_of script ts s h
