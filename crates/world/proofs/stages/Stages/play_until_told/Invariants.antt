use Rattle.settling_laws.specs.Ending.{most_passes}
use Rattle.stage_world.specs.Settling.{is_unfinished, telling_rounds}
use Rattle.world.specs.Settled.{Plays}
use Rattle.world.proofs.NearerLemmas.{passes_from}
use Rattle.world.proofs.SettledLemmas.{IsSoFar}
use Rattle.world.proofs.stages.Stages.play_until_told.Given as goal

abbrev pub invariant-loop-self : goal.invariant-loop-self
invariant-loop-self l = Plays (IsSoFar is_unfinished telling_rounds) l.initial.self l.self

abbrev pub decreases-loop-self : goal.decreases-loop-self
decreases-loop-self l = passes_from is_unfinished telling_rounds (most_passes l.initial.self.workload) l.self
