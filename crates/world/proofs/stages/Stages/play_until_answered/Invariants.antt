use Rattle.stage_world.specs.Settling.{answering_rounds, is_answering}
use Rattle.world.specs.Settled.{Plays}
use Rattle.world.proofs.NearerLemmas.{passes_from, work_left}
use Rattle.world.proofs.SettledLemmas.{IsSoFar}
use Rattle.world.proofs.stages.Stages.play_until_answered.Given as goal

abbrev pub invariant-loop-self : goal.invariant-loop-self
invariant-loop-self l = Plays (IsSoFar is_answering answering_rounds) l.initial.self l.self

abbrev pub decreases-loop-self : goal.decreases-loop-self
decreases-loop-self l = passes_from is_answering answering_rounds (work_left l.initial.self) l.self
