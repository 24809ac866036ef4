use Rattle.std.proofs.Common.{sym, subst}
use Rattle.world.specs.Taking.{HaveTakenTurns}
use Rattle.world.proofs.ReplayLemmas.{settled_stages}
use Rattle.world.proofs.stages.Stages.settle.Goals as goal

pub play_all-requires : goal.play_all-requires
play_all-requires c = subst HaveTakenTurns c.self.view_is (c.self.invariant c.if-self.false)

pub returns-in-Ok-clause-run : goal.returns-in-Ok-clause-run
returns-in-Ok-clause-run c = (settled_stages _ _ c.settled_worlds_are_finished.ensures (subst HaveTakenTurns c.self.view_is (c.self.invariant c.if-self.false)) c.in-Ok.ensures).run

pub returns-in-Ok-clause-finished : goal.returns-in-Ok-clause-finished
returns-in-Ok-clause-finished c = (settled_stages _ _ c.settled_worlds_are_finished.ensures (subst HaveTakenTurns c.self.view_is (c.self.invariant c.if-self.false)) c.in-Ok.ensures).finished
