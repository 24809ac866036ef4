use Rattle.std.proofs.Common.{◌≡◌, ◌++◌, map, take}
use Rattle.abstract_log.specs.declared.script.Step.TheVariants.{Client}
use Rattle.stage_world.specs.Stages.{Session}
use Rattle.world.proofs.rounds.add_clients.Given as goal

abbrev pub invariant-loop-session : goal.invariant-loop-session
invariant-loop-session l = l.steps ≡ l.initial.steps ++ map (λ (x : Session). Client x.number) (take l.session-index l.sessions)
