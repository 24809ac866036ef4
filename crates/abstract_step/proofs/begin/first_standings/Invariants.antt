use Rattle.std.proofs.Common.{◌≡◌, map, take}
use Rattle.abstract_log.specs.Worlds.{first_standing}
use Rattle.abstract_step.proofs.begin.first_standings.Given as goal

abbrev pub invariant-loop-plan : goal.invariant-loop-plan
invariant-loop-plan l = l.sessions ≡ map (λ _. first_standing l.dcs) (take l._plan-index l.plans)
