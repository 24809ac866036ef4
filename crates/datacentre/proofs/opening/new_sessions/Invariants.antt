use Rattle.std.proofs.Common.{◌≡◌, ◌++◌, drop}
use Rattle.stage_world.specs.Opening.{sessions_from}
use Rattle.datacentre.proofs.opening.new_sessions.Given as goal

abbrev pub invariant-loop-plan : goal.invariant-loop-plan
invariant-loop-plan l =
    (l.number ≡ l.plan-index)
    × (l.sessions ++ sessions_from l.dcs l.dc l.plan-index (drop l.plan-index l.plans) ≡ sessions_from l.dcs l.dc 0 l.plans)
