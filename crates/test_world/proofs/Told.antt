-- What a replay leaves is told.
use Rattle.std.proofs.Common.{◌≡◌, sym, subst}
use Rattle.abstract_log.specs.declared.command.Workload.{Workload}
use Rattle.abstract_log.specs.declared.script.Script.{Script}
use Rattle.abstract_log.specs.Fits.{FitsLimits, FitsScript}
use Rattle.abstract_log.specs.Left.{left_of}
use Rattle.abstract_log.specs.Runs.{world_of}
use Rattle.world.specs.declared.stages.Played.{Played}
use Rattle.world.specs.Replays.{IsReplayed}
use Rattle.test_world.specs.Given.{IsToldWhole}

pub told : (script : Script) (played : Played) → FitsScript script → IsReplayed script played → IsToldWhole played
told script played fits replayed = record {
  limits = subst FitsLimits (sym replayed.workload) fits.limits;
  left = subst (λ (load : Workload). played.left ≡ left_of (world_of load played.run.events)) (sym replayed.workload) replayed.left;
}
