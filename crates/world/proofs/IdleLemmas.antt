-- Which turns of a stage of one datacentre are idle.
use Rattle.std.proofs.Common.{◌≡◌, ℕ, ◌<◌, Bool, true, false, List, length, map, get_or, set, ap, sym, ◌∙◌}
use Rattle.std.proofs.Math.ListN.{get_or-map}
use Rattle.std.proofs.Math.Seq.{map-set_same}
use Rattle.std.proofs.lemmas.List.{get_or-set_same}
use Rattle.abstract_log.specs.declared.command.Workload.{Workload}
use Rattle.abstract_log.specs.declared.script.Step.{Step}
use Rattle.stage_world.specs.Stages.{Datacentre, Stages}
use Rattle.stage_world.specs.Turns.{Turned}
use Rattle.stage_world.specs.LinkTurns.{moved_at}
use Rattle.abstract_log.specs.Turns.{datacentre_of_step}
use Rattle.stage_world.specs.Schedules.{step_of, turn_of}
use Rattle.stage_world.specs.Whole.{datacentre_at, nowhere_at}
use Rattle.stage_world.specs.Idle.{TellsChange, apart_from_epochs}
use Rattle.world.specs.Showing.{TellsIdle, uses_link}
use Rattle.world.proofs.MovingLemmas.{own_is}

-- a step of a stage of one datacentre is idle where the datacentre is as it was
module _ (load : Workload) (z : Stages) (step : Step) (d : ℕ) (own : uses_link step ≡ false) (at : d ≡ datacentre_of_step load step) (within : d < length z.datacentres) where
  abbrev zs : List Datacentre
  zs = z.datacentres

  abbrev turned : Turned
  turned = turn_of d (datacentre_at z d) step

  is_turned : step_of load z step ≡ moved_at z d turned
  is_turned = own_is load z step own ∙ ap (λ p. moved_at z p (turn_of p (datacentre_at z p) step)) (sym at)

  apart_at : map apart_from_epochs (set zs d turned.after) ≡ map apart_from_epochs zs → apart_from_epochs (datacentre_at z d) ≡ apart_from_epochs turned.after
  apart_at same =
      sym (get_or-map apart_from_epochs zs d nowhere_at) ∙ sym (ap (λ ys. get_or ys d (apart_from_epochs nowhere_at)) same)
      ∙ get_or-map apart_from_epochs (set zs d turned.after) d nowhere_at ∙ ap apart_from_epochs (get_or-set_same zs d turned.after nowhere_at within)

  pub own_told : (changed : Bool) → TellsChange changed (datacentre_at z d) turned.after → TellsIdle load z step changed
  own_told changed tells = record {
    idle = λ no. record {
      links = ap (λ m. m.after.links) is_turned;
      datacentres = ap (λ m. map apart_from_epochs m.after.datacentres) is_turned ∙ map-set_same apart_from_epochs zs d turned.after nowhere_at (sym (tells.same no));
    };
    other = λ yes idle. tells.other yes (apart_at (sym (ap (λ m. map apart_from_epochs m.after.datacentres) is_turned) ∙ idle.datacentres));
  }
