-- What follows where a world took an event.
use Rattle.std.proofs.Common.{◌≡◌, ℕ, Result, Ok, Err, OnOk, OnErr, sym, subst}
use Rattle.abstract_log.specs.declared.event.Event.{Event}
use Rattle.abstract_log.specs.declared.world.World.{World}
use Rattle.abstract_step.specs.declared.fault.StepFault.{StepFault}
use Rattle.abstract_step.specs.declared.fault.StepFault.TheVariants.{Refused, NoMemory}
use Rattle.abstract_log.specs.Steps.{conditions, CanHappen, FirstFails, after}
use Rattle.abstract_log.specs.Shapes.{IsShaped}
use Rattle.abstract_step.specs.Taking.{Takes}
use Rattle.abstract_log.proofs.ShapesLemmas.{shape_kept}

module _ (w : World) (e : Event) where
  pub happened : (r : Result (Unit {0}) StepFault) (v : World) → Takes w e r v → OnOk r (CanHappen w e)
  happened (Ok x) v h = h.0
  happened (Err f) v h = tt

  pub moved : (r : Result (Unit {0}) StepFault) (v : World) → Takes w e r v → OnOk r (v ≡ after w e)
  moved (Ok x) v h = h.1
  moved (Err f) v h = tt

  pub stayed : (r : Result (Unit {0}) StepFault) (v : World) → Takes w e r v → OnErr r (v ≡ w)
  stayed (Ok x) v h = tt
  stayed (Err f) v h = h.1

  pub refused : (r : Result (Unit {0}) StepFault) (v : World) → Takes w e r v → (place : ℕ) → r ≡ Err (Refused place) → FirstFails (conditions w e) place
  refused (Ok x) v h place is = cc
  refused (Err (Refused n)) v h place is = let same : n ≡ place = cc in let P : ℕ → Type 0 = λ m. FirstFails (conditions w e) m in subst P same h.0
  refused (Err NoMemory) v h place is = cc

  pub shaped : (r : Result (Unit {0}) StepFault) (v : World) → Takes w e r v → IsShaped w → IsShaped v
  shaped (Ok x) v h s = subst IsShaped (sym h.1) (shape_kept w e s h.0)
  shaped (Err f) v h s = subst IsShaped (sym h.1) s
