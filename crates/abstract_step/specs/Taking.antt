-- How a world takes an event.
use Rattle.std.specs.Prelude.{◌≡◌, ℕ, true, Some, IsSomeAnd, Result, MatchResult}
use Rattle.causal_deps.specs.declared.record.Draft.{Draft}
use Rattle.causal_deps.specs.Logs.{sealed}
use Rattle.abstract_log.specs.declared.event.Event.{Event}
use Rattle.abstract_log.specs.declared.world.World.{World}
use Rattle.abstract_step.specs.declared.fault.StepFault.{StepFault}
use Rattle.abstract_step.specs.declared.fault.StepFault.TheVariants.{Refused, NoMemory}
use Rattle.abstract_log.specs.Commands.{is_write}
use Rattle.abstract_log.specs.Worlds.{open_command, standing_of}
use Rattle.abstract_log.specs.Steps.{conditions, written, CanHappen, FirstFails, after}

-- the event is refused by the first condition that fails; want of memory says nothing
abbrev pub IsCause : World → Event → StepFault → Type 0
IsCause w event (Refused place) = FirstFails (conditions w event) place
IsCause w event NoMemory = Unit {0}

-- the event may happen and did, or the world is as it was
abbrev pub Takes : World → Event → Result (Unit {0}) StepFault → World → Type 0
Takes w event result new = MatchResult result (λ _. CanHappen w event × (new ≡ after w event)) (λ fault. IsCause w event fault × (new ≡ w))

-- command k of session s is an open write, and this is its draft
pub record IsDrafted (w : World) (s k : ℕ) (draft : Draft) : Type 0 where
  pub writes : IsSomeAnd (open_command w s k) (λ c. is_write c ≡ true)
  pub past : draft.dep ≡ (standing_of w s).past
  pub sealing : (d toid : ℕ) → written w s k d toid ≡ Some (sealed draft d toid)
