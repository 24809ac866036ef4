-- What holds of the service between steps.
use Rattle.std.specs.Prelude.{◌≡◌, ℕ, ◌+◌, ◌*◌, ◌<◌, ◌≤◌, ◌^◌, length, Some, slice_get}
use Rattle.flstore_rounds.specs.Epochs.{EpochList, IsEpochList, IsPrefix, IsSettled, last_epoch}
use Rattle.maintainer.specs.Maintainers.{IsFilled}
use Rattle.cz_base.specs.declared.limits.TheConstants.{STEPS}
use Rattle.flstore_service.specs.declared.service.Member.{Member}
use Rattle.flstore_service.specs.declared.service.Service.{Service}

-- a maintainer has its number and all epochs, nothing above the greatest position, and its vector's list has begun
pub record IsSoundMember (s : Service) (m : ℕ) (member : Member) : Type 0 where
  pub number : member.appender.maintainer.number ≡ m
  pub epochs : member.appender.maintainer.epochs ≡ s.epochs
  pub below : (p : ℕ) → IsFilled member.appender.maintainer p → p ≤ s.top
  pub waits : length member.appender.waiting ≤ s.count
  pub vector : IsPrefix member.vector.epochs s.epochs

-- after so many steps at most: an append gives no more positions than steps were taken, each near the one before
pub record IsServing (s : Service) (n : ℕ) : Type 0 where
  pub epochs : IsEpochList s.epochs
  pub start : (last_epoch s.epochs).start < 2 ^ 32
  pub members : length s.members ≡ (last_epoch s.epochs).members
  pub each : (m : ℕ) (member : Member) → slice_get s.members m ≡ Some member → IsSoundMember s m member
  pub count : s.count ≤ n
  pub top : s.top ≤ 2 ^ 32 + n * ((STEPS + 1) * 2 ^ 15)

-- one step more may be taken
pub record CanTurn (s : Service) : Type 0 where
  pub steps : ℕ
  pub few : steps < STEPS
  pub serving : IsServing s steps

-- a maintainer may learn the epochs
pub record CanLearn (e : EpochList) (member : Member) : Type 0 where
  pub known : IsPrefix member.appender.maintainer.epochs e
  pub settled : (p : ℕ) → IsFilled member.appender.maintainer p → IsSettled e member.appender.maintainer.epochs p
