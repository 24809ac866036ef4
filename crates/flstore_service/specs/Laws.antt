-- What laws of runs speak of.
use Rattle.std.specs.Prelude.{◌≡◌, ℕ, ◌==◌, ◌&&◌, Bool, if◌then◌else◌, nat_le, List, Option, Some, None, slice_get, sum_by, All}
use Rattle.maintainer.specs.Maintainers.{IsFilled}
use Rattle.post_assignment.specs.Appending.{StandsAbove, times_of}
use Rattle.flstore_service.specs.declared.run.FlOutcome.{FlOutcome}
use Rattle.flstore_service.specs.declared.run.FlOutcome.TheVariants.{Heard, HeadAt}
use Rattle.flstore_service.specs.declared.script.FlScript.{FlScript}
use Rattle.flstore_service.specs.declared.script.FlStep.{FlStep}
use Rattle.flstore_service.specs.declared.service.Member.{Member}
use Rattle.flstore_service.specs.declared.service.Service.{Service}
use Rattle.flstore_service.specs.declared.service.Submission.{Submission}
use Rattle.flstore_service.specs.Running.{service_after, start}

-- what a script's first steps leave
abbrev pub reached : FlScript → List FlStep → Service
reached script steps = service_after (start script.round script.maintainers) steps

abbrev pub has_number : ℕ → Submission → Bool
has_number n value = value.number == n

-- how often value n stands or waits
abbrev pub all_times : ℕ → Service → ℕ
all_times n s = sum_by (λ (member : Member). times_of (has_number n) member.appender) s.members

-- the values from 1 to a count, once each
abbrev pub once_upto : ℕ → ℕ → ℕ
once_upto count n = if nat_le 1 n && nat_le n count then 1 else 0

-- what stands is above its bound
abbrev pub AreAbove : Service → Type 0
AreAbove s = All (λ (member : Member). StandsAbove (λ value. value.bound) member.appender) s.members

-- some maintainer has position p filled
pub record IsFilledSomewhere (s : Service) (p : ℕ) : Type 0 where
  pub number : ℕ
  pub member : Member
  pub there : slice_get s.members number ≡ Some member
  pub filled : IsFilled member.appender.maintainer p

-- the head that an answer tells
abbrev pub head_told : FlOutcome → Option ℕ
head_told (Heard s) = Some s
head_told (HeadAt s) = Some s
head_told other = None
