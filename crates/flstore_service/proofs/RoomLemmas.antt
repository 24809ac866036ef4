-- There are positions for all that steps ask for.
use Rattle.std.proofs.Common.{◌≡◌, ℕ, ◌+◌, ◌*◌, ◌<◌, ◌≤◌, ◌^◌, length, Some, slice_get, sym, ap, subst, arith}
use Rattle.std.proofs.lemmas.List.Elements.{All-weaker}
use Rattle.std.proofs.lemmas.Option.{slice_get_within}
use Rattle.flstore_rounds.specs.Epochs.{EpochList, IsEpochList, last_epoch}
use Rattle.maintainer.specs.Maintainers.{IsFilled, placed}
use Rattle.post_assignment.specs.Appending.{HasRoom, appended, next_lid}
use Rattle.post_assignment.proofs.BoundLemmas.{next_lid_most, placed_below, released_near}
use Rattle.cz_base.specs.declared.limits.TheConstants.{NUMBERS_END, STEPS}
use Rattle.flstore_service.specs.declared.service.Member.{Member}
use Rattle.flstore_service.specs.declared.service.Service.{Service}
use Rattle.flstore_service.specs.declared.service.Submission.{Submission}
use Rattle.flstore_service.specs.Sound.{CanTurn, IsServing}

-- where a member's positions stand
pub record IsPlaced (s : Service) (n : ℕ) (member : Member) : Type 0 where
  pub epochs : IsEpochList member.appender.maintainer.epochs
  pub one : member.appender.maintainer.number < (last_epoch member.appender.maintainer.epochs).members
  pub start : (last_epoch member.appender.maintainer.epochs).start ≤ 2 ^ 32 + n * ((STEPS + 1) * 2 ^ 15)
  pub below : (p : ℕ) → IsFilled member.appender.maintainer p → p ≤ 2 ^ 32 + n * ((STEPS + 1) * 2 ^ 15)
  pub waits : length member.appender.waiting ≤ n

pub is_placed : (s : Service) (n m : ℕ) (member : Member) → IsServing s n → slice_get s.members m ≡ Some member → IsPlaced s n member
is_placed s n m member serving is =
    let one = serving.each m member is in
    record {
      epochs = subst IsEpochList (sym one.epochs) serving.epochs;
      one = omega (arith, one.number, serving.members, slice_get_within s.members m member is, ap (λ (e : EpochList). (last_epoch e).members) one.epochs);
      start = omega (arith, ap (λ (e : EpochList). (last_epoch e).start) one.epochs, serving.start);
      below = λ p full. omega (arith, one.below p full, serving.top);
      waits = omega (arith, one.waits, serving.count);
    }

pub has_room : (s : Service) (m : ℕ) (member : Member) (value : Submission) → CanTurn s → slice_get s.members m ≡ Some member → HasRoom member.appender value
has_room s m member value can is =
    let at = is_placed s can.steps m member can.serving is in
    let b : ℕ = 2 ^ 32 + can.steps * ((STEPS + 1) * 2 ^ 15) in
    let lid : next_lid member.appender.maintainer ≤ b + 2 ^ 15 = next_lid_most member.appender.maintainer b at.epochs at.one at.start at.below in
    let near = released_near (length member.appender.waiting) (placed member.appender.maintainer (next_lid member.appender.maintainer) value) member.appender.waiting (b + 2 ^ 15) at.epochs at.one (omega (arith, at.start))
    (placed_below member.appender.maintainer (next_lid member.appender.maintainer) b (b + 2 ^ 15) value lid (omega arith) at.below) in
    record {
      member = at.one;
      first = omega (arith, lid, can.few);
      others = All-weaker (λ (p : ℕ). p ≤ b + 2 ^ 15 + length member.appender.waiting * 2 ^ 15) (λ (p : ℕ). p < NUMBERS_END) (λ p le. omega (arith, le, at.waits, can.few)) (appended member.appender value).lids near.lids;
    }
