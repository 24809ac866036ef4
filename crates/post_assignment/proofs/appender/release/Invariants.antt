use Rattle.std.proofs.Common.{ℕ, ◌+◌, ◌<◌, ◌≤◌, length, vec_len}
use Rattle.std.specs.Vec.{vec_capacity}
use Rattle.flstore_rounds.specs.Epochs.{IsNextOwn, last_epoch}
use Rattle.maintainer.specs.Maintainers.{mark_of}
use Rattle.post_assignment.proofs.AppendLemmas.{IsReleasing, all_released}
use Rattle.post_assignment.proofs.appender.release.Given as goal

abbrev pub invariant-loop-value : goal.invariant-loop-value
invariant-loop-value g l = record {
  member : l.maintainer.number < (last_epoch l.maintainer.epochs).members;
  going : IsReleasing (all_released l.initial.maintainer l.initial.waiting.waiting) l.maintainer l.waiting.waiting l.lids.items;
  limit : (q : ℕ) → IsNextOwn l.maintainer.epochs l.maintainer.number (mark_of l.maintainer) q → l.waiting.limit ≤ q;
  room : length l.waiting.waiting ≤ l.maintainer.spare;
  space : vec_len l.lids + length l.waiting.waiting ≤ vec_capacity l.lids;
}

abbrev pub decreases-loop-value : goal.decreases-loop-value
decreases-loop-value g l = length l.waiting.waiting
