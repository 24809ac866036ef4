-- The heads of a datacentre whose stages stand for a world, and the entries of an outbox.
use Rattle.std.proofs.Common.{ℕ, ◌<◌, ◌≤◌, [], length, sym, subst, inl, inr, arith}
use Rattle.std.specs.List.{All}
use Rattle.std.proofs.lemmas.List.{get_or_past}
use Rattle.std.proofs.lemmas.List.Elements.{All-nil, All-get_or}
use Rattle.std.proofs.lemmas.Bool.{cases_lt}
use Rattle.abstract_log.specs.declared.world.World.{World}
use Rattle.abstract_log.specs.Worlds.{log_of}
use Rattle.flstore_rounds.specs.Heads.{Pair, blank, head, IsTruePair}
use Rattle.flstore_rounds.proofs.HeadLemmas.{head_filled}
use Rattle.token_queue.specs.declared.entry.Entry.{Entry}
use Rattle.token_queue.specs.Queues.{QueueState, outbox_for}
use Rattle.stage_world.specs.Stages.{Datacentre, IsFilledIn, no_epochs, vector_at}
use Rattle.stage_world.specs.StandsFor.{StandsAt}
use Rattle.stage_world.proofs.FilledLemmas.{filled_within}

-- what holds of all entries in the outboxes holds of those for one maintainer
pub outbox_entries : (P : Entry → Type 0) (q : QueueState) (m : ℕ) → All (λ es. All P es) q.outboxes → All P (outbox_for q m)
outbox_entries P q m all = elim (cases_lt m (length q.outboxes)) [
  | inl within ↦ All-get_or (λ es. All P es) q.outboxes m [] within all
  | inr past ↦ subst (All P) (sym (get_or_past q.outboxes m [] past)) (All-nil P)
]

-- there is a first vector, and its pair is true
pub some_vector : (w : World) (d : ℕ) (z : Datacentre) → StandsAt w d z → 0 < length z.vectors
some_vector w d z h = omega (arith, h.membership.members.vectors, h.membership.members.ranges.maintainers.0)

pub first_true : (w : World) (d : ℕ) (z : Datacentre) → StandsAt w d z → IsTruePair z.token.epochs (IsFilledIn z.maintainers) (vector_at z.vectors 0)
first_true w d z h = All-get_or (IsTruePair z.token.epochs (IsFilledIn z.maintainers)) z.vectors 0 (blank no_epochs) (some_vector w d z h) h.coverage.heads

-- the head of a true pair is in the log
pub true_head_within : (w : World) (d : ℕ) (z : Datacentre) (v : Pair) → StandsAt w d z → IsTruePair z.token.epochs (IsFilledIn z.maintainers) v → head v ≤ length (log_of w d)
true_head_within w d z v h is_true = elim (cases_lt 0 (head v)) [
  | inl one ↦ filled_within w d z (head v) h (head_filled z.token.epochs (IsFilledIn z.maintainers) v (head v) is_true (omega arith) (omega arith))
  | inr none ↦ omega arith
]

pub head_within : (w : World) (d : ℕ) (z : Datacentre) → StandsAt w d z → head (vector_at z.vectors 0) ≤ length (log_of w d)
head_within w d z h = true_head_within w d z (vector_at z.vectors 0) h (first_true w d z h)
