use Rattle.std.proofs.Common.{◌≡◌, ◌+◌, ◌<◌, ◌≤◌, ◌^◌, ◌++◌, length}
use Rattle.std.specs.Vec.{vec_len, vec_capacity}
use Rattle.token_queue.specs.Queues.{all_of, stamped_token, stamps_of}
use Rattle.token_queue.specs.Room.{HaveRoom, entries_of}
use Rattle.token_queue.proofs.Stamping.{outboxes_of}
use Rattle.token_queue.proofs.queue.stamp_deferred.Given as goal

abbrev pub invariant-loop-entry : goal.invariant-loop-entry
invariant-loop-entry l = record {
  answer : l.stamps.items ++ stamps_of l.token (all_of l.token) ≡ l.initial.stamps.items ++ stamps_of l.initial.token (all_of l.initial.token);
  dealt : outboxes_of l.token (entries_of l.outboxes) ≡ outboxes_of l.initial.token (entries_of l.initial.outboxes);
  left : stamped_token l.token (all_of l.token) ≡ stamped_token l.initial.token (all_of l.initial.token);
  lids : l.token.last + length (all_of l.token).records < 2 ^ 48;
  stamps : vec_len l.stamps + length (all_of l.token).records ≤ vec_capacity l.stamps;
  room : HaveRoom l.token.epochs (l.token.last + 1) (length (all_of l.token).records) l.outboxes;
}

abbrev pub decreases-loop-entry : goal.decreases-loop-entry
decreases-loop-entry l = length l.token.deferred
