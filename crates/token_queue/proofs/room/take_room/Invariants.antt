use Rattle.std.proofs.Common.{◌≡◌, ℕ, ◌<◌, ◌≤◌, get_or}
use Rattle.token_queue.specs.Room.{entries_of, no_outbox, owned_among}
use Rattle.token_queue.proofs.room.take_room.Given as goal

abbrev pub invariant-loop-m : goal.invariant-loop-m
invariant-loop-m l = record {
  same : entries_of l.outboxes ≡ entries_of l.initial.outboxes;
  taken : (k : ℕ) → k < l.m → owned_among l.epochs k l.p l.wanted ≤ (get_or l.outboxes k no_outbox).room;
}
