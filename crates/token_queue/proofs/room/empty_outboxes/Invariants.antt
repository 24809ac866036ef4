use Rattle.std.proofs.Common.{◌≡◌}
use Rattle.std.specs.Vec.{vec_len}
use Rattle.token_queue.specs.Queues.{blank_outboxes}
use Rattle.token_queue.specs.Room.{entries_of}
use Rattle.token_queue.proofs.room.empty_outboxes.Given as goal

abbrev pub invariant-loop-made : goal.invariant-loop-made
invariant-loop-made l = record { made : vec_len l.outboxes ≡ l._made; empty : entries_of l.outboxes.items ≡ blank_outboxes l._made }
