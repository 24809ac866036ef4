use Rattle.std.proofs.Common.{◌≡◌, ℕ, ◌+◌, ◌-◌, ◌<◌, ◌≤◌, get_or, length}
use Rattle.token_queue.specs.Room.{owned_among}
use Rattle.token_queue.proofs.room.owners.Given as goal

abbrev pub invariant-loop-lid : goal.invariant-loop-lid
invariant-loop-lid l = record {
  long : length l.owned ≡ 16;
  counted : (m : ℕ) → m < 16 → get_or l.owned m 0 + owned_among l.epochs m l.lid (l.lid-end - l.lid) ≡ owned_among l.epochs m l.p l.wanted;
  few : (m : ℕ) → get_or l.owned m 0 ≤ l.lid - l.p;
}
