use Rattle.std.proofs.Common.{◌≡◌, ℕ, ◌+◌, arith}
use Rattle.token_queue.proofs.Dealing.{dealt_at, dealt_length, dealt_sums}
use Rattle.token_queue.proofs.laws.dealing_loses_nothing.Goals as goal

zero_more : (m : ℕ) → m ≡ 0 + m
zero_more m = omega arith

pub returns : goal.returns
returns c = record {
  each = λ epochs entries outboxes m there. dealt_at epochs entries 0 m m outboxes there (zero_more m);
  len = λ epochs entries outboxes. dealt_length epochs entries 0 outboxes;
  sums = λ epochs entries outboxes f below. dealt_sums epochs f entries outboxes below;
}
