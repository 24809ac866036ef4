-- A queue with few items has positions left.
use Rattle.std.proofs.Common.{◌≡◌, ℕ, ◌+◌, ◌<◌, ◌≤◌, ◌^◌, Bool, true, false, ◌++◌, length, arith}
use Rattle.std.specs.Bool.{OnTrue}
use Rattle.std.specs.Option.{ForSome}
use Rattle.std.proofs.lemmas.List.{length-append}
use Rattle.token_queue.specs.Drain.{drain_by}
use Rattle.token_queue.specs.Queues.{QueueState}
use Rattle.token_queue.proofs.DrainLemmas.{drain_by_few}

pub can_stamp : (many : ℕ) (q : QueueState) → many < 2 ^ 40 → ForSome q.token (λ t. (length t.counts ≡ 3) × (t.last ≤ many) × (length t.deferred ≤ many)) → length q.items ≤ many
    → ForSome q.token (λ t. t.last + length (drain_by t.dc t.counts (t.deferred ++ q.items)).records < 2 ^ 48)
can_stamp many q low small few t is =
    let s = small t is in
    omega (arith, s.1, s.2, few, low, drain_by_few (length (t.deferred ++ q.items)) t.dc t.counts (t.deferred ++ q.items), length-append t.deferred q.items)

-- what is said where a test is true
pub when_true : (b : Bool) (P : Type 0) → OnTrue b P → b ≡ true → P
when_true true P has is = has
when_true false P has is = absurd (cc)
