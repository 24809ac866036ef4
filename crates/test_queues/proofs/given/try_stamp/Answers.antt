use Rattle.std.proofs.Common.{◌≡◌, ◌≤◌, length, arith}
use Rattle.std.specs.Option.{ForSome}
use Rattle.test_queues.proofs.Small.{can_stamp, when_true}
use Rattle.test_queues.proofs.given.try_stamp.Goals as goal

pub stamp-requires-clause-lids : goal.stamp-requires-clause-lids
stamp-requires-clause-lids c =
    can_stamp 1000 c.args.queue.now (omega arith)
    (when_true c.is_small.result (ForSome c.args.queue.now.token (λ t. (length t.counts ≡ 3) × (t.last ≤ 1000) × (length t.deferred ≤ 1000))) c.is_small.ensures c.if-not-is_small.false) c.requires.few
