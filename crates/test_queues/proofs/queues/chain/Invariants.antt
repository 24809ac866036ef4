use Rattle.std.proofs.Common.{All}
use Rattle.token_queue.specs.Items.{FitsItem}
use Rattle.test_queues.proofs.queues.chain.Given as goal

abbrev pub invariant-loop-back : goal.invariant-loop-back
invariant-loop-back l = All (FitsItem 3) l.items
