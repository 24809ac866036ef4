use Rattle.std.proofs.Common.{All}
use Rattle.token_queue.specs.Items.{FitsItem}
use Rattle.test_queues.proofs.given.items_of.Given as goal

abbrev pub invariant-loop-one : goal.invariant-loop-one
invariant-loop-one l = All (FitsItem 3) l.items
