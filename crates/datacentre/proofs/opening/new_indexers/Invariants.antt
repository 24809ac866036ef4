use Rattle.std.proofs.Common.{◌≡◌}
use Rattle.tag_indexer.specs.Indexers.{empty as nothing_posted}
use Rattle.stage_world.specs.Opening.{numbered}
use Rattle.datacentre.proofs.opening.new_indexers.Given as goal

abbrev pub invariant-loop-number : goal.invariant-loop-number
invariant-loop-number l = l.indexers ≡ numbered (λ i. nothing_posted i l.n l.epochs) l.number
