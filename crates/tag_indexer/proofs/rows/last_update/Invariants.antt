use Rattle.std.proofs.Common.{◌≡◌, ◌≤◌, false, length}
use Rattle.std.specs.List.{AllWithin}
use Rattle.tag_indexer.specs.TagIndexes.{has_update_at}
use Rattle.tag_indexer.proofs.rows.last_update.Given as goal

abbrev pub invariant-loop-at : goal.invariant-loop-at
invariant-loop-at l = (l.at ≤ length l.lids) × AllWithin (λ p. has_update_at l.rows l.key p ≡ false) l.lids l.at (length l.lids)

abbrev pub decreases-loop-at : goal.decreases-loop-at
decreases-loop-at l = l.at
