use Rattle.std.proofs.Common.{◌≡◌, false, take}
use Rattle.tag_indexer.specs.Rows.{has_home}
use Rattle.tag_indexer.proofs.rows.is_at_home.Given as goal

abbrev pub invariant-loop-tag : goal.invariant-loop-tag
invariant-loop-tag l = has_home l.indexers l.number (take l.tag-index l.tag-items) ≡ false
