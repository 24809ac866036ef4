use Rattle.std.proofs.Common.{◌≡◌, ◌≤◌, ◌*◌, take, sum}
use Rattle.tag_indexer.proofs.post.home.Given as goal

abbrev pub invariant-loop-byte : goal.invariant-loop-byte
invariant-loop-byte l = (l.sum ≡ sum (take l.byte-index l.byte-items)) × (l.sum ≤ 255 * l.byte-index)
