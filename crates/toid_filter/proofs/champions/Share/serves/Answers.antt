use Rattle.std.proofs.Common.{arith}
use Rattle.toid_filter.proofs.ShareLemmas.{served_soon}
use Rattle.toid_filter.proofs.champions.Share.serves.Goals as goal

pub returns : goal.returns
returns c = (λ bad. absurd (cc), λ served. let soon = served_soon _ _ _ _ _ c.requires.start c.requires.filters served in absurd (c.loop-t.invariant soon.0 soon.1 (omega (arith, c.loop-t-test.false)) soon.4))
