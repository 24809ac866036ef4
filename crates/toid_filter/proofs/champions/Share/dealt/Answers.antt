use Rattle.std.proofs.Common.{◌∙◌, ap₂, ◌+◌, ◌-◌, ◌%◌}
use Rattle.toid_filter.proofs.ShareLemmas.{dealt_is}
use Rattle.toid_filter.proofs.champions.Share.dealt.Goals as goal

pub returns : goal.returns
returns c = ap₂ (λ n k. ((c.args.t - c.args.self.start) % n + k) % n) c.from-filters.ensures (c.from.ensures ∙ c.number.ensures.value) ∙ dealt_is c.args.self.start c.args.t c.args.h c.args.self.filters c.requires.start
