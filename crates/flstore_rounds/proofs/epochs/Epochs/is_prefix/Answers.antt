use Rattle.std.proofs.Common.{rules}
use Rattle.flstore_rounds.proofs.PrefixLemmas.{prefix_tested, same_epoch}
use Rattle.flstore_rounds.proofs.epochs.Epochs.is_prefix.Goals as goal

pub returns-then-self-other : goal.returns-then-self-other
returns-then-self-other c = prefix_tested (record { round = c.self.inside.round; list = c.self.inside.list.items }) (record { round = c.other.inside.round; list = c.other.inside.list.items }) _ _ _ _ c.starts_with.result
    c.starts_with.ensures.value c.deref.ensures.value c.deref-then-self-other.ensures.value c.self.view_is c.other.view_is same_epoch (search rules)
