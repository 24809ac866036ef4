use Rattle.std.proofs.Common.{◌-◌, ◌∙◌, ap, arith}
use Rattle.flstore_rounds.specs.Epochs.{first_epoch, last_epoch}
use Rattle.flstore_rounds.proofs.EpochLemmas.{last_from-at}
use Rattle.flstore_rounds.proofs.epochs.Epochs.last.Goals as goal

pub returns-clause-value : goal.returns-clause-value
returns-clause-value c =
    c.index.ensures ∙ last_from-at first_epoch c.index.result.now c.self.inside.list.items (c.len.result - 1) (omega (arith, c.self.invariant.some)) ∙ ap last_epoch c.self.view_is
