use Rattle.std.proofs.Common.{arith, ap}
use Rattle.flstore_rounds.specs.Epochs.{last_epoch}
use Rattle.flstore_rounds.proofs.EpochLemmas.{epoch_list_more}
use Rattle.flstore_rounds.proofs.epochs.Epochs.add_epoch.Goals as goal

pub invariant_of-self-2 : goal.invariant_of-self-2
invariant_of-self-2 c = rw c.in_ok-push.ensures.items (epoch_list_more (record { round = c.self.inside.round; list = c.self.inside.list.items }) (record { start = c.args.start; members = c.args.members }) c.self.invariant
    (omega (arith, ap (λ t. (last_epoch t).start) c.self.view_is, ap (λ e. e.start) c.last-last_start.ensures.value)) (omega (arith, ap (λ t. (last_epoch t).members) c.self.view_is)) c.requires.lid c.requires.few)
