use Rattle.std.proofs.Common.{ap, arith}
use Rattle.flstore_rounds.specs.Epochs.{first_epoch, last_from}
use Rattle.flstore_rounds.proofs.EpochLemmas.{last_few}
use Rattle.flstore_rounds.proofs.epochs.Epochs.owner.Goals as goal

pub returns-clause-within : goal.returns-clause-within
returns-clause-within c = omega (arith, last_few (record { round = c.self.inside.round; list = c.self.inside.list.items }) c.self.invariant, c.owner_by.ensures.member, ap (λ es. (last_from first_epoch es).members) c.deref.ensures.value)
