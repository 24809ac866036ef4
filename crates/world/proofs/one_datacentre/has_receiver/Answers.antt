use Rattle.std.proofs.Common.{◌∙◌, ap, get_or, subst}
use Rattle.world.proofs.CallLemmas.{has_receiver_is, same_seen}
use Rattle.datacentre.specs.Seen.{StandsForALog}
use Rattle.world.proofs.one_datacentre.has_receiver.Goals as goal

pub returns : goal.returns
returns c z seen =
    let item = c.index-as_slice-number.result in
    has_receiver_is c.args.d c.number.result z c.args.datacentres.now item c.number.ensures.value
    (c.index-as_slice-number.is ∙ ap (λ xs. get_or xs c.number.result item) c.as_slice.ensures) seen c.args.r c.members-receivers.result
    (subst (StandsForALog c.args.d) (same_seen c.args.d _ z c.args.datacentres.now c.requires.1 seen) c.requires.2) c.members-receivers.ensures
