use Rattle.datacentre.proofs.WholeTurns.{if_five}
use Rattle.datacentre.proofs.WholeLinks.{receive_is}
use Rattle.datacentre.proofs.parts.Parts.receive.Goals as goal

pub returns : goal.returns
returns c = λ m spelled.
    if_five c.deliver.result _ _ _ _ _ _ (c.deliver.ensures.table m spelled) (c.deliver.ensures.batchers m spelled) (c.deliver.ensures.outcome m spelled) (c.deliver.ensures.events m spelled)
    (c.deliver.ensures.changed m spelled)
    (λ done table batchers outcome events changed. receive_is c.args.self.now c.args.r m c.deliver.new.batchers c.deliver.new.table done c.requires.may table batchers outcome events changed)
