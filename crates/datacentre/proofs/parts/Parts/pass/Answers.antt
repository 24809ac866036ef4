use Rattle.std.proofs.Common.{rules}
use Rattle.datacentre.proofs.WholeTurns.{if_five, pass_is}
use Rattle.datacentre.proofs.parts.Parts.pass.Goals as goal

pub returns-clause-turned : goal.returns-clause-turned
returns-clause-turned c =
    if_five c.pass.result _ _ _ _ _ _ c.pass.ensures.filters c.pass.ensures.queue c.pass.ensures.outcome c.pass.ensures.events c.pass.ensures.changed
    (λ done filters queue outcome events changed. pass_is c.args.self.now c.args.f c.args.q c.item_mut.result.now c.pass.new.queue c.pass.new.filters done
    c.requires (search rules) (search rules) c.item_mut.ensures.value filters queue outcome events changed)
