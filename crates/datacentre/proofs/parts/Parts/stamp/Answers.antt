use Rattle.std.proofs.Common.{rules}
use Rattle.datacentre.proofs.WholeTurns.{if_five, stamp_is, stamp_may}
use Rattle.datacentre.proofs.parts.Parts.stamp.Goals as goal

pub stamp-requires : goal.stamp-requires
stamp-requires c = stamp_may c.args.self.now c.args.q _ c.requires (search rules) c.item_mut.ensures.value

pub returns-clause-turned : goal.returns-clause-turned
returns-clause-turned c =
    if_five c.stamp.result _ _ _ _ _ _ c.stamp.ensures.queue c.stamp.ensures.sessions c.stamp.ensures.outcome c.stamp.ensures.events c.stamp.ensures.changed
    (λ done queue sessions outcome events changed. stamp_is c.args.self.now c.args.q c.item_mut.result.now c.stamp.new.queue c.stamp.new.sessions done
    c.requires (search rules) c.item_mut.ensures.value queue sessions outcome events changed)
