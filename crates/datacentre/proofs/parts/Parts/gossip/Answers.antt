use Rattle.std.proofs.Common.{arith, length, rules}
use Rattle.datacentre.proofs.WholeTurns.{first_not_there, gossip_is, gossip_may, if_five, second_not_there}
use Rattle.datacentre.proofs.parts.Parts.gossip.Goals as goal
use Rattle.datacentre.proofs.parts.Parts.gossip.Goals.{then-m-there-via-then-m-there, then-m-there-via-else-m-there+then-k-there}

pub gossip-requires-clause-may : goal.gossip-requires-clause-may
gossip-requires-clause-may c = gossip_may c.args.self.now c.args.m c.args.k _ c.requires (search rules) (search rules) c.item_mut.ensures.value

pub returns-clause-turned : goal.returns-clause-turned
returns-clause-turned c =
    if_five c.gossip.result _ _ _ _ _ _ c.gossip.ensures.vectors c.gossip.ensures.vectors c.gossip.ensures.outcome c.gossip.ensures.events c.gossip.ensures.changed
    (λ done vectors same outcome events changed. gossip_is c.args.self.now c.args.m c.args.k c.item_mut.result.now c.gossip.new.maintainer c.gossip.new.vectors done
    c.requires (search rules) (search rules) c.item_mut.ensures.value c.gossip.ensures.maintainer vectors outcome events changed)

pub returns-then-m-there-clause-turned : goal.returns-then-m-there-clause-turned
returns-then-m-there-clause-turned c = elim c.then-m-there.branch [
  | then-m-there-via-then-m-there w ↦ first_not_there c.args.self.now c.absent.result c.args.m (length c.args.self.now.maintainers) c.args.k (length c.args.self.now.maintainers) _ c.requires
      (omega (arith, w.if-m-there.true, c.len-there.ensures)) c.absent.ensures
  | then-m-there-via-else-m-there+then-k-there w ↦ second_not_there c.args.self.now c.absent.result c.args.m (length c.args.self.now.maintainers) c.args.k (length c.args.self.now.maintainers) _ c.requires
      (omega (arith, w.if-m-there.false, c.len-there.ensures)) (omega (arith, w.if-k-there.true, c.len-there.ensures)) c.absent.ensures
]
