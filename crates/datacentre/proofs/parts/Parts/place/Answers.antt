use Rattle.std.proofs.Common.{rules}
use Rattle.datacentre.proofs.WholeTurns.{if_five, place_is, place_may}
use Rattle.datacentre.proofs.parts.Parts.place.Goals as goal

pub place-requires-clause-may : goal.place-requires-clause-may
place-requires-clause-may c = place_may c.args.self.now c.args.q c.args.m _ _ c.requires (search rules) (search rules) c.item_mut.ensures.value c.item_mut-2.ensures.value

pub returns-clause-turned : goal.returns-clause-turned
returns-clause-turned c =
    if_five c.place.result _ _ _ _ _ _ c.place.ensures.queue c.place.ensures.maintainer c.place.ensures.outcome c.place.ensures.events c.place.ensures.changed
    (λ done queue maintainer outcome events changed. place_is c.args.self.now c.args.q c.args.m c.item_mut.result.now c.place.new.queue c.item_mut-2.result.now c.place.new.maintainer done
    c.requires (search rules) (search rules) c.item_mut.ensures.value c.item_mut-2.ensures.value queue maintainer outcome events changed)
