use Rattle.std.proofs.Common.{rules}
use Rattle.datacentre.proofs.WholeTurns.{if_five}
use Rattle.datacentre.proofs.FloorTurns.{collect_is, collect_may}
use Rattle.datacentre.proofs.parts.Parts.collect.Goals as goal

pub collect-requires : goal.collect-requires
collect-requires c = record { may = collect_may c.args.self.now c.args.m _ c.requires (search rules) c.item_mut.ensures.value }

pub returns-clause-turned : goal.returns-clause-turned
returns-clause-turned c =
    if_five c.collect.result _ _ _ _ _ _ c.collect.ensures.maintainer c.collect.ensures.names c.collect.ensures.outcome c.collect.ensures.events c.collect.ensures.changed
    (λ done maintainer names outcome events changed. collect_is c.args.self.now c.args.m c.item_mut.result.now c.collect.new.maintainer c.collect.new.names done
    c.requires (search rules) c.item_mut.ensures.value maintainer names outcome events changed)
