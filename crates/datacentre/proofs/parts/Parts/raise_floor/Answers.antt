use Rattle.std.proofs.Common.{◌∙◌, ap, get_or}
use Rattle.datacentre.proofs.FloorTurns.{if_four, raise_is}
use Rattle.datacentre.proofs.parts.Parts.raise_floor.Goals as goal

pub returns-clause-turned : goal.returns-clause-turned
returns-clause-turned c =
    let first = c.index-as_slice-0.is ∙ ap (λ vs. get_or vs 0 c.index-as_slice-0.result) c.as_slice.ensures in
    if_four c.floor.result _ _ _ _ _ c.floor.ensures.floor c.floor.ensures.outcome c.floor.ensures.events c.floor.ensures.changed
    (λ done floor outcome events changed. raise_is c.args.self.now c.index-as_slice-0.result c.args.p c.floor.new.floor done c.requires first floor outcome events changed)
