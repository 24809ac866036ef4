use Rattle.world.proofs.FullLemmas.{lent_spelled, put_tells}
use Rattle.world.proofs.packets.put_in_row.Goals as goal

pub returns-clause-changed : goal.returns-clause-changed
returns-clause-changed c = λ ms m spelled one. put_tells c.args.dcs _ c.args.packet ms m spelled one c.in_ok-kept.kept
    (c.in_ok-kept.ensures ms m (lent_spelled c.args.dcs c.args.row.now _ c.args.e _ ms c.number.ensures.value c.requires.there c.item_mut-link.ensures.value spelled) one)
