use Rattle.world.proofs.FullLemmas.{copy_tells, lent_spelled}
use Rattle.world.proofs.packets.copy_in_row.Goals as goal

pub returns-clause-changed : goal.returns-clause-changed
returns-clause-changed c = λ ms spelled. copy_tells ms c.args.k c.in_ok-kept.kept
    (c.in_ok-kept.ensures ms (lent_spelled c.args.dcs c.args.row.now _ c.args.e _ ms c.number.ensures.value c.requires.there c.item_mut-link.ensures.value spelled))
