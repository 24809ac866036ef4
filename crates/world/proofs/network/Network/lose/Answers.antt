use Rattle.std.proofs.Common.{refl}
use Rattle.world.proofs.LinkIdle.{lost_told}
use Rattle.world.proofs.MovingLemmas.{links_there, lose_moves}
use Rattle.world.proofs.network.Network.lose.Goals as goal

pub lose_packet-requires : goal.lose_packet-requires
lose_packet-requires c = links_there _ _ _ _ _ c.requires.1.shown c.requires.1.fits.first c.requires.1.fits.second

pub returns-clause-moved : goal.returns-clause-moved
returns-clause-moved c z may = lose_moves c.args._workload.now z _ _ _ _ _ _ may.shown may.fits.first refl c.lose_packet.ensures.links c.lose_packet.ensures.outcome c.lose_packet.ensures.events

pub returns-clause-told : goal.returns-clause-told
returns-clause-told c z may = lost_told c.args._workload.now z _ c.args.d c.args.e may.shown may.fits.first may.fits.second c.args.k _ c.lose_packet.ensures.changed
