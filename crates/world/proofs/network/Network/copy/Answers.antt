use Rattle.std.proofs.Common.{refl}
use Rattle.world.proofs.LinkIdle.{copied_tells}
use Rattle.world.proofs.MovingLemmas.{few_links, links_there, copied_ok}
use Rattle.world.proofs.network.Network.copy.Goals as goal

pub copy_packet-requires-clause-there : goal.copy_packet-requires-clause-there
copy_packet-requires-clause-there c = links_there _ _ _ _ _ c.requires.1.shown c.requires.1.fits.first c.requires.1.fits.second

pub copy_packet-requires-clause-few : goal.copy_packet-requires-clause-few
copy_packet-requires-clause-few c = few_links _ _ _ _ c.requires.1

pub returns-clause-moved : goal.returns-clause-moved
returns-clause-moved c z may = copied_ok c.args._workload.now z _ _ _ _ _ c.copy_packet.result may.shown may.fits.first refl c.copy_packet.ensures.links c.copy_packet.ensures.outcome c.copy_packet.ensures.events

pub returns-clause-told : goal.returns-clause-told
returns-clause-told c z may = copied_tells c.args._workload.now z _ c.args.d c.args.e may.shown may.fits.first may.fits.second c.args.k c.copy_packet.result c.copy_packet.ensures.changed
