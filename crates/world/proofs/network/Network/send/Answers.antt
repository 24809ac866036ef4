use Rattle.stage_world.specs.Whole.{datacentre_at}
use Rattle.world.proofs.LinkIdle.{sent_tells}
use Rattle.world.proofs.MovingLemmas.{few_links, may_send, links_there, sent_moves, seen_at, rows_are}
use Rattle.world.proofs.network.Network.send.Goals as goal

pub send-requires : goal.send-requires
send-requires c = may_send _ _ _ _ _ _ c.requires.1

pub put_sent-requires-clause-there : goal.put_sent-requires-clause-there
put_sent-requires-clause-there c = links_there _ _ _ _ _ c.requires.1.shown c.requires.1.fits.first c.requires.1.fits.second

pub put_sent-requires-clause-few : goal.put_sent-requires-clause-few
put_sent-requires-clause-few c = few_links _ _ _ _ c.requires.1

pub returns-clause-moved : goal.returns-clause-moved
returns-clause-moved c z may =
    let d = c.args.d in
    sent_moves c.args._workload.now z _ _ d c.args.k c.args.e c.in_ok-done.done c.in_ok-done.packet c.put_sent.result may.shown may.fits.first
    (rows_are _ _ z _ may d may.fits.first)
    (c.in_ok-done.ensures (datacentre_at z d) (seen_at _ z _ d may.shown may.fits.first))
    c.put_sent.ensures.absent c.put_sent.ensures.links c.put_sent.ensures.outcome c.put_sent.ensures.events

pub returns-clause-told : goal.returns-clause-told
returns-clause-told c z may =
    sent_tells c.args._workload.now z _ c.args.d c.args.e may.shown may.fits.first may.fits.second
    _ c.args.k c.in_ok-done.done c.in_ok-done.packet c.put_sent.result _ (rows_are _ _ z _ may c.args.d may.fits.first)
    (c.in_ok-done.ensures (datacentre_at z c.args.d) (seen_at _ z _ c.args.d may.shown may.fits.first)) c.put_sent.ensures.absent c.put_sent.ensures.changed
