use Rattle.world.proofs.RoundIs.{few_queues, has_queue, holds_within, round_is}
use Rattle.world.proofs.rounds.add_round.Goals as goal

pub add_passes-requires : goal.add_passes-requires
add_passes-requires c = has_queue _ _ _ _ _ c.requires.1 c.members-members.ensures c.holder-holder.ensures

pub add_ring-requires-clause-few : goal.add_ring-requires-clause-few
add_ring-requires-clause-few c = few_queues _ _ _ _ _ c.requires.1 c.members-members.ensures c.holder-holder.ensures

pub add_ring-requires-clause-holder : goal.add_ring-requires-clause-holder
add_ring-requires-clause-holder c = holds_within _ _ _ _ _ c.requires.1 c.members-members.ensures c.holder-holder.ensures

pub returns : goal.returns
returns c z known =
    round_is c.args.d z c.args.datacentre.now c.members-members.result c.holder-holder.result known c.members-members.ensures c.holder-holder.ensures c.sessions.result.now
    _ _ _ _ _ _ _ _ _ c.sessions.ensures c.in_ok-add_clients.ensures c.in_ok-add_flushes.ensures c.in_ok-add_passes.ensures c.in_ok-add_ring.ensures c.in_ok-add_places.ensures c.in_ok-add_gossips.ensures c.in_ok-add_posts.ensures c.in_ok-push.ensures.ok
