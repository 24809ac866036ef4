use Rattle.std.proofs.Common.{false, refl}
use Rattle.datacentre.proofs.NewLemmas.{all_commands}
use Rattle.datacentre.proofs.OpenedLemmas.{new_seen, new_whole}
use Rattle.datacentre.proofs.datacentre.new_parts.Goals as goal

pub new_sessions-requires-clause-commands : goal.new_sessions-requires-clause-commands
new_sessions-requires-clause-commands c = all_commands c.args.workload.now c.requires.limits

pub returns-clause-stages : goal.returns-clause-stages
returns-clause-stages c =
    new_seen c.args.round c.args.sizes.now c.args.workload.now c.args.dc c.in_ok-epochs.epochs c.in_ok-map.map (record {
      dc = c.args.dc;
      first_maintainers = c.args.sizes.now.maintainers;
      sessions = c.in_ok-new_sessions.field-0;
      batchers = c.in_ok-new_batchers.field-0;
      filters = c.in_ok-new_filters.field-0;
      map = c.map.inside.hosts;
      marks = c.new.result;
      queues = c.in_ok-new_ring.field-0;
      maintainers = c.in_ok-new_maintainers.field-0;
      vectors = c.in_ok-new_vectors.field-0;
      indexers = c.in_ok-new_indexers.field-0;
      senders = c.in_ok-new_senders.field-0;
      receivers = c.args.sizes.now.receivers;
      upgraded = false;
      table = c.new-2.result;
      learnt = 0;
      floor = c.new-3.result;
      collected = c.new-4.result;
    }) (record {
      here = refl;
      first = refl;
      sessions = c.in_ok-new_sessions.ensures;
      batchers = c.in_ok-new_batchers.ensures;
      filters = c.in_ok-new_filters.ensures;
      shared = c.map.view_is;
      marks = c.new.ensures;
      queues = c.in_ok-new_ring.ensures.seen;
      token = c.in_ok-new_ring.ensures.token;
      maintainers = c.in_ok-new_maintainers.ensures;
      vectors = c.in_ok-new_vectors.ensures;
      indexers = c.in_ok-new_indexers.ensures;
      senders = c.in_ok-new_senders.ensures;
      receivers = refl;
      form = refl;
      table = c.new-2.ensures;
      learnt = refl;
      floor = c.new-3.ensures;
      collected = c.new-4.ensures;
    }) c.in_ok-epochs.ensures c.in_ok-map.ensures

pub returns-clause-whole : goal.returns-clause-whole
returns-clause-whole c =
    new_whole c.args.round c.args.sizes.now c.args.workload.now c.args.dc c.in_ok-epochs.epochs c.in_ok-map.map (record {
      dc = c.args.dc;
      first_maintainers = c.args.sizes.now.maintainers;
      sessions = c.in_ok-new_sessions.field-0;
      batchers = c.in_ok-new_batchers.field-0;
      filters = c.in_ok-new_filters.field-0;
      map = c.map.inside.hosts;
      marks = c.new.result;
      queues = c.in_ok-new_ring.field-0;
      maintainers = c.in_ok-new_maintainers.field-0;
      vectors = c.in_ok-new_vectors.field-0;
      indexers = c.in_ok-new_indexers.field-0;
      senders = c.in_ok-new_senders.field-0;
      receivers = c.args.sizes.now.receivers;
      upgraded = false;
      table = c.new-2.result;
      learnt = 0;
      floor = c.new-3.result;
      collected = c.new-4.result;
    }) (record {
      here = refl;
      first = refl;
      sessions = c.in_ok-new_sessions.ensures;
      batchers = c.in_ok-new_batchers.ensures;
      filters = c.in_ok-new_filters.ensures;
      shared = c.map.view_is;
      marks = c.new.ensures;
      queues = c.in_ok-new_ring.ensures.seen;
      token = c.in_ok-new_ring.ensures.token;
      maintainers = c.in_ok-new_maintainers.ensures;
      vectors = c.in_ok-new_vectors.ensures;
      indexers = c.in_ok-new_indexers.ensures;
      senders = c.in_ok-new_senders.ensures;
      receivers = refl;
      form = refl;
      table = c.new-2.ensures;
      learnt = refl;
      floor = c.new-3.ensures;
      collected = c.new-4.ensures;
    })
