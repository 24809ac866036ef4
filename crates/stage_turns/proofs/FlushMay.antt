-- A flush may be taken at stages that stand for a log, and a pass is seen as its turn.
use Rattle.abstract_log.specs.Worlds.{pending_of}
use Rattle.std.proofs.Common.{◌≡◌, ℕ, ◌<◌, ◌++◌, List, [], get_or, length, ap, sym, arith}
use Rattle.std.specs.List.{All}
use Rattle.std.proofs.lemmas.List.Elements.{All-get_or}
use Rattle.causal_deps.specs.declared.record.Item.{Item}
use Rattle.causal_deps.specs.declared.record.Item.TheVariants.{Local, External}
use Rattle.abstract_log.specs.declared.world.World.{World}
use Rattle.token_queue.specs.Queues.{QueueState, tokenless}
use Rattle.stage_world.specs.Stages.{Datacentre, batcher_at}
use Rattle.stage_world.specs.StandsFor.{StandsAt, IsDue}
use Rattle.stage_turns.specs.Flushing.{IsOfHosts, MayFlush}

of_host : (w : World) (d : ℕ) (hosts : ℕ) (x : Item) → w.workload.dcs ≡ hosts → IsDue w.workload w.sessions w.logs (pending_of w d) d x → IsOfHosts hosts x
of_host w d hosts (Local draft) same due = tt
of_host w d hosts (External r) same due = (omega (arith, same, due.valid.host), due.valid.first)

pub may_flush : (w : World) (d : ℕ) (z : Datacentre) (b : ℕ) → b < length z.batchers → StandsAt w d z → MayFlush z.map z.filters (batcher_at z.batchers b)
may_flush w d z b there h =
    let all : All (IsDue w.workload w.sessions w.logs (pending_of w d) d) (batcher_at z.batchers b) =
    All-get_or (All (IsDue w.workload w.sessions w.logs (pending_of w d) d)) z.batchers b [] there h.items.under_way.due.batchers in
    record {
      serving = record { one_map = h.items.sound.one_map; numbers = h.items.sound.numbers; there = h.items.sound.there; few = h.membership.members.ranges.filters.1 };
      of_hosts = λ k e within. of_host w d (length z.map) (get_or (batcher_at z.batchers b) k e) (sym h.items.mapped) (all k e within);
    }

-- where the lent queue has the token or not, what it has after a pass is seen as the turn leaves it
pub pass_seen : (lent q : QueueState) (items : List Item) → tokenless lent ≡ q → tokenless (record lent { items = lent.items ++ items }) ≡ record q { items = q.items ++ items }
pass_seen lent q items same = ap (λ (x : QueueState). record x { items = x.items ++ items }) same
