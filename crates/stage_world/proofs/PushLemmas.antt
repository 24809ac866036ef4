-- What stands for the log goes on standing once a record more is at its end: by parts, each as its own lemma says, for a record that
-- the queue with the token has just stamped. The theorems are `positions_push`, `membership_push`, `coverage_push` and
-- `knowledge_push`; the lemmas on items under way serve what differs between a draft and a record from elsewhere.
use Rattle.std.proofs.Common.{◌≡◌, ◌≢◌, ℕ, ◌+◌, ◌<◌, cond, leb, eqb, ◌&&◌, List, [], ◌∷◌, ◌++◌, length, get_or, set, refl, ap, sym, ◌∙◌, subst, arith, slice_get}
use Rattle.std.specs.List.{All, sum_by}
use Rattle.std.proofs.lemmas.List.{length_push, take-append-le}
use Rattle.std.proofs.lemmas.List.Elements.{All-push, All-weaker, All-get_or}
use Rattle.causal_deps.specs.declared.record.Record.{Record}
use Rattle.causal_deps.specs.declared.record.Item.{Item}
use Rattle.causal_deps.specs.Counts.{AreCovered}
use Rattle.causal_deps.specs.Logs.{count_of}
use Rattle.abstract_log.specs.declared.world.World.{World}
use Rattle.abstract_log.specs.Worlds.{log_of, table_of, gone_of}
use Rattle.flstore_rounds.specs.Epochs.{owner}
use Rattle.maintainer.specs.Maintainers.{MaintainerState}
use Rattle.tag_indexer.specs.Indexers.{IndexerState}
use Rattle.stage_world.specs.StandsFor.{IsDealtBy, StandsAt, HasCoverage, HasKnowledge, HasMembership, HasPositions, IsPinned, IsIndexedAt, ArePlaced, AreOwned, AllUnderWay, IsAware, name_in}
use Rattle.stage_world.specs.Stages.{slot_of, sizes_of, IsFilledIn, no_queue, queue_at, waiting_in, Datacentre, Session, under_way, after_filters}
use Rattle.flstore_rounds.specs.Heads.{IsTruePair}
use Rattle.toid_filter.specs.Filters.{FilterState}
use Rattle.token_queue.specs.declared.entry.Entry.{Entry}
use Rattle.token_queue.specs.Queues.{TokenState, QueueState, waiting}
use Rattle.token_queue.proofs.Dealing.{waiting_with_entry}
use Rattle.flstore_rounds.proofs.EpochLemmas.{all_settled}
use Rattle.maintainer.specs.Maintainers.{IsEntryOf}
use Rattle.maintainer.proofs.CountLemmas.{entry_stays}
use Rattle.stage_world.proofs.FilledLemmas.{filled_within}
use Rattle.stage_world.proofs.QueueLemmas.{queues_set, members_same, sizes_with_queue, dealt_more, owner_below}
use Rattle.stage_world.proofs.SmallSteps.{queue_after, entry_at}
use Rattle.stage_world.proofs.ListLemmas.{All-set_at, sum_by-set_more}
use Rattle.causal_deps.proofs.Lists.{slice_get_at_end}
use Rattle.causal_deps.proofs.LogsLemmas.{count_of-push as count_grows, count_of-push_other}
use Rattle.stage_world.proofs.LogLemmas.{position_in-push, counted_push, pinned_push, safe_push, named_push, indexed_push}
use Rattle.stage_world.proofs.UnderWay.{in_queues-same, All_items-same}

-- the record stands in the log and in the holder's outbox
pub placed_push : (t : TokenState) (log : List Record) (gone : List ℕ) (qs : List QueueState) (ms : List (MaintainerState Record)) (at : ℕ) (r : Record) → at < length qs → t.last ≡ length log
    → owner t.epochs (t.last + 1) < length (queue_at qs at).outboxes → ArePlaced log gone qs ms → ArePlaced (log ++ r ∷ []) gone (set qs at (queue_after t (queue_at qs at) r)) ms
placed_push t log gone qs ms at r within last below h =
    let q : QueueState = queue_at qs at in
    let q' : QueueState = queue_after t q r in
    let e : Entry = entry_at t r in
    let Stands : Entry → Type 0 = (λ x. IsEntryOf (log ++ r ∷ []) (slot_of x)) in
    let stands : Stands e = record { first = omega arith; stands = ap (λ i. slice_get (log ++ r ∷ []) i) (omega arith) ∙ slice_get_at_end log r } in
    let stay : (x : Entry) → IsEntryOf log (slot_of x) → Stands x = (λ x. entry_stays log r (slot_of x)) in
    record {
      once = λ x.
          let more : waiting_in x (set qs at q') ≡ waiting_in x qs + cond (eqb (t.last + 1) x) 1 0 =
          sum_by-set_more (waiting x) qs at q' no_queue (cond (eqb (t.last + 1) x) 1 0) within (waiting_with_entry x t.epochs e q below) in
          let alike : ◌≡◌ {A = ℕ} (cond (eqb (length log + 1) x) 1 0) (cond (eqb (t.last + 1) x) 1 0) = ap (λ n. cond (eqb (n + 1) x) 1 0) (sym last) in
          omega (arith, more, alike, h.once x, position_in-push log r x);
      outboxes = All-set_at (λ (x : QueueState). All (λ es. All Stands es) x.outboxes) qs at q' no_queue
          (λ inside has. All-set_at (λ (es : List Entry). All Stands es) q.outboxes (owner t.epochs (t.last + 1)) (get_or q.outboxes (owner t.epochs (t.last + 1)) [] ++ e ∷ []) []
          (λ _ old. All-push Stands (get_or q.outboxes (owner t.epochs (t.last + 1)) []) e old stands) has)
          (All-weaker (λ (x : QueueState). All (λ es. All (λ y. IsEntryOf log (slot_of y)) es) x.outboxes) (λ (x : QueueState). All (λ es. All Stands es) x.outboxes)
          (λ x has. All-weaker (λ (es : List Entry). All (λ y. IsEntryOf log (slot_of y)) es) (λ (es : List Entry). All Stands es)
          (λ es old. All-weaker (λ (y : Entry). IsEntryOf log (slot_of y)) Stands stay es old) x.outboxes has) qs h.outboxes);
      entries = All-weaker (λ (m : MaintainerState Record). All (IsEntryOf log) m.entries) (λ (m : MaintainerState Record). All (IsEntryOf (log ++ r ∷ [])) m.entries)
          (λ m has. All-weaker (IsEntryOf log) (IsEntryOf (log ++ r ∷ [])) (entry_stays log r) m.entries has) ms h.entries;
      collected = h.collected;
    }

pub owned_push : (t : TokenState) (qs : List QueueState) (ms : List (MaintainerState Record)) (at : ℕ) (r : Record) → (queue_at qs at).epochs ≡ t.epochs
    → AreOwned t.epochs qs ms → AreOwned t.epochs (set qs at (queue_after t (queue_at qs at) r)) ms
owned_push t qs ms at r same h = record {
  queues = All-set_at (IsDealtBy t.epochs) qs at (queue_after t (queue_at qs at) r) no_queue
      (λ within has. dealt_more t.epochs (queue_at qs at) (entry_at t r) same (all_settled t.epochs (queue_at qs at).epochs (t.last + 1) same) has) h.queues;
  maintainers = h.maintainers;
  numbers = h.numbers;
}

pub aware_push : (dcs d : ℕ) (log : List Record) (gone : List ℕ) (known table : List (List ℕ)) (upto low : ℕ) (r : Record) → IsAware dcs d log gone known table upto low → IsAware dcs d (log ++ r ∷ []) gone known table upto low
aware_push dcs d log gone known table upto low r h = record {
  same = h.same;
  square = h.square;
  own = λ g. h.own g ∙ ap (λ l. count_of l g) (sym (take-append-le upto log (r ∷ []) h.learnt));
  learnt = omega (arith, length_push log r, h.learnt);
  floor = omega (arith, length_push log r, h.floor);
  below = h.below;
}

-- the owner of the next position has an outbox
owner_in_outboxes : (w : World) (d : ℕ) (z : Datacentre) → StandsAt w d z → owner z.token.epochs (z.token.last + 1) < length (queue_at z.queues z.token.at).outboxes
owner_in_outboxes w d z h =
    let q : IsDealtBy z.token.epochs (queue_at z.queues z.token.at) = All-get_or (IsDealtBy z.token.epochs) z.queues z.token.at no_queue h.membership.members.holder h.membership.owned.queues in
    omega (arith, q.outboxes, owner_below z.token.epochs (z.token.last + 1) h.membership.members.dealt)

pub indexers_push : (w : World) (d : ℕ) (z : Datacentre) (r : Record) → StandsAt w d z
    → All (λ i. IsTruePair z.token.epochs (IsFilledIn z.maintainers) i.pair × IsIndexedAt (log_of w d ++ r ∷ []) (length z.indexers) i) z.indexers
indexers_push w d z r h = All-weaker (λ (i : IndexerState). IsTruePair z.token.epochs (IsFilledIn z.maintainers) i.pair × IsIndexedAt (log_of w d) (length z.indexers) i)
    (λ (i : IndexerState). IsTruePair z.token.epochs (IsFilledIn z.maintainers) i.pair × IsIndexedAt (log_of w d ++ r ∷ []) (length z.indexers) i)
    (λ i has. (has.0, indexed_push (log_of w d) r (length z.indexers) i (λ p first covered. filled_within w d z p h (has.0.filled p first covered)) has.1)) z.indexers h.coverage.indexers

-- the sum over the items but the one that left
pub under_way_out : (f : Item → ℕ) (bs : List (List Item)) (fs : List FilterState) (qs : List QueueState) (at : ℕ) (q : QueueState) (items : List Item) (found : Item × List Item) → q.items ≡ (queue_at qs at).items
    → sum_by f items ≡ f found.0 + sum_by f found.1 → under_way f bs fs qs items ≡ f found.0 + under_way f bs fs (set qs at q) found.1
under_way_out f bs fs qs at q items found same sum = omega (arith, in_queues-same f qs at q same)

pub after_out : (f : Item → ℕ) (fs : List FilterState) (qs : List QueueState) (at : ℕ) (q : QueueState) (items : List Item) (found : Item × List Item) → q.items ≡ (queue_at qs at).items
    → sum_by f items ≡ f found.0 + sum_by f found.1 → after_filters f fs qs items ≡ f found.0 + after_filters f fs (set qs at q) found.1
after_out f fs qs at q items found same sum = omega (arith, in_queues-same f qs at q same)

pub name_in-other : (log : List Record) (r : Record) (g t : ℕ) → r.host ≢ g → name_in (log ++ r ∷ []) g t ≡ name_in log g t
name_in-other log r g t other = ap (λ n. cond (leb 1 t && leb t n) 1 0) (count_of-push_other log r g other)

-- the other items, in the same places
pub rest_under_way : (P : Item → Type 0) (bs : List (List Item)) (fs : List FilterState) (qs : List QueueState) (at : ℕ) (q : QueueState) (items rest : List Item) → q.items ≡ (queue_at qs at).items
    → All P rest → AllUnderWay P bs fs qs items → AllUnderWay P bs fs (set qs at q) rest
rest_under_way P bs fs qs at q items rest same all_rest all = record {
  batchers = all.batchers;
  held = all.held;
  out = all.out;
  queues = All_items-same P qs at q same all.queues;
  deferred = all_rest;
}

-- What depends on the log, once record r stands at its end: w is the world before, v the one after.
module _ (w v : World) (d : ℕ) (z : Datacentre) (r : Record) (grown : log_of v d ≡ log_of w d ++ r ∷ []) (h : StandsAt w d z) where
  abbrev queues_new : List QueueState
  queues_new = set z.queues z.token.at (queue_after z.token (queue_at z.queues z.token.at) r)

  -- the record is the next of its host
  pub positions_push : r.host < w.workload.dcs → r.toid ≡ count_of (log_of w d) r.host + 1
      → HasPositions w.workload.dcs d (log_of v d) (gone_of w d) z.token.dc (set z.token.counts r.host r.toid) (z.token.last + 1) queues_new z.maintainers
  positions_push host next = subst (λ l. HasPositions w.workload.dcs d l (gone_of w d) z.token.dc (set z.token.counts r.host r.toid) (z.token.last + 1) queues_new z.maintainers) (sym grown) (record {
    counted = counted_push w.workload.dcs d (log_of w d) z.token.dc z.token.counts z.token.last r h.positions.counted host next;
    placed = placed_push z.token (log_of w d) (gone_of w d) z.queues z.maintainers z.token.at r h.membership.members.holder h.positions.counted.whole (owner_in_outboxes w d z h) h.positions.placed;
  })

  -- the queue has all of the token's epochs
  pub membership_push : (queue_at z.queues z.token.at).epochs ≡ z.token.epochs
      → HasMembership z.token.epochs z.token.queues z.token.at (length z.vectors) (sizes_of (record z { queues = queues_new })) queues_new z.maintainers
  membership_push whole = record {
    owned = owned_push z.token z.queues z.maintainers z.token.at r whole h.membership.owned;
    queues = queues_set z.queues z.token.at (queue_after z.token (queue_at z.queues z.token.at) r) refl refl h.membership.queues;
    members = members_same z.token.epochs z.token.queues z.token.at (length z.vectors) (sizes_of z) (sizes_of (record z { queues = queues_new })) (sizes_with_queue z z.token.at (queue_after z.token (queue_at z.queues z.token.at) r)) h.membership.members;
  }

  pub coverage_push : HasCoverage (log_of v d) z.token.epochs z.first z.maintainers z.vectors z.indexers
  coverage_push = subst (λ l. HasCoverage l z.token.epochs z.first z.maintainers z.vectors z.indexers) (sym grown) (record {
    heads = h.coverage.heads;
    marked = h.coverage.marked;
    served = h.coverage.served;
    indexers = indexers_push w d z r h;
    numbered = h.coverage.numbered;
  })

  pub knowledge_push : HasKnowledge w.workload.dcs d (log_of v d) (gone_of w d) (table_of w d) z.table z.learnt z.floor z.vectors z.indexers z.collected
  knowledge_push = subst (λ l. HasKnowledge w.workload.dcs d l (gone_of w d) (table_of w d) z.table z.learnt z.floor z.vectors z.indexers z.collected) (sym grown) (record {
    aware = aware_push w.workload.dcs d (log_of w d) (gone_of w d) (table_of w d) z.table z.learnt z.floor r h.knowledge.aware;
    below = h.knowledge.below;
    safe = λ p gone. safe_push w.workload.dcs (log_of w d) r z.table z.floor p (h.knowledge.safe p gone);
    named = named_push (log_of w d) r (gone_of w d) z.collected h.knowledge.named;
  })

  -- what a session has seen, and where it reads
  pub seen_push : (past : List ℕ) → AreCovered past (count_of (log_of w d)) → AreCovered past (count_of (log_of v d))
  seen_push past seen = subst (λ l. AreCovered past (count_of l)) (sym grown) (λ g. omega (arith, seen g, count_grows (log_of w d) r g))

  pub pin_push : (x : Session) (p : ℕ) → IsPinned (log_of w d) z.floor x p → IsPinned (log_of v d) z.floor x p
  pin_push x p pinned = subst (λ l. IsPinned l z.floor x p) (sym grown) (pinned_push (log_of w d) r z.floor x p pinned)
