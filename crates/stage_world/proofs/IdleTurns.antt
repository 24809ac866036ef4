-- A turn after which links and datacentres are as they were, epoch lists apart, has no events. By kinds of turns: where one has events,
-- it brings a session on, or adds to the last position, to what is learnt or to the names of what is gone, or takes a packet out of
-- its link. The theorem is `idle_is_silent`.
use Rattle.std.proofs.Common.{◌≡◌, ℕ, zero, suc, ◌+◌, ◌-◌, ◌<◌, Bool, true, false, cond, ltb, leb, eqb, ◌&&◌, List, [], ◌∷◌, length, map, get_or, set, refl, ap, sym, ◌∙◌, arith, Option, Some, None}
use Rattle.std.specs.Option.{option_map_or}
use Rattle.std.proofs.Math.ListN.{get_or-map}
use Rattle.std.proofs.lemmas.Bool.{cond_both, and_from, eq-eqb, true≢false}
use Rattle.std.proofs.lemmas.List.{get_or-set_same, length-append, length-map}
use Rattle.std.proofs.lemmas.List.Edits.{length-remove}
use Rattle.std.proofs.lemmas.Option.{slice_get_within}
use Rattle.causal_deps.specs.declared.record.Record.{Record}
use Rattle.causal_deps.specs.declared.record.Item.{Item}
use Rattle.causal_deps.specs.Counts.{row_of}
use Rattle.abstract_log.specs.declared.event.Event.{Event}
use Rattle.abstract_log.specs.declared.event.Event.TheVariants.{Learn as LearnEvent, Collect as CollectEvent}
use Rattle.abstract_log.specs.declared.script.Outcome.TheVariants.{Absent, NoToken, Busy, LateStart, Announced, AcceptedBy, LateAt, Active, Idle, Sent, Lost, Copied, Member, EpochAdded, LateMark}
use Rattle.abstract_log.specs.declared.script.Step.{Step}
use Rattle.abstract_log.specs.declared.script.Step.TheVariants.{Client, Flush, Pass, Stamp, Token, Place, Gossip, Post, Learn, Send, Deliver, Lose, Copy, Floor, Collect, Announce, Mark, AddMaintainer, AddBatcher, AddQueue, AddSender, AddReceiver, Upgrade}
use Rattle.abstract_log.specs.declared.world.World.{World}
use Rattle.abstract_log.specs.Worlds.{plan_of}
use Rattle.lossy_links.specs.Links.{message_at, without}
use Rattle.maintainer.specs.declared.slot.Slot.{Slot}
use Rattle.record_codec.specs.declared.message.Message.{Message}
use Rattle.toid_filter.specs.Champions.{last_share}
use Rattle.toid_filter.specs.Filters.{Announcement, filter_at, is_past}
use Rattle.stage_world.specs.Stages.{Datacentre, Stages}
use Rattle.stage_world.specs.Turns.{Turned, quiet, where_there, drained, stamp_events, stamp_outcome, stamp_turn, stamped, flush_turn, pass_turn, place_turn, gossip_turn}
use Rattle.stage_world.specs.MoreTurns.{add_maintainer_turn, batcher_added, collect_turn, counts_after, entries_to_go, has_room, learn_turn, learnable, learnt_more, learnt_row, maintainer_added, mark_bound, message_of, names_of, place_of_entry, post_turn, queue_added, receive_turn, receiver_added, same_counts, sender_added}
use Rattle.stage_world.specs.MarkTurns.{accept_next, activate_all, announce_idle, announce_turn, announced, ask_next, cancel_all, mark_turn}
use Rattle.stage_world.specs.LinkTurns.{Moved, copy_turn, deliver_turn, has_lost, link_length, lose_turn, moved_at, put_in_link, send_turn, still, with_link}
use Rattle.stage_world.specs.Whole.{StandsFor, datacentre_at, link_at, nowhere_at}
use Rattle.abstract_log.specs.Turns.{AreTwo, IsStep}
use Rattle.stage_world.specs.Schedules.{step_of, turn_of}
use Rattle.stage_world.specs.Idle.{IsIdleTurn, apart_from_epochs}
use Rattle.stage_world.proofs.IdleClients.{IsSilent, client_silent}

there_silent : (there : Bool) (z : Datacentre) (turned : Turned) → IsSilent z turned → IsSilent z (where_there there z turned)
there_silent there z turned silent = cond_both there turned (quiet Absent z) (IsSilent z) (λ _. silent) (λ _ _. refl)

-- stamp: no position more, so no record
no_stamps : (d last : ℕ) (items : List Item) (rs : List Record) → length rs ≡ 0 → stamp_events d last items rs ≡ []
no_stamps d last [] rs none = refl
no_stamps d last (item ∷ items) [] none = refl
no_stamps d last (item ∷ items) (r ∷ rs) none = absurd (omega (arith, none))

stamp_silent : (d : ℕ) (z : Datacentre) (q : ℕ) → IsSilent z (stamp_turn d z q)
stamp_silent d z q = cond_both (eqb z.token.at q)
    (record { after = stamped z q; outcome = stamp_outcome z q; events = stamp_events d z.token.last (drained z q).stamped (drained z q).records }) (quiet NoToken z) (IsSilent z)
    (λ _ same. no_stamps d z.token.last (drained z q).stamped (drained z q).records (omega (arith, ap (λ (y : Datacentre). y.token.last) same))) (λ _ _. refl)

-- learn: no position more, so the same counts
same_counts-refl : (xs : List ℕ) → same_counts xs xs ≡ true
same_counts-refl [] = refl
same_counts-refl (x ∷ xs) = and_from (eqb x x) (same_counts xs xs) (eq-eqb x x refl) (same_counts-refl xs)

learn_silent : (d : ℕ) (z : Datacentre) → IsSilent z (learn_turn d z)
learn_silent d z = cond_both (same_counts (learnt_row d z) (row_of z.table d)) [] (LearnEvent d (learnt_row d z) ∷ []) (λ (es : List Event). apart_from_epochs (learnt_more d z) ≡ apart_from_epochs z → es ≡ [])
    (λ _ _. refl)
    (λ differs same.
    let upto : learnable z ≡ z.learnt = ap (λ (y : Datacentre). y.learnt) same in
    let nothing : learnable z - z.learnt ≡ 0 = omega (arith, upto) in
    let row : learnt_row d z ≡ row_of z.table d = ap (λ k. counts_after z.maintainers (row_of z.table d) z.learnt k) nothing in
    absurd (true≢false (sym (ap (λ r. same_counts r (row_of z.table d)) row ∙ same_counts-refl (row_of z.table d)) ∙ differs)))

-- collect: no name more, so nothing goes
no_places : (d : ℕ) (es : List (Slot Record)) → length es ≡ 0 → map (CollectEvent d) (map (λ (e : Slot Record). e.lid) es) ≡ []
no_places d [] none = refl
no_places d (e ∷ es) none = absurd (omega (arith, none))

collect_silent : (d : ℕ) (z : Datacentre) (m : ℕ) → IsSilent z (collect_turn d z m)
collect_silent d z m same = no_places d (entries_to_go z m)
    (omega (arith, ap (λ (y : Datacentre). length y.collected) same, length-append z.collected (map place_of_entry (entries_to_go z m)), length-map (entries_to_go z m) place_of_entry))

-- turns that never have events
announce_silent : (z : Datacentre) (h t : ℕ) → (announce_turn z h t).events ≡ []
announce_silent z h t = cond_both (ltb (last_share z.map h).filters 16) (option_map_or (λ a. quiet Busy z) z.announcement (announce_idle z h t)) (quiet Absent z) (λ (u : Turned). u.events ≡ [])
    (λ _. at z.announcement) (λ _. refl)
  where
    at : (o : Option Announcement) → (option_map_or (λ a. quiet Busy z) o (announce_idle z h t)).events ≡ []
    at (Some a) = refl
    at None = cond_both (leb t (last_share z.map h).start) (quiet (LateStart (last_share z.map h).start) z) (quiet Announced (announced z h t)) (λ (u : Turned). u.events ≡ []) (λ _. refl) (λ _. refl)

mark_silent : (z : Datacentre) → (mark_turn z).events ≡ []
mark_silent z = at z.announcement
  where
    at : (o : Option Announcement) → (option_map_or (λ a. cond (ltb a.next (length z.filters)) (ask_next z a) (quiet (Active (last_share (activate_all z a).map a.host).filters) (activate_all z a))) o (quiet Idle z)).events ≡ []
    at None = refl
    at (Some a) = cond_both (ltb a.next (length z.filters)) (ask_next z a) (quiet (Active (last_share (activate_all z a).map a.host).filters) (activate_all z a)) (λ (u : Turned). u.events ≡ [])
        (λ _. cond_both (is_past a.host a.mark (filter_at z.filters a.next)) (quiet (LateAt a.next (get_or (filter_at z.filters a.next).reached a.host 0)) (cancel_all z)) (quiet (AcceptedBy a.next) (accept_next z a)) (λ (u : Turned). u.events ≡ [])
        (λ _. refl) (λ _. refl)) (λ _. refl)

join_silent : (z : Datacentre) (p : ℕ) → (add_maintainer_turn z p).events ≡ []
join_silent z p = cond_both (ltb (mark_bound z) p) (quiet (EpochAdded p (length z.maintainers + 1)) (maintainer_added z p)) (quiet (LateMark (mark_bound z)) z) (λ (u : Turned). u.events ≡ []) (λ _. refl) (λ _. refl)

-- The turn of one datacentre.
turn_silent : (d : ℕ) (z : Datacentre) (step : Step) → IsSilent z (turn_of d z step)
turn_silent d z (Client s) = client_silent d z s
turn_silent d z (Flush _ b) = there_silent (ltb b (length z.batchers)) z (flush_turn z b) (λ _. refl)
turn_silent d z (Pass _ f q) = there_silent (ltb f (length z.filters) && ltb q (length z.queues)) z (pass_turn z f q) (λ _. refl)
turn_silent d z (Stamp _ q) = there_silent (ltb q (length z.queues)) z (stamp_turn d z q) (stamp_silent d z q)
turn_silent d z (Token _) = λ _. refl
turn_silent d z (Place _ q m) = there_silent (ltb q (length z.queues) && ltb m (length z.maintainers)) z (place_turn z q m) (λ _. refl)
turn_silent d z (Gossip _ m k) = there_silent (ltb m (length z.maintainers) && ltb k (length z.maintainers)) z (gossip_turn z m k) (λ _. refl)
turn_silent d z (Post _ m i) = there_silent (ltb m (length z.maintainers) && ltb i (length z.indexers)) z (post_turn z m i) (λ _. refl)
turn_silent d z (Learn _) = learn_silent d z
turn_silent d z (Send _ k e) = there_silent (ltb k z.senders) z (quiet (Sent (names_of (message_of d z k e).records) 0 false) z) (λ _. refl)
turn_silent d z (Floor _ p) = λ _. refl
turn_silent d z (Collect _ m) = there_silent (ltb m (length z.maintainers)) z (collect_turn d z m) (collect_silent d z m)
turn_silent d z (Announce _ h t) = λ _. announce_silent z h t
turn_silent d z (Mark _) = λ _. mark_silent z
turn_silent d z (AddMaintainer _ p) = there_silent (has_room (length z.maintainers)) z (add_maintainer_turn z p) (λ _. join_silent z p)
turn_silent d z (AddBatcher _) = there_silent (has_room (length z.batchers)) z (quiet (Member (length z.batchers)) (batcher_added z)) (λ _. refl)
turn_silent d z (AddQueue _) = there_silent (has_room (length z.queues)) z (quiet (Member (length z.queues)) (queue_added z)) (λ _. refl)
turn_silent d z (AddSender _) = there_silent (has_room z.senders) z (quiet (Member z.senders) (sender_added z)) (λ _. refl)
turn_silent d z (AddReceiver _) = there_silent (has_room z.receivers) z (quiet (Member z.receivers) (receiver_added z)) (λ _. refl)
turn_silent d z (Upgrade _) = λ _. refl
turn_silent d z (Deliver _ _ _ _) = λ _. refl
turn_silent d z (Lose _ _ _) = λ _. refl
turn_silent d z (Copy _ _ _) = λ _. refl

-- among all datacentres
own_silent : (z : Stages) (step : Step) (d : ℕ) → d < length z.datacentres
    → map apart_from_epochs (set z.datacentres d (turn_of d (datacentre_at z d) step).after) ≡ map apart_from_epochs z.datacentres → (turn_of d (datacentre_at z d) step).events ≡ []
own_silent z step d within same =
    let zs : List Datacentre = z.datacentres in
    let new : Datacentre = (turn_of d (datacentre_at z d) step).after in
    turn_silent d (datacentre_at z d) step
    (ap apart_from_epochs (sym (get_or-set_same zs d new nowhere_at within)) ∙ sym (get_or-map apart_from_epochs (set zs d new) d nowhere_at)
    ∙ ap (λ ys. get_or ys d (apart_from_epochs nowhere_at)) same ∙ get_or-map apart_from_epochs zs d nowhere_at)

there_is : (w : World) (z : Stages) (d : ℕ) → StandsFor w z → d < w.workload.dcs → d < length z.datacentres
there_is w z d h within = omega (arith, h.size, within)

-- deliver: the link has a packet less
taken_out : (ms : List Message) (k : ℕ) (m : Message) → message_at ms k ≡ Some m → length (without ms k) + 1 ≡ length ms
taken_out ms zero m is = absurd (cc)
taken_out ms (suc k) m is = length-remove ms k (slice_get_within ms k m is)

delivered_silent : (w : World) (z : Stages) (d e k r : ℕ) → StandsFor w z → AreTwo w.workload.dcs d e → (deliver_turn z d e k r).after.links ≡ z.links → (deliver_turn z d e k r).events ≡ []
delivered_silent w z d e k r h two = at (message_at (link_at z d e) k) refl
  where
    at : (o : Option Message) → message_at (link_at z d e) k ≡ o
        → (option_map_or (λ m. moved_at (with_link z d e (without (link_at z d e) k)) e (receive_turn e (datacentre_at z e) r m)) o (still Absent z)).after.links ≡ z.links
        → (option_map_or (λ m. moved_at (with_link z d e (without (link_at z d e) k)) e (receive_turn e (datacentre_at z e) r m)) o (still Absent z)).events ≡ []
    at None is same = refl
    at (Some m) is same =
        let row : List (List Message) = get_or z.links d [] in
        let left : List Message = without (link_at z d e) k in
        let now : link_at (with_link z d e left) d e ≡ left =
        ap (λ ls. get_or ls e []) (get_or-set_same z.links d (set row e left) [] (omega (arith, h.linked.0, two.first))) ∙ get_or-set_same row e left [] (omega (arith, h.linked.1 d two.first, two.second)) in
        let kept : left ≡ link_at z d e = sym now ∙ ap (λ ls. get_or (get_or ls d []) e []) same in
        absurd (omega (arith, taken_out (link_at z d e) k m is, ap length kept))

copied_silent : (z : Stages) (d e k : ℕ) → (copy_turn z d e k).events ≡ []
copied_silent z d e k = at (message_at (link_at z d e) k)
  where
    at : (o : Option Message) → (option_map_or (λ m. still (Copied (link_length (put_in_link z d e m) d e) (has_lost z d e)) (put_in_link z d e m)) o (still Absent z)).events ≡ []
    at None = refl
    at (Some m) = refl

lost_silent : (z : Stages) (d e k : ℕ) → (lose_turn z d e k).events ≡ []
lost_silent z d e k = at (message_at (link_at z d e) k)
  where
    at : (o : Option Message) → (option_map_or (λ m. still Lost (with_link z d e (without (link_at z d e) k))) o (still Absent z)).events ≡ []
    at None = refl
    at (Some m) = refl

-- An idle turn has no events.
pub idle_is_silent : (w : World) (z : Stages) (step : Step) → StandsFor w z → IsStep w.workload step → IsIdleTurn w.workload z step → (step_of w.workload z step).events ≡ []
idle_is_silent w z (Client s) h good idle = own_silent z (Client s) (plan_of w.workload s).home (there_is w z (plan_of w.workload s).home h (h.shape.workload.homes s good)) idle.datacentres
idle_is_silent w z (Flush d b) h good idle = own_silent z (Flush d b) d (there_is w z d h good) idle.datacentres
idle_is_silent w z (Pass d f q) h good idle = own_silent z (Pass d f q) d (there_is w z d h good) idle.datacentres
idle_is_silent w z (Stamp d q) h good idle = own_silent z (Stamp d q) d (there_is w z d h good) idle.datacentres
idle_is_silent w z (Token d) h good idle = refl
idle_is_silent w z (Place d q m) h good idle = own_silent z (Place d q m) d (there_is w z d h good) idle.datacentres
idle_is_silent w z (Gossip d m k) h good idle = own_silent z (Gossip d m k) d (there_is w z d h good) idle.datacentres
idle_is_silent w z (Post d m i) h good idle = own_silent z (Post d m i) d (there_is w z d h good) idle.datacentres
idle_is_silent w z (Learn d) h good idle = own_silent z (Learn d) d (there_is w z d h good) idle.datacentres
idle_is_silent w z (Floor d p) h good idle = refl
idle_is_silent w z (Collect d m) h good idle = own_silent z (Collect d m) d (there_is w z d h good) idle.datacentres
idle_is_silent w z (Announce d g t) h good idle = announce_silent (datacentre_at z d) g t
idle_is_silent w z (Mark d) h good idle = mark_silent (datacentre_at z d)
idle_is_silent w z (AddMaintainer d p) h good idle = own_silent z (AddMaintainer d p) d (there_is w z d h good.0) idle.datacentres
idle_is_silent w z (AddBatcher d) h good idle = own_silent z (AddBatcher d) d (there_is w z d h good) idle.datacentres
idle_is_silent w z (AddQueue d) h good idle = own_silent z (AddQueue d) d (there_is w z d h good) idle.datacentres
idle_is_silent w z (AddSender d) h good idle = own_silent z (AddSender d) d (there_is w z d h good) idle.datacentres
idle_is_silent w z (AddReceiver d) h good idle = own_silent z (AddReceiver d) d (there_is w z d h good) idle.datacentres
idle_is_silent w z (Send d k e) h good idle = cond_both (ltb k (datacentre_at z d).senders) (send_turn z d k e) (still Absent z) (λ (m : Moved). m.events ≡ []) (λ _. refl) (λ _. refl)
idle_is_silent w z (Upgrade d) h good idle = refl
idle_is_silent w z (Deliver d e k r) h good idle = cond_both (ltb r (datacentre_at z e).receivers) (deliver_turn z d e k r) (still Absent z) (λ (m : Moved). m.after.links ≡ z.links → m.events ≡ [])
    (λ _. delivered_silent w z d e k r h good) (λ _ _. refl) idle.links
idle_is_silent w z (Lose d e k) h good idle = lost_silent z d e k
idle_is_silent w z (Copy d e k) h good idle = copied_silent z d e k
