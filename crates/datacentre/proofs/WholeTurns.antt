-- Turns of a whole datacentre: what the lent stages leave is what the stage world's turn leaves.
use Rattle.std.proofs.Common.{Result, Ok, Err, IfOk, OnOk, ◌≡◌, ℕ, ◌<◌, ◌≤◌, Bool, true, false, ltb, nat_lt, ◌&&◌, List, [], ◌++◌, length, map, set, get_or, refl, ap, ap₂, sym, ◌∙◌, subst, inl, inr, arith}
use Rattle.std.specs.List.{fold}
use Rattle.std.specs.Option.{ForSome}
use Rattle.std.proofs.lemmas.Bool.{cases_eq, lt-ltb, le-ltb}
use Rattle.std.proofs.lemmas.List.{get_or-map, get_or-set_other, get_or_default, length-map, length-set, map-set, set-get_or}
use Rattle.std.proofs.lemmas.Grind.{get_or-set_at}
use Rattle.causal_deps.specs.declared.record.Record.{Record}
use Rattle.causal_deps.specs.declared.record.Item.{Item}
use Rattle.causal_deps.specs.Counts.{raised_row, row_of}
use Rattle.abstract_log.specs.declared.script.Outcome.TheVariants.{Absent, Flushed, Head, Learnt, PassedOn, Placed}
use Rattle.flstore_rounds.specs.Heads.{Pair, blank, head}
use Rattle.awareness_table.specs.Awareness.{Awareness}
use Rattle.maintainer.specs.Maintainers.{MaintainerState, learned, moved_in, plain}
use Rattle.token_queue.specs.Queues.{QueueState, TokenState, outbox_for, tokenless, without_outbox}
use Rattle.toid_filter.specs.Filters.{FilterState, filter_at}
use Rattle.stage_world.specs.Stages.{Datacentre, Session, no_epochs, no_maintainer, no_queue, batcher_at, maintainer_at, queue_at, slot_of, vector_at}
use Rattle.stage_world.specs.Turns.{Turned, where_there, unless_empty, taken_by, flush_items, flush_turn, gossip_turn, pass_turn, place_turn, stamp_turn, token_turn}
use Rattle.stage_world.specs.MoreTurns.{learn_turn}
use Rattle.stage_world.specs.Idle.{TellsApart, TellsChange, apart_from_epochs}
use Rattle.datacentre.specs.declared.parts.Parts.{Parts}
use Rattle.stage_turns.specs.declared.done.TurnDone.{TurnDone}
use Rattle.stage_turns.specs.Changing.{has_some, marks_in, stamp_changes}
use Rattle.stage_turns.specs.Flushing.{MayFlush}
use Rattle.stage_turns.specs.Learning.{MayLearn, learnable_by, row_events, row_learnt}
use Rattle.stage_turns.specs.Lent.{HaveToken, MayMoveToken, maintainers_seen, queues_seen, token_at_next, token_seen}
use Rattle.stage_turns.specs.Placing.{MayPlaceFrom, lid_of}
use Rattle.datacentre.specs.Seen.{IsWhole, pin_in, seen}
use Rattle.stage_turns.specs.Stamping.{MayStamp, events_stamped, outcome_stamped, queue_stamped, sessions_stamped}
use Rattle.stage_turns.specs.Telling.{MayGossip, own_vector, vectors_told}
use Rattle.datacentre.specs.Turning.{IsTurned, MayTurn}
use Rattle.datacentre.proofs.PinLemmas.{pins_stamped}
use Rattle.stage_turns.proofs.ChangeLemmas.{flush_tells, gossip_tells, learn_tells, pass_tells, place_tells, same_tells, token_tells}
use Rattle.stage_turns.proofs.FlushMay.{may_flush, pass_seen}
use Rattle.stage_turns.proofs.LearningLemmas.{learn_is_turn, may_learn}
use Rattle.stage_turns.proofs.PlacingLemmas.{may_place_from, place_is_turn}
use Rattle.stage_turns.proofs.RingLemmas.{token_is}
use Rattle.stage_turns.proofs.StampStands.{queue_may_stamp, queue_seen, token_may_move}
use Rattle.stage_turns.proofs.StampTurns.{stamp_is_turn}
use Rattle.stage_turns.proofs.TellingLemmas.{gossip_is_turn, may_gossip}

-- a clause of a result, from another
pub if_ok : {T E : Type 0} (r : Result T E) (P Q : T → Type 0) → IfOk r P → ((x : T) → P x → Q x) → IfOk r Q
if_ok (Ok x) P Q p f = f x p
if_ok (Err e) P Q p f = tt

-- five clauses of one result
pub if_five : {T E : Type 0} (r : Result T E) (A B : Type 0) (P Q R S : T → Type 0) → OnOk r A → OnOk r B → IfOk r P → IfOk r Q → IfOk r R → ((x : T) → A → B → P x → Q x → R x → S x) → IfOk r S
if_five (Ok x) A B P Q R S a b p q t f = f x a b p q t
if_five (Err e) A B P Q R S a b p q t f = tt

-- the element that is lent
pub lent_is : {X : Type 0} (xs : List X) (i : ℕ) (x d : X) → x ≡ get_or xs i x → i < length xs → x ≡ get_or xs i d
lent_is xs i x d is within = is ∙ get_or_default xs i x d within

both_true : (a b : Bool) → a ≡ true → b ≡ true → (a && b) ≡ true
both_true a b first second = ap₂ (λ x y. x && y) first second

-- what is told of a change
pub told_of : (old new : Datacentre) (c b : Bool) → c ≡ b → TellsChange b old new → TellsChange c old new
told_of old new c b is h = subst (λ t. TellsChange t old new) (sym is) h

-- the members are there
pub there : (p new : Parts) (done : TurnDone) (b : Bool) (turned : Turned) → b ≡ true → IsTurned p new done turned → IsTurned p new done (where_there b (seen p) turned)
there p new done b turned is h = subst (λ x. IsTurned p new done (where_there x (seen p) turned)) (sym is) h

-- a member is not there
not_there : (p : Parts) (done : TurnDone) (b : Bool) (turned : Turned) → b ≡ false → IsWhole p → done ≡ record { outcome = Absent; events = []; changed = false } → IsTurned p p done (where_there b (seen p) turned)
not_there p done b turned is whole same = subst (λ x. IsTurned p p done (where_there x (seen p) turned)) (sym is) (record {
  stages = refl;
  here = refl;
  whole = whole;
  outcome = ap (λ (t : TurnDone). t.outcome) same;
  events = ap (λ (t : TurnDone). t.events) same;
  changed = told_of (seen p) (seen p) done.changed false (ap (λ (t : TurnDone). t.changed) same) (same_tells (apart_from_epochs (seen p)));
})

pub none_there : (p : Parts) (done : TurnDone) (i n : ℕ) (turned : Turned) → MayTurn p → n ≤ i → done ≡ record { outcome = Absent; events = []; changed = false } → IsTurned p p done (where_there (ltb i n) (seen p) turned)
none_there p done i n turned may out same = not_there p done (ltb i n) turned (le-ltb i n out) may.whole same

pub first_not_there : (p : Parts) (done : TurnDone) (i n k m : ℕ) (turned : Turned) → MayTurn p → n ≤ i → done ≡ record { outcome = Absent; events = []; changed = false } → IsTurned p p done (where_there (ltb i n && ltb k m) (seen p) turned)
first_not_there p done i n k m turned may out same = not_there p done (ltb i n && ltb k m) turned (ap (λ x. x && ltb k m) (le-ltb i n out)) may.whole same

pub second_not_there : (p : Parts) (done : TurnDone) (i n k m : ℕ) (turned : Turned) → MayTurn p → i < n → m ≤ k → done ≡ record { outcome = Absent; events = []; changed = false } → IsTurned p p done (where_there (ltb i n && ltb k m) (seen p) turned)
second_not_there p done i n k m turned may within out same = not_there p done (ltb i n && ltb k m) turned (ap₂ (λ x y. x && y) (lt-ltb i n within) (le-ltb k m out)) may.whole same

-- flush

pub flush_may : (p : Parts) (b : ℕ) (x : List Item) → MayTurn p → b < length p.batchers → x ≡ get_or p.batchers b x → MayFlush p.map p.filters x
flush_may p b x may within is =
    subst (MayFlush p.map p.filters) (sym (lent_is p.batchers b x [] is within)) (may_flush may.log.world p.dc (seen p) b within may.log.stands)

pub flush_is : (p : Parts) (b : ℕ) (x y : List Item) (fs : List FilterState) (done : TurnDone) → MayTurn p → b < length p.batchers → x ≡ get_or p.batchers b x
    → y ≡ [] → fs ≡ fold (taken_by p.map) p.filters x → done.outcome ≡ unless_empty x (Flushed (flush_items p.map p.filters x)) → done.events ≡ [] → done.changed ≡ has_some x
    → IsTurned p (record p { batchers = set p.batchers b y; filters = fs }) done (where_there (ltb b (length p.batchers)) (seen p) (flush_turn (seen p) b))
flush_is p b x y fs done may within is empty filters outcome events changed =
    let z : Datacentre = seen p in
    let at : x ≡ batcher_at p.batchers b = lent_is p.batchers b x [] is within in
    there p (record p { batchers = set p.batchers b y; filters = fs }) done (ltb b (length p.batchers)) (flush_turn z b) (lt-ltb b (length p.batchers) within) (record {
      stages = ap₂ (λ (ys : List Item) gs. record z { batchers = set p.batchers b ys; filters = gs }) empty (filters ∙ ap (fold (taken_by p.map) p.filters) at);
      here = refl;
      whole = record { token = may.whole.token; table = may.whole.table; senders = may.whole.senders; pins = may.whole.pins; many = may.whole.many };
      outcome = outcome ∙ ap (λ (xs : List Item). unless_empty xs (Flushed (flush_items p.map p.filters xs))) at;
      events = events;
      changed = told_of z (flush_turn z b).after done.changed (has_some (batcher_at z.batchers b)) (changed ∙ ap (λ (xs : List Item). has_some xs) at) (flush_tells z b);
    })

-- queues of which one changed, but for the token

module _ (qs : List QueueState) (t : TokenState) (q : ℕ) (y : QueueState) (has : HaveToken qs t) (within : q < length qs) (kept : y.token ≡ (queue_at qs q).token) where
  token_kept : (k : ℕ) → (queue_at (set qs q y) k).token ≡ (queue_at qs k).token
  token_kept k = elim (cases_eq k q) [
    | inl same ↦ ap (λ (x : QueueState). x.token) (get_or-set_at qs q k y no_queue same within) ∙ kept ∙ ap (λ i. (queue_at qs i).token) (sym same)
    | inr other ↦ ap (λ (x : QueueState). x.token) (get_or-set_other qs q k y no_queue other)
  ]

  have_still : HaveToken (set qs q y) t
  have_still = record {
    there = omega (arith, has.there, length-set qs q y);
    holder = token_kept t.at ∙ has.holder;
    others = λ i inside other. token_kept i ∙ has.others i (omega (arith, inside, length-set qs q y)) other;
  }

  token_stays : token_seen (set qs q y) ≡ t
  token_stays = token_is (set qs q y) t have_still

  have_seen : HaveToken (set qs q y) (token_seen (set qs q y))
  have_seen = subst (HaveToken (set qs q y)) (sym token_stays) have_still

-- pass

pub pass_is : (p : Parts) (f q : ℕ) (x y : QueueState) (fs : List FilterState) (done : TurnDone) → MayTurn p → f < length p.filters → q < length p.queues → x ≡ get_or p.queues q x
    → fs ≡ set p.filters f (record (filter_at p.filters f) { out = [] }) → y ≡ record x { items = x.items ++ (filter_at p.filters f).out }
    → done.outcome ≡ unless_empty (filter_at p.filters f).out (PassedOn (length (filter_at p.filters f).out)) → done.events ≡ [] → done.changed ≡ has_some (filter_at p.filters f).out
    → IsTurned p (record p { filters = fs; queues = set p.queues q y }) done (where_there (ltb f (length p.filters) && ltb q (length p.queues)) (seen p) (pass_turn (seen p) f q))
pass_is p f q x y fs done may in_f in_q is filters new outcome events changed =
    let z : Datacentre = seen p in
    let items : List Item = (filter_at p.filters f).out in
    let at : x ≡ queue_at p.queues q = lent_is p.queues q x no_queue is in_q in
    let same : tokenless x ≡ queue_at z.queues q = ap tokenless at ∙ queue_seen p.queues z.queues q refl in
    let kept : y.token ≡ (queue_at p.queues q).token = ap (λ (a : QueueState). a.token) new ∙ ap (λ (a : QueueState). a.token) at in
    let queues : queues_seen (set p.queues q y) ≡ set z.queues q (record (queue_at z.queues q) { items = (queue_at z.queues q).items ++ items }) =
    map-set tokenless p.queues q y ∙ ap (set z.queues q) (ap tokenless new ∙ pass_seen x (queue_at z.queues q) items same) in
    there p (record p { filters = fs; queues = set p.queues q y }) done (ltb f (length p.filters) && ltb q (length p.queues)) (pass_turn z f q)
    (both_true (ltb f (length p.filters)) (ltb q (length p.queues)) (lt-ltb f (length p.filters) in_f) (lt-ltb q (length p.queues) in_q)) (record {
      stages =
          ap₂ (λ gs qs. record z { filters = gs; queues = qs; token = token_seen (set p.queues q y) }) filters queues
          ∙ ap (λ t. record z { filters = set p.filters f (record (filter_at p.filters f) { out = [] }); queues = set z.queues q (record (queue_at z.queues q) { items = (queue_at z.queues q).items ++ items }); token = t })
          (token_stays p.queues z.token q y may.whole.token in_q kept);
      here = refl;
      whole = record { token = have_seen p.queues z.token q y may.whole.token in_q kept; table = may.whole.table; senders = may.whole.senders; pins = may.whole.pins; many = may.whole.many };
      outcome = outcome;
      events = events;
      changed = told_of z (pass_turn z f q).after done.changed (has_some items) changed (pass_tells z f q in_f);
    })

-- stamp

pub stamp_may : (p : Parts) (q : ℕ) (x : QueueState) → MayTurn p → q < length p.queues → x ≡ get_or p.queues q x → ForSome x.token (λ t. MayStamp p.dc x t p.sessions)
stamp_may p q x may within is =
    subst (λ (y : QueueState). ForSome y.token (λ t. MayStamp p.dc y t p.sessions)) (sym (lent_is p.queues q x no_queue is within))
    (queue_may_stamp may.log.world p.dc (seen p) p.queues q may.log.lawful may.log.stands refl may.whole.token within)

pub stamp_is : (p : Parts) (q : ℕ) (x y : QueueState) (xs : List Session) (done : TurnDone) → MayTurn p → q < length p.queues → x ≡ get_or p.queues q x → y ≡ queue_stamped x → xs ≡ sessions_stamped x p.sessions
    → done.outcome ≡ outcome_stamped x → done.events ≡ events_stamped p.dc x → done.changed ≡ stamp_changes x
    → IsTurned p (record p { queues = set p.queues q y; sessions = xs }) done (where_there (ltb q (length p.queues)) (seen p) (stamp_turn p.dc (seen p) q))
stamp_is p q x y xs done may within is new sessions outcome events changed =
    let z : Datacentre = seen p in
    let turned : Turned = stamp_turn p.dc z q in
    let at : x ≡ queue_at p.queues q = lent_is p.queues q x no_queue is within in
    let turn = stamp_is_turn p.dc z p.queues q refl may.whole.token within in
    let left : set p.queues q y ≡ set p.queues q (queue_stamped (queue_at p.queues q)) = ap (set p.queues q) (new ∙ ap queue_stamped at) in
    let has : HaveToken (set p.queues q y) turned.after.token = subst (λ qs. HaveToken qs turned.after.token) (sym left) turn.token in
    let token : token_seen (set p.queues q y) ≡ turned.after.token = token_is (set p.queues q y) turned.after.token has in
    there p (record p { queues = set p.queues q y; sessions = xs }) done (ltb q (length p.queues)) turned (lt-ltb q (length p.queues) within) (record {
      stages =
          ap₂ (λ qs t. record z { sessions = xs; queues = qs; token = t }) (ap queues_seen left ∙ turn.queues) token
          ∙ ap (λ ss. record z { sessions = ss; queues = turned.after.queues; token = turned.after.token }) (sessions ∙ ap (λ a. sessions_stamped a p.sessions) at ∙ turn.sessions)
          ∙ sym turn.others;
      here = refl;
      whole = record { token = subst (HaveToken (set p.queues q y)) (sym token) has; table = may.whole.table; senders = may.whole.senders; pins = λ n. may.whole.pins n ∙ sym (ap (λ ss. pin_in ss n) sessions ∙ pins_stamped x p.sessions n); many = may.whole.many };
      outcome = outcome ∙ ap outcome_stamped at ∙ turn.outcome;
      events = events ∙ ap (events_stamped p.dc) at ∙ turn.events;
      changed = told_of z turned.after done.changed (stamp_changes (queue_at p.queues q)) (changed ∙ ap stamp_changes at) turn.changed;
    })

-- token

pub token_may : (p : Parts) → MayTurn p → MayMoveToken p.queues (token_seen p.queues)
token_may p may = token_may_move may.log.world p.dc (seen p) p.queues may.log.stands refl may.whole.token

pub token_moved_is : (p : Parts) (qs : List QueueState) (done : TurnDone) → MayTurn p → queues_seen qs ≡ queues_seen p.queues → token_seen qs ≡ token_at_next (token_seen p.queues)
    → HaveToken qs (token_at_next (token_seen p.queues)) → done.outcome ≡ (token_turn (seen p)).outcome → done.events ≡ [] → done.changed ≡ nat_lt 1 (length p.queues)
    → IsTurned p (record p { queues = qs }) done (token_turn (seen p))
token_moved_is p qs done may queues token has outcome events changed = record {
  stages = ap₂ (λ xs t. record (seen p) { queues = xs; token = t }) queues token;
  here = refl;
  whole = record { token = subst (HaveToken qs) (sym token) has; table = may.whole.table; senders = may.whole.senders; pins = may.whole.pins; many = may.whole.many };
  outcome = outcome;
  events = events;
  changed = told_of (seen p) (token_turn (seen p)).after done.changed (nat_lt 1 (token_seen p.queues).queues) (changed ∙ ap (nat_lt 1) (sym (token_may p may).ring))
      (token_tells (seen p) (omega (arith, (token_may p may).has.there, (token_may p may).ring)));
}

-- place

pub maintainer_lent : (p : Parts) (m : ℕ) (x : MaintainerState Record) → m < length p.maintainers → x ≡ get_or p.maintainers m x → plain x ≡ maintainer_at (maintainers_seen p.maintainers) m
maintainer_lent p m x within is =
    ap plain (lent_is p.maintainers m x no_maintainer is within) ∙ sym (get_or-map (λ (y : MaintainerState Record). plain y) p.maintainers m no_maintainer no_maintainer within)

queue_lent : (p : Parts) (q : ℕ) (x : QueueState) → q < length p.queues → x ≡ get_or p.queues q x → tokenless x ≡ queue_at (queues_seen p.queues) q
queue_lent p q x within is = ap tokenless (lent_is p.queues q x no_queue is within) ∙ queue_seen p.queues (queues_seen p.queues) q refl

pub as_many : (p : Parts) → length (maintainers_seen p.maintainers) ≡ length p.maintainers
as_many p = length-map p.maintainers (λ (y : MaintainerState Record). plain y)

pub member_few : (p : Parts) (m : ℕ) → MayTurn p → m < length p.maintainers → m < 16
member_few p m may within = omega (arith, within, as_many p, may.log.stands.membership.members.ranges.maintainers.1)

pub place_may : (p : Parts) (q m : ℕ) (queue : QueueState) (x : MaintainerState Record) → MayTurn p → q < length p.queues → m < length p.maintainers → queue ≡ get_or p.queues q queue → x ≡ get_or p.maintainers m x → MayPlaceFrom queue m x
place_may p q m queue x may in_q in_m is_q is_m =
    may_place_from may.log.world p.dc (seen p) q m (omega (arith, in_q, length-map p.queues tokenless)) (omega (arith, in_m, as_many p)) may.log.lawful may.log.stands
    queue x (queue_lent p q queue in_q is_q) (maintainer_lent p m x in_m is_m)

pub place_is : (p : Parts) (q m : ℕ) (queue queue' : QueueState) (x x' : MaintainerState Record) (done : TurnDone) → MayTurn p → q < length p.queues → m < length p.maintainers
    → queue ≡ get_or p.queues q queue → x ≡ get_or p.maintainers m x
    → queue' ≡ without_outbox queue m → plain x' ≡ moved_in (learned (plain x) queue.epochs) (map slot_of (outbox_for queue m))
    → done.outcome ≡ unless_empty (outbox_for queue m) (Placed (map lid_of (outbox_for queue m))) → done.events ≡ [] → done.changed ≡ has_some (outbox_for queue m)
    → IsTurned p (record p { queues = set p.queues q queue'; maintainers = set p.maintainers m x' }) done (where_there (ltb q (length p.queues) && ltb m (length p.maintainers)) (seen p) (place_turn (seen p) q m))
place_is p q m queue queue' x x' done may in_q in_m is_q is_m new_q new_m outcome events changed =
    let z : Datacentre = seen p in
    let turned : Turned = place_turn z q m in
    let turn = place_is_turn z q m queue queue' x x' done.outcome (queue_lent p q queue in_q is_q) (maintainer_lent p m x in_m is_m) new_q new_m outcome in
    let kept : queue'.token ≡ (queue_at p.queues q).token = ap (λ (a : QueueState). a.token) new_q ∙ ap (λ (a : QueueState). a.token) (lent_is p.queues q queue no_queue is_q in_q) in
    there p (record p { queues = set p.queues q queue'; maintainers = set p.maintainers m x' }) done (ltb q (length p.queues) && ltb m (length p.maintainers)) turned
    (both_true (ltb q (length p.queues)) (ltb m (length p.maintainers)) (lt-ltb q (length p.queues) in_q) (lt-ltb m (length p.maintainers) in_m)) (record {
      stages =
          ap₂ (λ qs ms. record z { queues = qs; token = token_seen (set p.queues q queue'); maintainers = ms }) (map-set tokenless p.queues q queue' ∙ turn.queues)
          (map-set (λ (y : MaintainerState Record). plain y) p.maintainers m x' ∙ turn.maintainers)
          ∙ ap (λ t. record turned.after { token = t }) (token_stays p.queues z.token q queue' may.whole.token in_q kept);
      here = refl;
      whole = record { token = have_seen p.queues z.token q queue' may.whole.token in_q kept; table = may.whole.table; senders = may.whole.senders; pins = may.whole.pins; many = may.whole.many };
      outcome = turn.outcome;
      events = events;
      changed = told_of z turned.after done.changed (has_some (outbox_for (queue_at z.queues q) m)) (changed ∙ ap (λ (a : QueueState). has_some (outbox_for a m)) (queue_lent p q queue in_q is_q))
          (place_tells z q m (omega (arith, in_q, length-map p.queues tokenless)));
    })

-- gossip

vectors_many : (p : Parts) → MayTurn p → length p.vectors ≡ length p.maintainers
vectors_many p may = may.log.stands.membership.members.vectors ∙ as_many p

pub gossip_may : (p : Parts) (m k : ℕ) (x : MaintainerState Record) → MayTurn p → m < length p.maintainers → k < length p.maintainers → x ≡ get_or p.maintainers m x → MayGossip x p.vectors m k
gossip_may p m k x may in_m in_k is =
    may_gossip may.log.world p.dc (seen p) m k m k x p.vectors may.log.stands (omega (arith, in_m, as_many p)) (omega (arith, in_k, as_many p)) (maintainer_lent p m x in_m is)
    (omega (arith, in_m, vectors_many p may)) (omega (arith, in_k, vectors_many p may)) refl refl

pub gossip_is : (p : Parts) (m k : ℕ) (x x' : MaintainerState Record) (vs : List Pair) (done : TurnDone) → MayTurn p → m < length p.maintainers → k < length p.maintainers → x ≡ get_or p.maintainers m x
    → x' ≡ x → vs ≡ vectors_told p.vectors m k (own_vector m x p.vectors m) → done.outcome ≡ Head (head (vector_at vs k)) → done.events ≡ [] → TellsApart done.changed (marks_in p.vectors) (marks_in vs)
    → IsTurned p (record p { maintainers = set p.maintainers m x'; vectors = vs }) done (where_there (ltb m (length p.maintainers) && ltb k (length p.maintainers)) (seen p) (gossip_turn (seen p) m k))
gossip_is p m k x x' vs done may in_m in_k is same told outcome events changed =
    let z : Datacentre = seen p in
    let turned : Turned = gossip_turn z m k in
    let left : set p.maintainers m x' ≡ p.maintainers = ap (set p.maintainers m) (same ∙ lent_is p.maintainers m x no_maintainer is in_m) ∙ set-get_or p.maintainers m no_maintainer in
    let vectors : vs ≡ turned.after.vectors = told ∙ gossip_is_turn z m k x (maintainer_lent p m x in_m is) in
    there p (record p { maintainers = set p.maintainers m x'; vectors = vs }) done (ltb m (length p.maintainers) && ltb k (length p.maintainers)) turned
    (both_true (ltb m (length p.maintainers)) (ltb k (length p.maintainers)) (lt-ltb m (length p.maintainers) in_m) (lt-ltb k (length p.maintainers) in_k)) (record {
      stages = ap₂ (λ ms ws. record z { maintainers = maintainers_seen ms; vectors = ws }) left vectors;
      here = refl;
      whole = record { token = may.whole.token; table = may.whole.table; senders = may.whole.senders; pins = may.whole.pins; many = may.whole.many };
      outcome = outcome ∙ ap (λ ws. Head (head (vector_at ws k))) vectors;
      events = events;
      changed = subst (λ ws. TellsChange done.changed z (record z { vectors = ws })) vectors (gossip_tells z vs done.changed changed);
    })

-- learn

pub first_there : (p : Parts) → MayTurn p → 0 < length p.vectors
first_there p may = omega (arith, may.log.stands.coverage.served.0, may.log.stands.coverage.served.1)

pub vector_there : (p : Parts) → MayTurn p → 0 < length p.vectors
vector_there p may = first_there p may

pub learn_may : (p : Parts) (v : Pair) → MayTurn p → v ≡ get_or p.vectors 0 v → MayLearn (length p.table.table) p.maintainers v p.learnt
learn_may p v may is =
    subst (λ a. MayLearn (length p.table.table) p.maintainers a p.learnt) (sym (lent_is p.vectors 0 v (blank no_epochs) is (first_there p may)))
    (may_learn may.log.world p.dc (seen p) may.log.lawful may.log.stands p.maintainers refl)

pub learn_is : (p : Parts) (v v' : Pair) (ms : List (MaintainerState Record)) (table : Awareness) (learnt : ℕ) (done : TurnDone) → MayTurn p → v ≡ get_or p.vectors 0 v
    → ms ≡ p.maintainers → v' ≡ v → table ≡ record p.table { table = raised_row p.table.table p.dc (row_learnt p.dc p.maintainers v p.table.table p.learnt) }
    → learnt ≡ learnable_by v p.learnt → done.outcome ≡ Learnt (row_of table.table p.dc) → done.events ≡ row_events p.dc (row_of p.table.table p.dc) (row_learnt p.dc p.maintainers v p.table.table p.learnt)
    → done.changed ≡ nat_lt p.learnt (learnable_by v p.learnt)
    → IsTurned p (record p { maintainers = ms; vectors = set p.vectors 0 v'; table = table; learnt = learnt }) done (learn_turn p.dc (seen p))
learn_is p v v' ms table learnt done may is maintainers vector new upto outcome events changed =
    let z : Datacentre = seen p in
    let turned : Turned = learn_turn p.dc z in
    let at : v ≡ vector_at p.vectors 0 = lent_is p.vectors 0 v (blank no_epochs) is (first_there p may) in
    let turn = learn_is_turn p.dc z p.maintainers refl in
    let vectors : set p.vectors 0 v' ≡ p.vectors = ap (set p.vectors 0) (vector ∙ at) ∙ set-get_or p.vectors 0 (blank no_epochs) in
    let rows : table.table ≡ turned.after.table =
    ap (λ (t : Awareness). t.table) new ∙ ap (λ a. raised_row p.table.table p.dc (row_learnt p.dc p.maintainers a p.table.table p.learnt)) at ∙ turn.table in
    record {
      stages =
          ap₂ (λ xs vs. record z { maintainers = maintainers_seen xs; vectors = vs; table = table.table; learnt = learnt }) maintainers vectors
          ∙ ap₂ (λ t l. record z { table = t; learnt = l }) rows (upto ∙ ap (λ a. learnable_by a p.learnt) at);
      here = refl;
      whole = record {
        token = may.whole.token;
        table = ap (λ (t : Awareness). t.dc) new ∙ may.whole.table;
        senders = may.whole.senders;
        pins = may.whole.pins;
        many = may.whole.many;
      };
      outcome = outcome ∙ ap (λ t. Learnt (row_of t p.dc)) rows;
      events = events ∙ ap (λ a. row_events p.dc (row_of p.table.table p.dc) (row_learnt p.dc p.maintainers a p.table.table p.learnt)) at ∙ turn.events;
      changed = told_of z turned.after done.changed (nat_lt p.learnt (learnable_by (vector_at p.vectors 0) p.learnt)) (changed ∙ ap (λ a. nat_lt p.learnt (learnable_by a p.learnt)) at) (learn_tells p.dc z);
    }
