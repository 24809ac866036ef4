-- Every queue with every maintainer: all outboxes are emptied, and each position of the log is filled.
use Rattle.std.proofs.Common.{◌≡◌, ◌⊎◌, ℕ, ◌-◌, ◌/◌, mod-lt, ◌<◌, ◌≤◌, cond, leb, ltb, ◌&&◌, List, [], ◌∷◌, length, map, get_or, set, refl, ap, sym, subst, ◌∙◌, inl, inr, arith}
use Rattle.std.specs.List.{All}
use Rattle.std.proofs.lemmas.List.{get_or-set_same, get_or-set_other, take_all}
use Rattle.std.proofs.lemmas.List.Elements.{All-head, All-tail, All-get_or, All-from_get_or}
use Rattle.std.proofs.lemmas.Bool.{cases_lt, cases_eq, cond_both, cond-true, le-leb, ltb-false, and_from}
use Rattle.causal_deps.specs.declared.record.Record.{Record}
use Rattle.abstract_log.specs.declared.command.Workload.{Workload}
use Rattle.abstract_log.specs.declared.script.Step.TheVariants.{Place}
use Rattle.abstract_log.specs.Worlds.{log_of}
use Rattle.flstore_rounds.specs.declared.epochs.Epoch.{Epoch}
use Rattle.flstore_rounds.specs.Epochs.{EpochList, IsPrefix, IsEpochList, first_epoch, epoch_from, last_epoch, owner, longer, IsSettled}
use Rattle.flstore_rounds.proofs.EpochLemmas.{all_members_most, last_some, owner-prefix}
use Rattle.maintainer.specs.Maintainers.{MaintainerState, learned, moved_in, OwnsAll}
use Rattle.maintainer.proofs.StateLemmas.{has_taken}
use Rattle.token_queue.specs.declared.entry.Entry.{Entry}
use Rattle.token_queue.specs.Queues.{QueueState, outbox_for, without_outbox, waiting, times_among}
use Rattle.stage_world.specs.Stages.{Datacentre, queue_at, maintainer_at, no_queue, no_maintainer, slot_of, waiting_in}
use Rattle.stage_world.specs.StandsFor.{StandsAt, IsDealtBy, position_in}
use Rattle.stage_world.specs.Turns.{place_turn, placed_from}
use Rattle.stage_world.specs.Opening.{numbered}
use Rattle.stage_world.specs.Settling.{places}
use Rattle.stage_world.proofs.ListLemmas.{All-set_at}
use Rattle.settling_laws.specs.Rounds.{IsDrained, IsAllPlaced}
use Rattle.settling_laws.proofs.Live.{turned, walked, stands_at}
use Rattle.settling_laws.proofs.Walks.{Makes, Some_below, makes_numbered, makes_flat, makes_turn}
use Rattle.settling_laws.proofs.Drafts.{sum_none}
use Rattle.settling_laws.proofs.Rounding.{IsInRound, round_goes, queues_stay, maintainers_stay, there_is, both_there, at_set, at_put}

-- In a round, drained, and every queue has the token's epochs.
pub record IsStampedRound (load : Workload) (d : ℕ) (z y : Datacentre) : Type 0 where
  pub round : IsInRound load d z y
  pub drained : IsDrained y
  pub epochs : All (λ q. q.epochs ≡ y.token.epochs) y.queues

-- a beginning that is as long is the whole
pub prefix_whole : (e t : EpochList) → IsPrefix e t → length t.list ≤ length e.list → e ≡ t
prefix_whole e t h long =
    let list : e.list ≡ t.list = h.same ∙ take_all (length e.list) t.list (omega arith) in
    λ i. record { round = h.round i; list = list i }

-- the longer of the whole list and a beginning of it is the whole
pub longer_whole : (t e : EpochList) → IsPrefix e t → longer e t ≡ t
longer_whole t e h = cond_both (ltb (length e.list) (length t.list)) t e (λ (x : EpochList). x ≡ t) (λ _. refl)
    (λ is. prefix_whole e t h (ltb-false (length e.list) (length t.list) is))

-- the owner of a position is one of the last epoch's members
members_from : (m : ℕ) (found : Epoch) (es : List Epoch) (p : ℕ) → (1 ≤ found.members) × (found.members ≤ m) → All (λ e. 1 ≤ e.members) es → All (λ e. e.members ≤ m) es
    → (1 ≤ (epoch_from found es p).members) × ((epoch_from found es p).members ≤ m)
members_from m found [] p has some few = has
members_from m found (e ∷ es) p has some few =
    members_from m (cond (leb e.start p) e found) es p
    (cond_both (leb e.start p) e found (λ (x : Epoch). (1 ≤ x.members) × (x.members ≤ m)) (λ _. (All-head (λ (x : Epoch). 1 ≤ x.members) e es some, All-head (λ (x : Epoch). x.members ≤ m) e es few)) (λ _. has))
    (All-tail (λ (x : Epoch). 1 ≤ x.members) e es some) (All-tail (λ (x : Epoch). x.members ≤ m) e es few)

pub owner_member : (t : EpochList) (p : ℕ) → IsEpochList t → owner t p < (last_epoch t).members
owner_member t p h =
    let few = members_from (last_epoch t).members first_epoch t.list p (omega arith, last_some t h) h.some_members (all_members_most t h) in
    let x : Epoch = epoch_from first_epoch t.list p in
    omega (arith, mod-lt ((p - x.start) / t.round) few.0, few.1)

module _ (load : Workload) (d : ℕ) (z : Datacentre) where
  place_is : (y : Datacentre) (q m : ℕ) → IsInRound load d z y → q < length z.queues → m < length z.maintainers → turned d y (Place d q m) ≡ placed_from y q m
  place_is y q m h in_q in_m = there_is (ltb q (length y.queues) && ltb m (length y.maintainers)) y (place_turn y q m)
      (both_there q (length y.queues) m (length y.maintainers) (omega (arith, queues_stay load d z y h)) (omega (arith, maintainers_stay load d z y h)))

  -- the outbox of queue q for maintainer m is empty, and m has the token's epochs
  record IsTaken (pair : ℕ × ℕ) (y : Datacentre) : Type 0 where
    pub outbox : outbox_for (queue_at y.queues pair.0) pair.1 ≡ []
    pub epochs : (maintainer_at y.maintainers pair.1).epochs ≡ y.token.epochs

  module _ (q m : ℕ) (in_q : q < length z.queues) (in_m : m < length z.maintainers) (y : Datacentre) (h : IsStampedRound load d z y) where
    abbrev new_m : MaintainerState Record
    new_m = moved_in (learned (maintainer_at y.maintainers m) (queue_at y.queues q).epochs) (map slot_of (outbox_for (queue_at y.queues q) m))

    is : turned d y (Place d q m) ≡ placed_from y q m
    is = place_is y q m h.round in_q in_m

    stands : StandsAt h.round.live.standing.world d y
    stands = stands_at load d y h.round.live

    inside_q : q < length y.queues
    inside_q = omega (arith, in_q, queues_stay load d z y h.round)

    inside_m : m < length y.maintainers
    inside_m = omega (arith, in_m, maintainers_stay load d z y h.round)

    whole_q : (queue_at y.queues q).epochs ≡ y.token.epochs
    whole_q = All-get_or (λ (x : QueueState). x.epochs ≡ y.token.epochs) y.queues q no_queue inside_q h.epochs

    new_epochs : new_m.epochs ≡ y.token.epochs
    new_epochs =
        let old : OwnsAll y.token.epochs (maintainer_at y.maintainers m) = All-get_or (OwnsAll y.token.epochs) y.maintainers m no_maintainer inside_m stands.membership.owned.maintainers in
        (has_taken (learned (maintainer_at y.maintainers m) (queue_at y.queues q).epochs) (map slot_of (outbox_for (queue_at y.queues q) m))).epochs
        ∙ ap (longer (maintainer_at y.maintainers m).epochs) whole_q ∙ longer_whole y.token.epochs (maintainer_at y.maintainers m).epochs old.known

    place_stays : IsStampedRound load d z (turned d y (Place d q m))
    place_stays = record {
      round = round_goes load d z y (Place d q m) refl h.round;
      drained = subst IsDrained (sym is) (record {
        batchers = h.drained.batchers;
        filters = h.drained.filters;
        queues = All-set_at (λ (x : QueueState). x.items ≡ []) y.queues q (without_outbox (queue_at y.queues q) m) no_queue (λ _ none. none) h.drained.queues;
        deferred = h.drained.deferred;
      });
      epochs = subst (λ v. All (λ x. x.epochs ≡ v.token.epochs) v.queues) (sym is)
          (All-set_at (λ (x : QueueState). x.epochs ≡ y.token.epochs) y.queues q (without_outbox (queue_at y.queues q) m) no_queue (λ _ same. same) h.epochs);
    }

    place_keeps : (pair : ℕ × ℕ) → IsTaken pair y → IsTaken pair (turned d y (Place d q m))
    place_keeps pair e = subst (IsTaken pair) (sym is) (record {
      outbox = outbox_kept (cases_eq pair.0 q);
      epochs = at_set (λ (x : MaintainerState Record). x.epochs ≡ y.token.epochs) y.maintainers m pair.1 new_m no_maintainer (λ _. new_epochs) e.epochs;
    })
      where
        outbox_kept : (pair.0 ≡ q) ⊎ (pair.0 ≡ q → ⊥) → outbox_for (queue_at (set y.queues q (without_outbox (queue_at y.queues q) m)) pair.0) pair.1 ≡ []
        outbox_kept (inr other) = ap (λ x. outbox_for x pair.1) (get_or-set_other y.queues q pair.0 (without_outbox (queue_at y.queues q) m) no_queue other) ∙ e.outbox
        outbox_kept (inl same) =
            ap (λ j. outbox_for (queue_at (set y.queues q (without_outbox (queue_at y.queues q) m)) j) pair.1) same
            ∙ ap (λ x. outbox_for x pair.1) (get_or-set_same y.queues q (without_outbox (queue_at y.queues q) m) no_queue inside_q)
            ∙ at_set (λ es. es ≡ []) (queue_at y.queues q).outboxes m pair.1 [] [] (λ _. refl) (ap (λ j. outbox_for (queue_at y.queues j) pair.1) (sym same) ∙ e.outbox)

    place_makes : (pair : ℕ × ℕ) → pair.0 ≡ q → pair.1 ≡ m → IsTaken pair (turned d y (Place d q m))
    place_makes pair at_q at_m = subst (IsTaken pair) (sym is) (record {
      outbox = ap (λ j. outbox_for (queue_at (set y.queues q (without_outbox (queue_at y.queues q) m)) j) pair.1) at_q
          ∙ ap (λ x. outbox_for x pair.1) (get_or-set_same y.queues q (without_outbox (queue_at y.queues q) m) no_queue inside_q)
          ∙ ap (λ j. get_or (set (queue_at y.queues q).outboxes m []) j []) at_m ∙ at_put (λ (es : List Entry). es ≡ []) (queue_at y.queues q).outboxes m [] [] refl refl;
      epochs = ap (λ j. (get_or (set y.maintainers m new_m) j no_maintainer).epochs) at_m
          ∙ ap (λ (x : MaintainerState Record). x.epochs) (get_or-set_same y.maintainers m new_m no_maintainer inside_m) ∙ new_epochs;
    })

  abbrev Of : ℕ → ℕ → ℕ × ℕ → Type 0
  Of q m pair = (pair.0 ≡ q) × (pair.1 ≡ m)

  place_one : (q m : ℕ) → q < length z.queues → m < length z.maintainers → Makes d (IsStampedRound load d z) IsTaken (Of q m) (Place d q m ∷ [])
  place_one q m in_q in_m = makes_turn d (IsStampedRound load d z) IsTaken (Of q m) (Place d q m) (λ y h. place_stays q m in_q in_m y h) (λ y pair h e. place_keeps q m in_q in_m y h pair e)
      (λ y pair h at. place_makes q m in_q in_m y h pair at.0 at.1)

  abbrev Each : ℕ → ℕ × ℕ → Type 0
  Each q = Some_below d (IsStampedRound load d z) IsTaken (λ m. Of q m) (length z.maintainers)

  place_all : Makes d (IsStampedRound load d z) IsTaken (Some_below d (IsStampedRound load d z) IsTaken Each (length z.queues)) (places d z)
  place_all = makes_flat d (IsStampedRound load d z) IsTaken Each (λ q. numbered (Place d q) (length z.maintainers)) (length z.queues) (λ q in_q. makes_numbered d (IsStampedRound load d z) IsTaken (λ m. Of q m) (Place d q) (length z.maintainers) (λ m in_m. place_one q m in_q in_m))

  -- where every outbox of a member is empty, all are, and every position is filled
  module _ (y : Datacentre) (h : IsStampedRound load d z y) (taken : (q m : ℕ) → q < length y.queues → m < length y.maintainers → IsTaken (q, m) y) where
    stands_y : StandsAt h.round.live.standing.world d y
    stands_y = stands_at load d y h.round.live

    outbox_empty : (q m : ℕ) → q < length y.queues → outbox_for (queue_at y.queues q) m ≡ []
    outbox_empty q m in_q = elim (cases_lt m (length y.maintainers)) [
      | inl within ↦ (taken q m in_q within).outbox
      | inr past ↦ none_of (outbox_for (queue_at y.queues q) m) (dealt.owned m) past
    ]
      where
        dealt : IsDealtBy y.token.epochs (queue_at y.queues q)
        dealt = All-get_or (IsDealtBy y.token.epochs) y.queues q no_queue in_q stands_y.membership.owned.queues

        none_of : (es : List Entry) → All (λ e. (owner (queue_at y.queues q).epochs e.lid ≡ m) × IsSettled y.token.epochs (queue_at y.queues q).epochs e.lid) es → length y.maintainers ≤ m → es ≡ []
        none_of [] all past = refl
        none_of (e ∷ es) all past =
            let own = All-head (λ (x : Entry). (owner (queue_at y.queues q).epochs x.lid ≡ m) × IsSettled y.token.epochs (queue_at y.queues q).epochs x.lid) e es all in
            absurd (omega (arith, past, own.0, owner-prefix (queue_at y.queues q).epochs y.token.epochs e.lid dealt.known own.1, owner_member y.token.epochs e.lid stands_y.membership.members.dealt, stands_y.membership.members.maintainers))

    outboxes_empty : All (λ q. All (λ es. es ≡ []) q.outboxes) y.queues
    outboxes_empty = All-from_get_or (λ (q : QueueState). All (λ es. es ≡ []) q.outboxes) y.queues no_queue (λ q in_q. All-from_get_or (λ (es : List Entry). es ≡ []) (queue_at y.queues q).outboxes [] (λ m _. outbox_empty q m in_q))

    none_waits : (p : ℕ) (qs : List QueueState) → All (λ q. All (λ es. es ≡ []) q.outboxes) qs → waiting_in p qs ≡ 0
    none_waits p qs all = sum_none (waiting p) qs (λ k e within. sum_none (times_among p) (get_or qs k e).outboxes (λ j f inside. ap (times_among p) (all k e within j f inside)))

    all_placed : IsAllPlaced y
    all_placed = record {
      queues = h.epochs;
      outboxes = outboxes_empty;
      maintainers = All-from_get_or (λ (m : MaintainerState Record). m.epochs ≡ y.token.epochs) y.maintainers no_maintainer
          (λ m in_m. (taken 0 m (omega (arith, stands_y.membership.members.ranges.queues.0)) in_m).epochs);
      filled = λ p first low.
          let here : position_in (log_of h.round.live.standing.world d) p ≡ 1 = cond-true (leb 1 p && leb p (length (log_of h.round.live.standing.world d))) 1 0
          (and_from (leb 1 p) (leb p (length (log_of h.round.live.standing.world d))) (le-leb 1 p first) (le-leb p (length (log_of h.round.live.standing.world d)) (omega (arith, low, stands_y.positions.counted.whole)))) in
          omega (arith, stands_y.positions.placed.once p, none_waits p y.queues outboxes_empty, here);
    }

  -- All of them.
  pub places_fill : (y : Datacentre) → IsStampedRound load d z y → IsStampedRound load d z (walked d y (places d z)) × IsAllPlaced (walked d y (places d z))
  places_fill y h =
      let x : Datacentre = walked d y (places d z) in
      let after : IsStampedRound load d z x = place_all.stays y h in (
        after,
        all_placed x after (λ q m in_q in_m. place_all.makes y (q, m) h
            (q, omega (arith, in_q, queues_stay load d z x after.round), (m, omega (arith, in_m, maintainers_stay load d z x after.round), (refl, refl)))),
      )
