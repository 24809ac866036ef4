-- The token once round the ring: every queue is emptied, and what is deferred may not be stamped.
use Rattle.std.proofs.Common.{◌≡◌, ℕ, zero, suc, ◌+◌, ◌-◌, ◌%◌, mod-lt, ◌<◌, ◌≤◌, false, cond, ltb, List, [], ◌∷◌, length, set, refl, ap, sym, subst, ◌∙◌, inl, inr, arith, Option, Some, None}
use Rattle.std.specs.List.{All}
use Rattle.std.specs.Option.{option_map_or}
use Rattle.std.proofs.Math.Nat.{mod-add-mod, mod-eq_of_lt}
use Rattle.std.proofs.lemmas.List.{get_or-set_same}
use Rattle.std.proofs.lemmas.List.Elements.{All-nil, All-from_get_or}
use Rattle.std.proofs.lemmas.Bool.{cases_lt, lt-ltb, eq-eqb}
use Rattle.causal_deps.specs.declared.record.Item.{Item}
use Rattle.abstract_log.specs.declared.command.Workload.{Workload}
use Rattle.abstract_log.specs.declared.script.Outcome.TheVariants.{NoToken}
use Rattle.abstract_log.specs.declared.script.Step.{Step}
use Rattle.abstract_log.specs.declared.script.Step.TheVariants.{Stamp, Token}
use Rattle.flstore_rounds.proofs.TurnLemmas.{IsTurn, turns_are}
use Rattle.token_queue.specs.Items.{is_ready, record_from, first_out}
use Rattle.token_queue.specs.Drain.{Drained, all_deferred, with_first, counts_with, drain_by_at_most}
use Rattle.token_queue.specs.Queues.{TokenState, QueueState, tokenless, stamped_queue}
use Rattle.token_queue.proofs.ListLemmas.{is_out, none_out}
use Rattle.stage_world.specs.Stages.{Datacentre, queue_at, no_queue}
use Rattle.stage_world.specs.Turns.{quiet, stamp_turn, stamped, stamp_events, stamp_outcome, drained, drained_items, token_moved}
use Rattle.stage_world.specs.Settling.{ring}
use Rattle.settling_laws.specs.Rounds.{IsDrained}
use Rattle.settling_laws.proofs.Live.{IsLive, turned, walked, stands_at}
use Rattle.settling_laws.proofs.Walks.{along_flat}
use Rattle.settling_laws.proofs.Rounding.{IsInRound, round_goes, queues_stay, there_is, at_set}
use Rattle.settling_laws.proofs.Gathering.{IsWithToken, AreFlushed, HavePassedOn}

-- no item that is left may be stamped by the counts after it
abbrev AreLeft : List ℕ → Drained → Type 0
AreLeft counts all = All (λ item. is_ready (counts_with counts all.records) item ≡ false) all.deferred

left_at_first : (n d : ℕ) (counts : List ℕ) (items : List Item) (o : Option (Item × List Item)) → length items ≤ suc n → first_out (is_ready counts) items ≡ o
    → ((cs : List ℕ) (xs : List Item) → length xs ≤ n → AreLeft cs (drain_by_at_most n d cs xs))
    → AreLeft counts (option_map_or (λ found. with_first found.0 (record_from d counts found.0)
    (drain_by_at_most n d (set counts (record_from d counts found.0).host (record_from d counts found.0).toid) found.1)) o (all_deferred items))
left_at_first n d counts items None few is ih = none_out (is_ready counts) items is
left_at_first n d counts items (Some found) few is ih =
    ih (set counts (record_from d counts found.0).host (record_from d counts found.0).toid) found.1 (omega (arith, (is_out (is_ready counts) items found is).shorter))

none_left : (n d : ℕ) (counts : List ℕ) (items : List Item) → length items ≤ n → AreLeft counts (drain_by_at_most n d counts items)
none_left zero d counts [] few = All-nil (λ item. is_ready counts item ≡ false)
none_left zero d counts (x ∷ xs) few = absurd (omega arith)
none_left (suc n) d counts items few = left_at_first n d counts items (first_out (is_ready counts) items) few refl (λ cs xs. none_left n d cs xs)

-- the queue has no item, and the token's epochs
record IsStamped (y : Datacentre) (q : QueueState) : Type 0 where
  pub items : q.items ≡ []
  pub epochs : q.epochs ≡ y.token.epochs

module _ (load : Workload) (d : ℕ) (z : Datacentre) (l : IsLive load d z) where
  abbrev n : ℕ
  n = length z.queues

  abbrev at : ℕ → ℕ
  at i = (z.token.at + i) % n

  -- the token is at the i-th queue from where it was, and those before it have stamped
  record IsRound (i : ℕ) (y : Datacentre) : Type 0 where
    pub round : IsInRound load d z y
    pub batchers : AreFlushed y
    pub filters : HavePassedOn y
    pub token : y.token.at ≡ at i
    pub stamped : (k : ℕ) → k < i → IsStamped y (queue_at y.queues (at k))
    pub deferred : 1 ≤ i → All (λ item. is_ready y.token.counts item ≡ false) y.token.deferred

  some : 0 < n
  some = omega (arith, (stands_at load d z l).membership.members.ranges.queues.0)

  holds : (i : ℕ) (y : Datacentre) → IsRound i y → turned d y (Stamp d (at i)) ≡ stamped y (at i)
  holds i y h =
      there_is (ltb (at i) (length y.queues)) y (stamp_turn d y (at i)) (lt-ltb (at i) (length y.queues) (omega (arith, mod-lt (z.token.at + i) some, queues_stay load d z y h.round)))
      ∙ ap (λ b. (cond b (record { after = stamped y (at i); outcome = stamp_outcome y (at i); events = stamp_events d y.token.last (drained y (at i)).stamped (drained y (at i)).records }) (quiet NoToken y)).after)
      (eq-eqb y.token.at (at i) h.token)

  abbrev turn_at : ℕ → List Step
  turn_at i = Stamp d (at i) ∷ Token d ∷ []

  -- the queue that stamps, and the stages after it
  abbrev new_queue : ℕ → Datacentre → QueueState
  new_queue i y = tokenless (stamped_queue (queue_at y.queues (at i)) y.token (drained y (at i)))

  is_stamped : (i : ℕ) (y : Datacentre) → IsStamped y (new_queue i y)
  is_stamped i y = record { items = refl; epochs = refl }

  walked_is : (i : ℕ) (y : Datacentre) → IsRound i y → walked d y (turn_at i) ≡ token_moved (stamped y (at i))
  walked_is i y h = ap token_moved (holds i y h)

  in_place : (i k : ℕ) (y : Datacentre) → IsStamped y (queue_at y.queues (at k)) → IsStamped y (queue_at (set y.queues (at i) (new_queue i y)) (at k))
  in_place i k y h = at_set (IsStamped y) y.queues (at i) (at k) (new_queue i y) no_queue (λ _. is_stamped i y) h

  within : (i : ℕ) (y : Datacentre) → IsRound i y → at i < length y.queues
  within i y h = omega (arith, mod-lt (z.token.at + i) some, queues_stay load d z y h.round)

  stamped_last : (i k : ℕ) (y : Datacentre) → IsRound i y → k < suc i → IsStamped y (queue_at (set y.queues (at i) (new_queue i y)) (at k))
  stamped_last i k y h low = elim (cases_lt k i) [
    | inl before ↦ in_place i k y (h.stamped k before)
    | inr now ↦
        let same : i ≡ k = omega (arith, low, now) in
        subst (λ j. IsStamped y (queue_at (set y.queues (at i) (new_queue i y)) (at j))) same (stands_there i y (within i y h))
  ]
    where
      stands_there : (j : ℕ) (v : Datacentre) → at j < length v.queues → IsStamped v (queue_at (set v.queues (at j) (new_queue j v)) (at j))
      stands_there j v inside = subst (IsStamped v) (sym (get_or-set_same v.queues (at j) (new_queue j v) no_queue inside)) (is_stamped j v)

  round_step : (i : ℕ) (y : Datacentre) → i < n → IsRound i y → IsRound (suc i) (walked d y (turn_at i))
  round_step i y low h =
      let is : walked d y (turn_at i) ≡ token_moved (stamped y (at i)) = walked_is i y h in
      let x : Datacentre = token_moved (stamped y (at i)) in
      let one : IsInRound load d z (turned d y (Stamp d (at i))) = round_goes load d z y (Stamp d (at i)) refl h.round in
      let both : IsInRound load d z (walked d y (turn_at i)) = round_goes load d z (turned d y (Stamp d (at i))) (Token d) refl one in
      let ringed : y.token.queues ≡ n = (stands_at load d y h.round.live).membership.members.queues ∙ queues_stay load d z y h.round in
      let next : (y.token.at + 1) % y.token.queues ≡ at (suc i) =
      ap (λ m. (y.token.at + 1) % m) ringed ∙ ap (λ k. (k + 1) % n) h.token ∙ mod-add-mod (z.token.at + i) n 1 ∙ ap (λ k. k % n) (omega arith) in
      record {
        round = both;
        batchers = subst AreFlushed (sym is) h.batchers;
        filters = subst HavePassedOn (sym is) h.filters;
        token = ap (λ (v : Datacentre). v.token.at) is ∙ next;
        stamped = λ k before. subst (λ v. IsStamped v (queue_at v.queues (at k))) (sym is) (let h : IsStamped y (queue_at (set y.queues (at i) (new_queue i y)) (at k)) = stamped_last i k y h before in record { items = h.items; epochs = h.epochs });
        deferred = λ _. subst (λ v. All (λ item. is_ready v.token.counts item ≡ false) v.token.deferred) (sym is) (none_left (length (drained_items y (at i))) y.token.dc y.token.counts (drained_items y (at i)) (omega arith));
      }

  -- The ring, from a datacentre whose batchers and filters were emptied.
  pub ring_drains : (y : Datacentre) → IsWithToken load d z y → AreFlushed y → HavePassedOn y
      → IsInRound load d z (walked d y (ring d z)) × IsDrained (walked d y (ring d z)) × All (λ q. q.epochs ≡ (walked d y (ring d z)).token.epochs) (walked d y (ring d z)).queues
  ring_drains y h flat out =
      let x : Datacentre = walked d y (ring d z) in
      let holder : z.token.at < n = (stands_at load d z l).membership.members.holder in
      let none_more : z.token.at + 0 ≡ z.token.at = omega arith in
      let first : IsRound 0 y = record {
        round = h.round;
        batchers = flat;
        filters = out;
        token = ap (λ (t : TokenState). t.at) h.token ∙ sym (ap (λ k. k % n) none_more ∙ mod-eq_of_lt holder);
        stamped = λ k none. absurd (omega (arith, none));
        deferred = λ none. absurd (omega (arith, none));
      } in
      let last : IsRound n x = along_flat IsRound d turn_at n y first round_step in
      let each : (j : ℕ) → j < length x.queues → IsStamped x (queue_at x.queues j) = λ j inside.
      let turn : IsTurn n j z.token.at ((j + n - z.token.at % n) % n) = turns_are n j z.token.at (omega (arith, inside, queues_stay load d z x last.round)) in
      subst (λ k. IsStamped x (queue_at x.queues k)) turn.own (last.stamped ((j + n - z.token.at % n) % n) turn.few) in (
        last.round,
        record {
          batchers = last.batchers;
          filters = last.filters;
          queues = All-from_get_or (λ (q : QueueState). q.items ≡ []) x.queues no_queue (λ j inside. (each j inside).items);
          deferred = last.deferred (omega (arith, some));
        },
        All-from_get_or (λ (q : QueueState). q.epochs ≡ x.token.epochs) x.queues no_queue (λ j inside. (each j inside).epochs),
      )
