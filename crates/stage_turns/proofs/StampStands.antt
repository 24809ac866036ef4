-- What the turns of stamping and of the token ask holds where the stages stand for a log.
use Rattle.std.proofs.Common.{◌≡◌, ℕ, ◌+◌, ◌<◌, ◌≤◌, ◌^◌, cond, List, ◌++◌, length, refl, ap, sym, subst, ◌∙◌, inl, inr, arith, Option, Some, None}
use Rattle.std.specs.List.{All, sum_by}
use Rattle.std.specs.Option.{ForSome}
use Rattle.std.proofs.Math.ListN.{get_or-map}
use Rattle.std.proofs.lemmas.Bool.{cases_eq, eq-eqb}
use Rattle.std.proofs.lemmas.List.{length-map}
use Rattle.std.proofs.lemmas.List.Elements.{All-append, All-get_or, All-weaker, All-same}
use Rattle.std.proofs.lemmas.List.Sums.{sum_by-append, get_or-le-sum_by}
use Rattle.std.proofs.lemmas.Option.{same_Some}
use Rattle.causal_deps.specs.declared.record.Draft.{Draft}
use Rattle.causal_deps.specs.declared.record.Item.{Item}
use Rattle.causal_deps.specs.declared.record.Item.TheVariants.{Local, External}
use Rattle.abstract_log.specs.declared.event.Event.{Event}
use Rattle.abstract_log.specs.declared.world.World.{World}
use Rattle.abstract_log.specs.declared.world.Standing.{Standing}
use Rattle.abstract_log.specs.Worlds.{log_of, pending_of}
use Rattle.abstract_log.specs.Commands.{no_plan}
use Rattle.abstract_log.specs.Runs.{after_all}
use Rattle.log_laws.specs.Lawful.{IsLawful}
use Rattle.log_laws.proofs.WriteCounts.{commands_are_counted}
use Rattle.token_queue.specs.Items.{FitsItem}
use Rattle.token_queue.specs.Drain.{drain_by}
use Rattle.token_queue.specs.Queues.{QueueState, tokenless}
use Rattle.stage_world.specs.Stages.{Datacentre, Session, no_queue, queue_at, under_way, is_draft_of}
use Rattle.stage_world.specs.Turns.{quiet, drained, stamped, stamp_outcome, stamp_events}
use Rattle.abstract_log.specs.declared.script.Outcome.TheVariants.{NoToken}
use Rattle.stage_world.specs.StandsFor.{StandsAt, IsAsFar, IsDue, one_of, open_draft}
use Rattle.stage_world.specs.Whole.{Keeps}
use Rattle.stage_world.proofs.DrainTurn.{stamp_turn_keeps}
use Rattle.stage_world.proofs.WorldLemmas.{open_tells}
use Rattle.stage_turns.specs.Lent.{HaveToken, MayMoveToken, queues_seen, token_seen}
use Rattle.stage_turns.specs.Stamping.{IsNewAt, MayStamp, drained_of, items_of}
use Rattle.log_laws.proofs.LawfulAfter.{lawful_after}
use Rattle.stage_turns.proofs.RingLemmas.{token_is}

pub queue_seen : (qs zs : List QueueState) (i : ℕ) → queues_seen qs ≡ zs → tokenless (queue_at qs i) ≡ queue_at zs i
queue_seen qs zs i seen = sym (get_or-map tokenless qs i no_queue) ∙ ap (λ xs. queue_at xs i) seen

as_many : (qs zs : List QueueState) → queues_seen qs ≡ zs → length zs ≡ length qs
as_many qs zs seen = ap (λ xs. length xs) (sym seen) ∙ length-map qs tokenless

-- The token may move.
pub token_may_move : (w : World) (d : ℕ) (z : Datacentre) (qs : List QueueState) → StandsAt w d z → queues_seen qs ≡ z.queues → HaveToken qs z.token → MayMoveToken qs (token_seen qs)
token_may_move w d z qs h seen has = subst (MayMoveToken qs) (sym (token_is qs z.token has)) (record {
  has = has;
  numbers = λ i within. ap (λ (x : QueueState). x.number) (queue_seen qs z.queues i seen) ∙ h.membership.queues.numbers i (omega (arith, within, as_many qs z.queues seen));
  ring = h.membership.members.queues ∙ as_many qs z.queues seen;
})

one_at_most : (o : Option Draft) → one_of o ≤ 1
one_at_most None = omega arith
one_at_most (Some x) = omega arith

module _ (w : World) (d : ℕ) (z : Datacentre) (q : QueueState) (law : IsLawful w) (h : StandsAt w d z) (same : q.items ≡ (queue_at z.queues z.token.at).items) where
  abbrev at : ℕ
  at = z.token.at

  abbrev Due : Item → Type 0
  Due = IsDue w.workload w.sessions w.logs (pending_of w d) d

  items_due : All Due q.items
  items_due = All-same Due q.items (queue_at z.queues at).items same (All-get_or (λ (x : QueueState). All Due x.items) z.queues at no_queue h.membership.members.holder h.items.under_way.due.queues)

  fits : (item : Item) → Due item → FitsItem (length z.token.counts) item
  fits (Local draft) due =
      let opened = open_tells w.workload w.sessions d draft.session draft due in
      ap (λ xs. length xs) opened.tells.dep ∙ law.shape.pasts draft.session opened.there ∙ sym h.positions.counted.size
  fits (External r) due = (omega (arith, due.valid.host, h.positions.counted.size), due.valid.size ∙ sym h.positions.counted.size)

  new_here : (item : Item) → Due item → IsNewAt d item
  new_here (Local draft) due = tt
  new_here (External r) due = due.elsewhere

  -- what is stamped stands in the log after the turn
  holder_keeps : Keeps w d (record { after = stamped z at; outcome = stamp_outcome z at; events = stamp_events d z.token.last (drained z at).stamped (drained z at).records })
  holder_keeps =
      subst (Keeps w d)
      (ap (λ b. cond b (record { after = stamped z at; outcome = stamp_outcome z at; events = stamp_events d z.token.last (drained z at).stamped (drained z at).records }) (quiet NoToken z)) (eq-eqb at at refl))
      (stamp_turn_keeps w d z at law.shape h)

  few_stamped : z.token.last + length (drained_of q z.token).records < 2 ^ 48
  few_stamped =
      let es : List Event = stamp_events d z.token.last (drained z at).stamped (drained z at).records in
      let whole : z.token.last + length (drained z at).records ≡ length (log_of (after_all w es) d) = holder_keeps.stands.positions.counted.whole in
      let count : length (drained_of q z.token).records ≡ length (drained z at).records =
      ap (λ items. length (drain_by z.token.dc z.token.counts (z.token.deferred ++ items)).records) same in
      omega (arith, whole, count, (lawful_after w es law holder_keeps.can).few d)

  session_there : (x : Session) → IsAsFar w.workload w.sessions (log_of w d) d z.floor x → x.number < length w.sessions
  session_there x far = omega (arith, far.home.there, law.shape.sessions)

  answered_few : (x : Session) → IsAsFar w.workload w.sessions (log_of w d) d z.floor x → x.standing.answered ≤ 16384
  answered_few x far =
      omega (
        arith,
        ap (λ (st : Standing). st.answered) far.standing,
        (law.sessions x.number).answered,
        commands_are_counted w.workload.sessions x.number no_plan far.home.there,
        law.limits.commands,
      )

  -- a session has one draft at most
  one_draft : (s : ℕ) → sum_by (is_draft_of s) (items_of q z.token) ≤ 1
  one_draft s =
      let all : under_way (is_draft_of s) z.batchers z.filters z.queues z.token.deferred ≡ one_of (open_draft w.workload w.sessions d s) = h.items.under_way.drafts s in
      omega (
        arith,
        all,
        one_at_most (open_draft w.workload w.sessions d s),
        sum_by-append (is_draft_of s) z.token.deferred q.items,
        ap (λ items. sum_by (is_draft_of s) items) same,
        get_or-le-sum_by (λ (x : QueueState). sum_by (is_draft_of s) x.items) z.queues at no_queue h.membership.members.holder,
      )

  pub may_stamp : MayStamp d q z.token z.sessions
  may_stamp = record {
    here = h.positions.counted.here;
    lids = few_stamped;
    fit = All-weaker Due (FitsItem (length z.token.counts)) fits q.items items_due;
    new = All-append (IsNewAt d) z.token.deferred q.items (All-weaker Due (IsNewAt d) new_here z.token.deferred h.items.under_way.due.deferred) (All-weaker Due (IsNewAt d) new_here q.items items_due);
    ordered = h.clients.ordered;
    pasts = All-weaker (IsAsFar w.workload w.sessions (log_of w d) d z.floor) (λ (x : Session). d < length x.standing.past)
        (λ x far. omega (arith, h.there, ap (λ (st : Standing). length st.past) far.standing, law.shape.pasts x.number (session_there x far))) z.sessions h.clients.sessions;
    few = All-weaker (IsAsFar w.workload w.sessions (log_of w d) d z.floor) (λ (x : Session). x.standing.answered + sum_by (is_draft_of x.number) (items_of q z.token) < 2 ^ 32)
        (λ x far. omega (arith, answered_few x far, one_draft x.number)) z.sessions h.clients.sessions;
  }

-- A queue that has a token may stamp.
pub queue_may_stamp : (w : World) (d : ℕ) (z : Datacentre) (qs : List QueueState) (i : ℕ) → IsLawful w → StandsAt w d z → queues_seen qs ≡ z.queues → HaveToken qs z.token → i < length qs
    → ForSome (queue_at qs i).token (λ t. MayStamp d (queue_at qs i) t z.sessions)
queue_may_stamp w d z qs i law h seen has within t is = elim (cases_eq i z.token.at) [
  | inr other ↦ absurd (none (sym is ∙ has.others i within other))
  | inl here ↦
      let token : t ≡ z.token = same_Some t z.token (sym is ∙ ap (λ k. (queue_at qs k).token) here ∙ has.holder) in
      let items : (queue_at qs i).items ≡ (queue_at z.queues z.token.at).items = ap (λ (x : QueueState). x.items) (queue_seen qs z.queues i seen) ∙ ap (λ k. (queue_at z.queues k).items) here in
      subst (λ u. MayStamp d (queue_at qs i) u z.sessions) (sym token) (may_stamp w d z (queue_at qs i) law h items)
]
  where
    none : Some t ≡ None → ⊥
    none e = cc
