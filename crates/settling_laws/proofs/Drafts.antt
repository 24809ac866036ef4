-- Where nothing is on its way but what must wait, no draft is, and so no write is open.
use Rattle.std.proofs.Common.{◌≡◌, ℕ, ◌+◌, true, false, Bool, eqb, List, [], ◌∷◌, get_or, refl, ap, sym, subst, ◌∙◌, arith, Some, None, slice_get}
use Rattle.std.specs.List.{All, sum_by}
use Rattle.std.specs.Option.{option_and_then}
use Rattle.std.proofs.lemmas.List.Elements.{All-head, All-tail}
use Rattle.std.proofs.lemmas.List.Sums.{sum_by-cons}
use Rattle.std.proofs.lemmas.Bool.{eq-eqb, cond-true, true≢false}
use Rattle.causal_deps.specs.declared.record.Record.{Record}
use Rattle.causal_deps.specs.declared.record.Draft.{Draft}
use Rattle.causal_deps.specs.declared.record.Item.{Item}
use Rattle.causal_deps.specs.declared.record.Item.TheVariants.{Local, External}
use Rattle.causal_deps.specs.Counts.{AreCovered}
use Rattle.causal_deps.specs.Logs.{count_of}
use Rattle.abstract_log.specs.declared.command.Command.{Command}
use Rattle.abstract_log.specs.declared.command.Command.TheVariants.{Append, Put, Del, Get, Tx, Read, Last}
use Rattle.abstract_log.specs.declared.command.Workload.{Workload}
use Rattle.abstract_log.specs.declared.world.World.{World}
use Rattle.abstract_log.specs.Commands.{draft_of, is_write}
use Rattle.abstract_log.specs.Worlds.{log_of, plan_of, pending_of, standing_of}
use Rattle.toid_filter.specs.Filters.{FilterState}
use Rattle.token_queue.specs.Items.{is_ready}
use Rattle.token_queue.specs.Queues.{QueueState}
use Rattle.token_queue.proofs.ItemLemmas.{covering}
use Rattle.stage_world.specs.Stages.{Datacentre, Session, is_draft_of}
use Rattle.stage_world.specs.StandsFor.{StandsAt, IsAsFar, IsDue, open_draft, one_of, command_open, standing_in}
use Rattle.stage_world.proofs.WorldLemmas.{IsOpen, open_tells}
use Rattle.settling_laws.specs.Rounds.{IsDrained, HasNoOpenWrite}
use Rattle.settling_laws.proofs.Live.{IsLive, stands_at}

pub sum_none : {X : Type 0} (f : X → ℕ) (xs : List X) → All (λ x. f x ≡ 0) xs → sum_by f xs ≡ 0
sum_none f [] all = refl
sum_none f (x ∷ xs) all = omega (arith, sum_by-cons f x xs, All-head (λ y. f y ≡ 0) x xs all, sum_none f xs (All-tail (λ y. f y ≡ 0) x xs all))

-- records are no drafts
no_drafts : (s : ℕ) (rs : List Record) → sum_by (λ r. is_draft_of s (External r)) rs ≡ 0
no_drafts s [] = refl
no_drafts s (r ∷ rs) = omega (arith, sum_by-cons (λ (x : Record). is_draft_of s (External x)) r rs, no_drafts s rs)

draft_made : (s k : ℕ) (past : List ℕ) (c : Command) → is_write c ≡ true → (draft : Draft) × (draft_of s k past c ≡ Some draft)
draft_made s k past (Append tags body) is = (record { session = s; index = k; kind = _; tags = _; body = _; dep = past }, refl)
draft_made s k past (Put key body) is = (record { session = s; index = k; kind = _; tags = _; body = _; dep = past }, refl)
draft_made s k past (Del key) is = (record { session = s; index = k; kind = _; tags = _; body = _; dep = past }, refl)
draft_made s k past (Get key) is = absurd (cc)
draft_made s k past (Tx keys) is = absurd (cc)
draft_made s k past (Read lid) is = absurd (cc)
draft_made s k past (Last tag n) is = absurd (cc)

module _ (load : Workload) (d : ℕ) (z : Datacentre) (l : IsLive load d z) (drained : IsDrained z) where
  abbrev w : World
  w = l.standing.world

  h : StandsAt w d z
  h = stands_at load d z l

  abbrev Due : Item → Type 0
  Due = IsDue w.workload w.sessions w.logs (pending_of w d) d

  -- the draft of an open write is ready
  ready : (draft : Draft) → Due (Local draft) → is_ready z.token.counts (Local draft) ≡ true
  ready draft due =
      let opened : IsOpen w.workload w.sessions d draft.session draft = open_tells w.workload w.sessions d draft.session draft due in
      let seen : AreCovered (standing_of w draft.session).past (count_of (log_of w (plan_of w.workload draft.session).home)) = (l.standing.lawful.sessions draft.session).seen in
      let here : AreCovered (standing_of w draft.session).past (count_of (log_of w d)) = subst (λ e. AreCovered (standing_of w draft.session).past (count_of (log_of w e))) opened.home seen in
      let dep : AreCovered draft.dep (count_of (log_of w d)) = subst (λ p. AreCovered p (count_of (log_of w d))) (sym opened.tells.dep) here in
      covering draft.dep (λ g. get_or z.token.counts g 0) (λ g. omega (arith, dep g, h.positions.counted.each g))

  -- so none waits
  no_draft : (s : ℕ) (item : Item) → Due item → is_ready z.token.counts item ≡ false → is_draft_of s item ≡ 0
  no_draft s (Local draft) due waits = absurd (true≢false (sym (ready draft due) ∙ waits))
  no_draft s (External r) due waits = refl

  none_deferred : (s : ℕ) → sum_by (is_draft_of s) z.token.deferred ≡ 0
  none_deferred s = sum_none (is_draft_of s) z.token.deferred (λ k e within. no_draft s (get_or z.token.deferred k e) (h.items.under_way.due.deferred k e within) (drained.deferred k e within))

  none_under_way : (s : ℕ) → one_of (open_draft w.workload w.sessions d s) ≡ 0
  none_under_way s = omega (
    arith,
    h.items.under_way.drafts s,
    sum_none (λ (b : List Item). sum_by (is_draft_of s) b) z.batchers (λ k e within. ap (sum_by (is_draft_of s)) (drained.batchers k e within)),
    sum_none (λ (f : FilterState). sum_by (λ r. is_draft_of s (External r)) f.held) z.filters (λ k e within. no_drafts s (get_or z.filters k e).held),
    sum_none (λ (f : FilterState). sum_by (is_draft_of s) f.out) z.filters (λ k e within. ap (sum_by (is_draft_of s)) (drained.filters k e within)),
    sum_none (λ (q : QueueState). sum_by (is_draft_of s) q.items) z.queues (λ k e within. ap (sum_by (is_draft_of s)) (drained.queues k e within)),
    none_deferred s,
  )

  -- No session has an open write.
  none_open : (x : Session) → IsAsFar w.workload w.sessions (log_of w d) d z.floor x → HasNoOpenWrite x
  none_open x far c begun is = at (is_write c) refl
    where
      at : (b : Bool) → is_write c ≡ b → is_write c ≡ false
      at false e = e
      at true e =
          let made = draft_made x.number (x.standing.answered + 1) x.standing.past c e in
          let opened : command_open (plan_of w.workload x.number) x.standing ≡ Some c = cond-true x.standing.begun (slice_get (plan_of w.workload x.number).commands x.standing.answered) None begun ∙ ap (λ cs. slice_get cs x.standing.answered) (sym far.commands) ∙ is in
          let there : open_draft w.workload w.sessions d x.number ≡ Some made.0 =
          cond-true (eqb (plan_of w.workload x.number).home d) (option_and_then (draft_of x.number ((standing_in w.sessions x.number).answered + 1) (standing_in w.sessions x.number).past) (command_open (plan_of w.workload x.number) (standing_in w.sessions x.number))) None
          (eq-eqb (plan_of w.workload x.number).home d far.home.home)
          ∙ ap (λ st. option_and_then (draft_of x.number (st.answered + 1) st.past) (command_open (plan_of w.workload x.number) st)) (sym far.standing)
          ∙ ap (option_and_then (draft_of x.number (x.standing.answered + 1) x.standing.past)) opened ∙ made.1 in
          absurd (omega (arith, none_under_way x.number, ap one_of there))

  pub no_open_writes : All HasNoOpenWrite z.sessions
  no_open_writes = λ k e within. none_open (get_or z.sessions k e) (h.clients.sessions k e within)
