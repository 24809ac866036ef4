-- One record of another datacentre stamped: it becomes the next record of the log here. The record under way is counted out, as its name
-- comes into the log and is pending no more; all else stands as for any record more. The theorem is `stamp_record_keeps`: the event
-- of the stamp may happen, and the stages go on standing for the world after it.
use Rattle.std.proofs.Common.{◌≡◌, ◌≢◌, ◌⊎◌, ℕ, ◌+◌, ◌<◌, Bool, true, false, eqb, not, ◌&&◌, List, [], ◌∷◌, ◌++◌, set, refl, ap, sym, ◌∙◌, subst, inl, inr, arith, IsSomeAnd}
use Rattle.std.specs.List.{Contains}
use Rattle.std.specs.Option.{option_to_list}
use Rattle.std.proofs.lemmas.List.{get_or-set_same, get_or-set_other}
use Rattle.std.proofs.lemmas.List.Elements.{All-weaker}
use Rattle.std.proofs.lemmas.Bool.{eqb-true, and_parts}
use Rattle.std.proofs.lemmas.Bool.Decides.{nat_tests}
use Rattle.causal_deps.specs.declared.record.Record.{Record}
use Rattle.causal_deps.specs.declared.record.Item.{Item}
use Rattle.causal_deps.specs.declared.record.Item.TheVariants.{Local, External}
use Rattle.causal_deps.specs.Logs.{count_of, HasName, IsReady, IsReadyBy, nth_of}
use Rattle.abstract_log.specs.declared.event.Event.TheVariants.{Add}
use Rattle.abstract_log.specs.declared.world.World.{World}
use Rattle.abstract_log.specs.Worlds.{log_of, pending_of, record_of}
use Rattle.abstract_log.specs.Steps.{CanHappen, after, names_without}
use Rattle.stage_world.specs.StandsFor.{StandsAt, AreUnderWay, IsAsFar, IsDue, IsFromElsewhere, name_in}
use Rattle.toid_filter.specs.Sums.{passed}
use Rattle.abstract_log.specs.Shapes.{IsShaped}
use Rattle.stage_world.specs.Stages.{is_draft_of, queue_at, Datacentre, after_filters}
use Rattle.toid_filter.specs.Sums.{is_named}
use Rattle.token_queue.specs.Items.{is_ready}
use Rattle.token_queue.specs.Queues.{QueueState}
use Rattle.stage_world.proofs.SmallSteps.{stamped_one, event_of_stamp, queue_after}
use Rattle.token_queue.proofs.ListLemmas.{IsOut}
use Rattle.stage_world.proofs.ListLemmas.{Contains-filter}
use Rattle.causal_deps.proofs.Lists.{Contains-filter as Contains-filtered}
use Rattle.causal_deps.proofs.LogsLemmas.{count_of-push_own}
use Rattle.stage_world.proofs.LogLemmas.{count_of-push, record_ready, HasName-push}
use Rattle.stage_world.proofs.UnderWay.{AllUnderWay-weaker}
use Rattle.stage_world.proofs.PushLemmas.{positions_push, membership_push, coverage_push, knowledge_push, seen_push, pin_push, under_way_out, after_out, rest_under_way}

-- one record of another datacentre
module _ (w : World) (d : ℕ) (z : Datacentre) (r : Record) (rest : List Item) (shape : IsShaped w) (h : StandsAt w d z)
    (out : IsOut (is_ready z.token.counts) z.token.deferred (External r, rest)) (whole : (queue_at z.queues z.token.at).epochs ≡ z.token.epochs) where
  abbrev w_added : World
  w_added = after w (Add d (z.token.last + 1) r.host r.toid)

  abbrev qs_added : List QueueState
  qs_added = set z.queues z.token.at (queue_after z.token (queue_at z.queues z.token.at) r)

  due_record : IsFromElsewhere w.workload.dcs w.logs (pending_of w d) d r
  due_record = (out.each (IsDue w.workload w.sessions w.logs (pending_of w d) d) h.items.under_way.due.deferred).0

  ready : IsReadyBy (count_of (log_of w d)) r
  ready = record_ready w.workload.dcs d (log_of w d) z.token.dc z.token.counts z.token.last r h.positions.counted out.passes

  log_added : log_of w_added d ≡ log_of w d ++ r ∷ []
  log_added = get_or-set_same w.logs d (log_of w d ++ option_to_list (record_of w r.host r.toid)) [] (omega (arith, shape.logs, h.there))
      ∙ ap (λ o. log_of w d ++ option_to_list o) due_record.known

  log_beside : (g : ℕ) → g ≢ d → log_of w_added g ≡ log_of w g
  log_beside g other = get_or-set_other w.logs d g (log_of w d ++ option_to_list (record_of w r.host r.toid)) [] other

  pending_added : pending_of w_added d ≡ names_without r.host r.toid (pending_of w d)
  pending_added = get_or-set_same w.pending d (names_without r.host r.toid (pending_of w d)) [] (omega (arith, shape.pending, h.there))

  -- the record is not in the log, so it is pending
  is_pending : Contains (pending_of w d) (r.host, r.toid)
  is_pending = elim due_record.due [
    | inl waits ↦ waits
    | inr stands ↦ absurd (omega (arith, stands.counted, ready.next))
  ]

  can_add : CanHappen w (Add d (z.token.last + 1) r.host r.toid)
  can_add = (h.there, (is_pending, (omega (arith, h.positions.counted.whole), (subst (λ o. IsSomeAnd o (IsReady (log_of w d))) (sym due_record.known) ready, tt))))

  -- another name that was pending still is
  still_pending : (g t : ℕ) → Contains (pending_of w d) (g, t) → ((g ≡ r.host) × (t ≡ r.toid)) ⊎ Contains (pending_of w_added d) (g, t)
  still_pending g t waits = test_it (eqb g r.host && eqb t r.toid) refl
    where
      test_it : (b : Bool) → (eqb g r.host && eqb t r.toid) ≡ b → ((g ≡ r.host) × (t ≡ r.toid)) ⊎ Contains (pending_of w_added d) (g, t)
      test_it true is = let both = and_parts (eqb g r.host) (eqb t r.toid) is in inl (eqb-true g r.host both.0, eqb-true t r.toid both.1)
      test_it false is = inr (subst (λ ns. Contains ns (g, t)) (sym pending_added) (Contains-filter (λ (n : ℕ × ℕ). not (eqb n.0 r.host && eqb n.1 r.toid)) (pending_of w d) (g, t) waits (ap not is)))

  elsewhere_added : (x : Record) → IsFromElsewhere w.workload.dcs w.logs (pending_of w d) d x → IsFromElsewhere w.workload.dcs w_added.logs (pending_of w_added d) d x
  elsewhere_added x has = record {
    valid = has.valid;
    elsewhere = has.elsewhere;
    known = ap (λ l. nth_of l x.host x.toid) (log_beside x.host has.elsewhere) ∙ has.known;
    due = elim has.due [
      | inr stands ↦ inr (subst (λ l. HasName l x.host x.toid) (sym log_added) (HasName-push (log_of w d) r x.host x.toid stands))
      | inl waits ↦ elim (still_pending x.host x.toid waits) [
        | inr left ↦ inl left
        | inl same ↦ inr (subst (λ l. HasName l x.host x.toid) (sym log_added) (record {
          first = has.valid.first;
          counted = omega (arith, same.1, ready.next, count_of-push_own (log_of w d) r, ap (count_of (log_of w d ++ r ∷ [])) same.0);
        }))
      ]
    ];
  }

  due_added : (x : Item) → IsDue w.workload w.sessions w.logs (pending_of w d) d x → IsDue w.workload w.sessions w_added.logs (pending_of w_added d) d x
  due_added (Local draft) has = has
  due_added (External x) has = elsewhere_added x has

  -- the name counts once, and the record has it
  name_added : (g t : ℕ) → name_in (log_of w d ++ r ∷ []) g t ≡ name_in (log_of w d) g t + is_named g t (External r)
  name_added g t = grind (arith, nat_tests, count_of-push (log_of w d) r g, ready.next)

  under_way_added : AreUnderWay w.workload w.sessions w_added.logs (pending_of w_added d) d z.batchers z.filters qs_added rest
  under_way_added = record {
    due = AllUnderWay-weaker (IsDue w.workload w.sessions w.logs (pending_of w d) d) (IsDue w.workload w.sessions w_added.logs (pending_of w_added d) d) z.batchers z.filters qs_added rest due_added
        (rest_under_way (IsDue w.workload w.sessions w.logs (pending_of w d) d) z.batchers z.filters z.queues z.token.at (queue_after z.token (queue_at z.queues z.token.at) r) z.token.deferred rest refl (out.each (IsDue w.workload w.sessions w.logs (pending_of w d) d) h.items.under_way.due.deferred).1 h.items.under_way.due);
    drafts = λ s. omega (
      arith,
      h.items.under_way.drafts s,
      under_way_out (is_draft_of s) z.batchers z.filters z.queues z.token.at (queue_after z.token (queue_at z.queues z.token.at) r) z.token.deferred (External r, rest) refl (out.sums (is_draft_of s)),
    );
    once = λ g t other. subst (λ l. after_filters (is_named g t) z.filters qs_added rest + name_in l g t ≡ passed g t z.filters) (sym log_added)
        (omega (
          arith,
          h.items.under_way.once g t other,
          name_added g t,
          after_out (is_named g t) z.filters z.queues z.token.at (queue_after z.token (queue_at z.queues z.token.at) r) z.token.deferred (External r, rest) refl (out.sums (is_named g t)),
        ));
    own = h.items.under_way.own;
    awaited = λ g t waits.
        let was = Contains-filtered (λ (n : ℕ × ℕ). not (eqb n.0 r.host && eqb n.1 r.toid)) (pending_of w d) (g, t) (subst (λ ns. Contains ns (g, t)) pending_added waits) in
        let unnamed : is_named g t (External r) ≡ 0 = named_apart g t was.1 in
        let wait = h.items.under_way.awaited g t was.0 in (
          wait.0,
          subst (λ l. count_of l g < t) (sym log_added) (still_above g t wait.1 was.1),
          omega (
            arith,
            unnamed,
            wait.2,
            under_way_out (is_named g t) z.batchers z.filters z.queues z.token.at (queue_after z.token (queue_at z.queues z.token.at) r) z.token.deferred (External r, rest) refl (out.sums (is_named g t)),
          ),
        );
  }
    where
      named_apart : (g t : ℕ) → not (eqb g r.host && eqb t r.toid) ≡ true → is_named g t (External r) ≡ 0
      named_apart g t apart = grind (arith, nat_tests)

      still_above : (g t : ℕ) → count_of (log_of w d) g < t → not (eqb g r.host && eqb t r.toid) ≡ true → count_of (log_of w d ++ r ∷ []) g < t
      still_above g t above apart = grind (arith, nat_tests, count_of-push (log_of w d) r g, ready.next)

  pub stamp_record_keeps : CanHappen w (event_of_stamp d z (External r)) × StandsAt (after w (event_of_stamp d z (External r))) d (stamped_one d z (External r, rest))
  stamp_record_keeps = (
    can_add,
    record {
      there = h.there;
      positions = positions_push w w_added d z r log_added h due_record.valid.host ready.next;
      membership = membership_push w w_added d z r log_added h whole;
      coverage = coverage_push w w_added d z r log_added h;
      clients = record {
        sessions = All-weaker (IsAsFar w.workload w.sessions (log_of w d) d z.floor) (IsAsFar w.workload w.sessions (log_of w_added d) d z.floor) (λ x has. record {
          home = has.home;
          commands = has.commands;
          standing = has.standing;
          seen = seen_push w w_added d z r log_added h x.standing.past has.seen;
          pinned = λ p pin. pin_push w w_added d z r log_added h x p (has.pinned p pin);
          fresh = has.fresh;
        }) z.sessions h.clients.sessions;
        present = h.clients.present;
        ordered = h.clients.ordered;
      };
      items = record {
        under_way = under_way_added;
        sound = h.items.sound;
        mapped = h.items.mapped;
      };
      knowledge = knowledge_push w w_added d z r log_added h;
    },
  )
