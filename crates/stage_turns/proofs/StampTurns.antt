-- What a turn leaves of the stages that it is lent is what the stage world's turn leaves.
use Rattle.std.proofs.Common.{◌≡◌, ◌≢◌, ℕ, ◌<◌, ◌||◌, false, cond, List, [], ◌++◌, length, set, refl, ap, ap₂, sym, subst, ◌∙◌, inl, inr, arith, Some, None}
use Rattle.std.specs.Option.{option_map_or}
use Rattle.std.proofs.lemmas.Bool.{cases_eq, eq-eqb, ne_eqb}
use Rattle.std.proofs.lemmas.List.{get_or-set_other, length-map, length-set, map-set, set-get_or}
use Rattle.std.proofs.lemmas.Grind.{get_or-set_at}
use Rattle.causal_deps.specs.declared.record.Item.{Item}
use Rattle.abstract_log.specs.declared.script.Outcome.TheVariants.{NoToken}
use Rattle.token_queue.specs.Drain.{Drained, drain_by}
use Rattle.token_queue.specs.Queues.{QueueState, tokenless, stamped_queue, stamped_token}
use Rattle.stage_world.specs.Stages.{Datacentre, no_queue, queue_at}
use Rattle.stage_world.specs.Turns.{Turned, quiet, drained, all_acknowledged, stamped, stamp_outcome, stamp_turn, stamp_events, token_turn}
use Rattle.stage_world.specs.Idle.{TellsChange, apart_from_epochs}
use Rattle.stage_turns.specs.Changing.{has_some, stamp_changes}
use Rattle.stage_turns.specs.Lent.{HaveToken, queues_seen, token_at_next, token_seen}
use Rattle.stage_turns.specs.Stamping.{drained_of, events_stamped, outcome_stamped, queue_stamped, sessions_stamped, stamped_outcome}
use Rattle.stage_turns.proofs.ChangeLemmas.{same_tells, stamp_tells}
use Rattle.stage_turns.proofs.RingLemmas.{token_is}
use Rattle.stage_turns.proofs.StampStands.{queue_seen}

-- The stamping of queue i leaves and answers what this turn does.
pub record IsStampTurn (d : ℕ) (z : Datacentre) (qs : List QueueState) (i : ℕ) (turned : Turned) : Type 0 where
  pub queues : queues_seen (set qs i (queue_stamped (queue_at qs i))) ≡ turned.after.queues
  pub token : HaveToken (set qs i (queue_stamped (queue_at qs i))) turned.after.token
  pub sessions : sessions_stamped (queue_at qs i) z.sessions ≡ turned.after.sessions
  pub others : turned.after ≡ record z { sessions = turned.after.sessions; queues = turned.after.queues; token = turned.after.token }
  pub outcome : outcome_stamped (queue_at qs i) ≡ turned.outcome
  pub events : events_stamped d (queue_at qs i) ≡ turned.events
  pub changed : TellsChange (stamp_changes (queue_at qs i)) z turned.after

module _ (d : ℕ) (z : Datacentre) (qs : List QueueState) (i : ℕ) (seen : queues_seen qs ≡ z.queues) (has : HaveToken qs z.token) (within : i < length qs) where
  abbrev q : QueueState
  q = queue_at qs i

  elsewhere : z.token.at ≢ i → IsStampTurn d z qs i (quiet NoToken z)
  elsewhere other =
      let none : q.token ≡ None = has.others i within (λ same. other (sym same)) in
      let same : set qs i (queue_stamped q) ≡ qs = ap (λ o. set qs i (option_map_or (λ t. stamped_queue q t (drained_of q t)) o q)) none ∙ set-get_or qs i no_queue in
      record {
        queues = ap queues_seen same ∙ seen;
        token = subst (λ xs. HaveToken xs z.token) (sym same) has;
        sessions = ap (λ o. option_map_or (λ t. all_acknowledged t.last (drained_of q t).stamped (drained_of q t).records z.sessions) o z.sessions) none;
        others = refl;
        outcome = ap (λ o. option_map_or (λ t. stamped_outcome q t) o NoToken) none;
        events = ap (λ o. option_map_or (λ t. stamp_events d t.last (drained_of q t).stamped (drained_of q t).records) o []) none;
        changed = subst (λ o. TellsChange (option_map_or (λ t. has_some q.items || has_some (drained_of q t).records) o false) z z) (sym none) (same_tells (apart_from_epochs z));
      }

  abbrev stamped_here : Turned
  stamped_here = record { after = stamped z i; outcome = stamp_outcome z i; events = stamp_events d z.token.last (drained z i).stamped (drained z i).records }

  here : z.token.at ≡ i → IsStampTurn d z qs i stamped_here
  here at =
      let is : q.token ≡ Some z.token = ap (λ k. (queue_at qs k).token) (sym at) ∙ has.holder in
      let without : tokenless q ≡ queue_at z.queues i = queue_seen qs z.queues i seen in
      let items : q.items ≡ (queue_at z.queues i).items = ap (λ (x : QueueState). x.items) without in
      let drain : drained_of q z.token ≡ drained z i = ap (λ (xs : List Item). drain_by z.token.dc z.token.counts (z.token.deferred ++ xs)) items in
      let new : queue_stamped q ≡ stamped_queue q z.token (drained z i) =
      ap (λ o. option_map_or (λ t. stamped_queue q t (drained_of q t)) o q) is ∙ ap (stamped_queue q z.token) drain in
      let left : set qs i (queue_stamped q) ≡ set qs i (stamped_queue q z.token (drained z i)) = ap (set qs i) new in
      record {
        queues =
            ap queues_seen left ∙ map-set tokenless qs i (stamped_queue q z.token (drained z i))
            ∙ ap (λ xs. set xs i (tokenless (stamped_queue q z.token (drained z i)))) seen
            ∙ ap (λ (x : QueueState). set z.queues i (tokenless (stamped_queue x z.token (drained z i)))) without;
        token = subst (λ xs. HaveToken xs (stamped_token z.token (drained z i))) (sym left) (record {
          there = omega (arith, has.there, length-set qs i (stamped_queue q z.token (drained z i)));
          holder = ap (λ (x : QueueState). x.token) (get_or-set_at qs i z.token.at (stamped_queue q z.token (drained z i)) no_queue at within);
          others = λ k inside other.
              ap (λ (x : QueueState). x.token) (get_or-set_other qs i k (stamped_queue q z.token (drained z i)) no_queue (λ same. other (same ∙ sym at)))
              ∙ has.others k (omega (arith, inside, length-set qs i (stamped_queue q z.token (drained z i)))) other;
        });
        sessions =
            ap (λ o. option_map_or (λ t. all_acknowledged t.last (drained_of q t).stamped (drained_of q t).records z.sessions) o z.sessions) is
            ∙ ap (λ (a : Drained). all_acknowledged z.token.last a.stamped a.records z.sessions) drain;
        others = refl;
        outcome = ap (λ o. option_map_or (λ t. stamped_outcome q t) o NoToken) is ∙ ap (λ (xs : List Item). stamped_outcome (record q { items = xs }) z.token) items;
        events =
            ap (λ o. option_map_or (λ t. stamp_events d t.last (drained_of q t).stamped (drained_of q t).records) o []) is
            ∙ ap (λ (a : Drained). stamp_events d z.token.last a.stamped a.records) drain;
        changed = subst (λ b. TellsChange b z (stamped z i)) (sym (told is items drain)) (stamp_tells z i (omega (arith, within, ap (λ (xs : List QueueState). length xs) seen, length-map qs tokenless)) (ap (λ (x : QueueState). x.token) (sym without)));
      }
    where
      told : q.token ≡ Some z.token → q.items ≡ (queue_at z.queues i).items → drained_of q z.token ≡ drained z i → stamp_changes q ≡ (has_some (queue_at z.queues i).items || has_some (drained z i).records)
      told is items drain =
          ap (λ o. option_map_or (λ t. has_some q.items || has_some (drained_of q t).records) o false) is
          ∙ ap₂ (λ (xs : List Item) (a : Drained). has_some xs || has_some a.records) items drain

  -- The stamping of a lent queue is the turn of the stage world.
  pub stamp_is_turn : IsStampTurn d z qs i (stamp_turn d z i)
  stamp_is_turn = elim (cases_eq z.token.at i) [
    | inl at ↦ subst (IsStampTurn d z qs i) (sym (ap (λ b. cond b stamped_here (quiet NoToken z)) (eq-eqb z.token.at i at))) (here at)
    | inr other ↦ subst (IsStampTurn d z qs i) (sym (ap (λ b. cond b stamped_here (quiet NoToken z)) (ne_eqb z.token.at i other))) (elsewhere other)
  ]

-- The token moves to where the turn of the stage world moves it.
pub token_is_turn : (z : Datacentre) (qs : List QueueState) → HaveToken qs z.token → token_at_next (token_seen qs) ≡ (token_turn z).after.token
token_is_turn z qs has = ap token_at_next (token_is qs z.token has)
