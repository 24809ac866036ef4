-- What one of the datacentres did, among all of them.
use Rattle.std.proofs.Common.{◌≡◌, ℕ, List, get_or, set, refl, ap, sym, ◌∙◌, subst, Result, Ok, Err, IfOk, Option, Some, ltb, Bool, true, false, [], length}
use Rattle.std.specs.Option.{ForSome}
use Rattle.std.proofs.lemmas.List.{set-get_or}
use Rattle.abstract_log.specs.declared.script.Sizes.{Sizes}
use Rattle.abstract_log.specs.declared.script.Step.{Step}
use Rattle.stage_world.specs.Stages.{Datacentre, sizes_of}
use Rattle.abstract_log.specs.declared.script.Outcome.{Outcome}
use Rattle.abstract_log.specs.declared.script.Outcome.TheVariants.{Sent}
use Rattle.record_codec.specs.declared.message.Message.{Message}
use Rattle.record_codec.specs.Wire.{SpellsMessage}
use Rattle.stage_world.specs.MoreTurns.{message_of, names_of, receive_turn}
use Rattle.stage_world.specs.Turns.{Turned, quiet, where_there}
use Rattle.stage_world.specs.Idle.{TellsApart, apart_from_epochs}
use Rattle.stage_world.specs.Schedules.{turn_of}
use Rattle.stage_turns.specs.declared.done.TurnDone.{TurnDone}
use Rattle.datacentre.specs.Seen.{DatacentreState, StandsForALog}
use Rattle.datacentre.specs.Turning.{Sends, TakesTurn}
use Rattle.world.specs.Showing.{HasSent, HasTurned, IsSeenAt}

-- a send leaves the stages as they were, and has no event
same_after : (b : Bool) (z : Datacentre) (o : Outcome) → (where_there b z (quiet o z)).after ≡ z
same_after true z o = refl
same_after false z o = refl

no_events : (b : Bool) (z : Datacentre) (o : Outcome) → (where_there b z (quiet o z)).events ≡ []
no_events true z o = refl
no_events false z o = refl

-- what is the same did not change
pub not_changed : {X : Type 0} (changed : Bool) (old new : X) → old ≡ new → TellsApart changed old new → changed ≡ false
not_changed false old new same tells = refl
not_changed true old new same tells = absurd (tells.other refl same)

abbrev at : ℕ → Datacentre → DatacentreState
at d z = record { dc = d; stages = Some z }

-- the stages of datacentre d are one
pub same_seen : (d : ℕ) (y z : Datacentre) (old : List DatacentreState) → IsSeenAt d y old → IsSeenAt d z old → y ≡ z
same_seen d y z old one other = same (ap (λ (s : DatacentreState). s.stages) (sym (one.is (at d y)) ∙ other.is (at d y)))
  where
    same : Some y ≡ Some z → y ≡ z
    same is = cc

module _ (d i : ℕ) (z : Datacentre) (old : List DatacentreState) (item : DatacentreState) (same : i ≡ d) (here : item ≡ get_or old i item) (seen : IsSeenAt d z old) where
  -- the one that was lent
  pub item_is : item ≡ at d z
  item_is = here ∙ ap (λ j. get_or old j item) same ∙ seen.is item

  pub turned_ok : {E : Type 0} (turned : Turned) (r : Result TurnDone E) (new : DatacentreState) → TakesTurn d z turned r new → IfOk r (HasTurned d z turned old (set old i new))
  turned_ok turned (Ok done) new took = record {
    datacentres = ap (λ j. set old j new) same ∙ ap (set old d) took.state;
    outcome = took.outcome;
    events = took.events;
    changed = took.changed;
  }
  turned_ok turned (Err e) new took = tt

  pub taken_ok : {E : Type 0} (step : Step) (r : Result TurnDone E) (new : DatacentreState) → ForSome item.stages (λ x. TakesTurn item.dc x (turn_of item.dc x step) r new)
      → IfOk r (HasTurned d z (turn_of d z step) old (set old i new))
  taken_ok step r new f = turned_ok (turn_of d z step) r new (subst (λ (s : DatacentreState). ForSome s.stages (λ x. TakesTurn s.dc x (turn_of s.dc x step) r new)) item_is f z refl)

  -- a state that is put in its own place
  put_back : (new : DatacentreState) → new ≡ at d z → set old i new ≡ old
  put_back new is = ap (set old i) (is ∙ sym item_is ∙ here) ∙ set-get_or old i item

  sent_with : {E : Type 0} (k e : ℕ) (r : Result (TurnDone × Option (List ℕ)) E) (new : DatacentreState) → Sends d z k e r new → IfOk r (HasSent d k e z old (set old i new))
  sent_with k e (Ok sent) new sends = record {
    datacentres = put_back new (sends.0.state ∙ ap (at d) (same_after (ltb k z.senders) z (Sent (names_of (message_of d z k e).records) 0 false)));
    outcome = sends.0.outcome;
    events = sends.0.events ∙ no_events (ltb k z.senders) z (Sent (names_of (message_of d z k e).records) 0 false);
    changed = not_changed sent.0.changed (apart_from_epochs z) _ (ap apart_from_epochs (sym (same_after (ltb k z.senders) z (Sent (names_of (message_of d z k e).records) 0 false)))) sends.0.changed;
    packet = sends.1;
  }
  sent_with k e (Err x) new sends = tt

  pub sent_ok : {E : Type 0} (k e : ℕ) (r : Result (TurnDone × Option (List ℕ)) E) (new : DatacentreState) → ForSome item.stages (λ x. Sends item.dc x k e r new) → IfOk r (HasSent d k e z old (set old i new))
  sent_ok k e r new f = sent_with k e r new (subst (λ (s : DatacentreState). ForSome s.stages (λ x. Sends s.dc x k e r new)) item_is f z refl)

  pub received_ok : {E : Type 0} (a : ℕ) (packet : List ℕ) (m : Message) (r : Result TurnDone E) (new : DatacentreState)
      → ForSome item.stages (λ x. (n : Message) → SpellsMessage (length x.table) packet n → TakesTurn item.dc x (receive_turn item.dc x a n) r new) → SpellsMessage (length z.table) packet m
      → IfOk r (HasTurned d z (receive_turn d z a m) old (set old i new))
  received_ok a packet m r new f spelled =
      turned_ok (receive_turn d z a m) r new
      (subst (λ (s : DatacentreState). ForSome s.stages (λ x. (n : Message) → SpellsMessage (length x.table) packet n → TakesTurn s.dc x (receive_turn s.dc x a n) r new)) item_is f z refl m spelled)

  pub has_receiver_is : (a : ℕ) (sizes : Sizes) → StandsForALog d z → ForSome item.stages (λ x. StandsForALog item.dc x → sizes ≡ sizes_of x) → ltb a sizes.receivers ≡ ltb a z.receivers
  has_receiver_is a sizes log f =
      ap (λ (s : Sizes). ltb a s.receivers) (subst (λ (s : DatacentreState). ForSome s.stages (λ x. StandsForALog s.dc x → sizes ≡ sizes_of x)) item_is f z refl log)
