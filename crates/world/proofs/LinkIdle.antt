-- Which turns that use a link are idle.
--
-- What is proved: it is told that a link changed exactly where its messages did. What a put or a copy does to the messages of one link is
-- told by the code that compares them; here it is among all stages. By cases of the turn.
-- The theorems are `sent_tells`, `delivered_told`, `lost_told` and `copied_tells`.
use Rattle.std.proofs.Common.{◌≡◌, ◌≢◌, ℕ, zero, suc, ◌<◌, ◌≤◌, ltb, is_some, Bool, true, false, List, [], length, map, get_or, set, refl, ap, sym, ◌∙◌, subst, arith, Option, Some, None, Result, Ok, Err, IfOk}
use Rattle.std.specs.Option.{ForSome, option_map_or}
use Rattle.std.proofs.lemmas.Bool.{cond-true, cond-false, lt-ltb, le-ltb}
use Rattle.std.proofs.lemmas.List.{get_or-set_same, set-get_or}
use Rattle.std.proofs.lemmas.List.Edits.{length-remove}
use Rattle.std.proofs.lemmas.List.Elements.{All-get_or}
use Rattle.std.proofs.lemmas.Option.{slice_get_within}
use Rattle.abstract_log.specs.declared.command.Workload.{Workload}
use Rattle.abstract_log.specs.declared.script.Outcome.{Outcome}
use Rattle.abstract_log.specs.declared.script.Outcome.TheVariants.{Absent, Copied, Lost, Sent}
use Rattle.abstract_log.specs.declared.script.Step.{Step}
use Rattle.abstract_log.specs.declared.script.Step.TheVariants.{Send, Deliver, Lose, Copy}
use Rattle.lossy_links.specs.Links.{copied, message_at, put_last, without}
use Rattle.record_codec.specs.declared.message.Message.{Message}
use Rattle.record_codec.specs.Wire.{SpellsMessage}
use Rattle.sender_receiver.specs.Sending.{form_of}
use Rattle.stage_world.specs.Stages.{Datacentre, Stages}
use Rattle.stage_world.specs.LinkTurns.{deliver_turn, has_lost, link_length, moved_at, put_in_link, send_turn, still, with_link}
use Rattle.stage_world.specs.MoreTurns.{message_of, names_of, receive_turn}
use Rattle.stage_world.specs.Schedules.{step_of}
use Rattle.stage_world.specs.Whole.{datacentre_at, link_at}
use Rattle.stage_world.specs.Idle.{TellsApart, apart_from_epochs}
use Rattle.datacentre.specs.Seen.{DatacentreState}
use Rattle.stage_turns.specs.declared.done.TurnDone.{TurnDone}
use Rattle.world.specs.declared.network.Network.{Network}
use Rattle.world.specs.Links.{AreSpelled, packets_at}
use Rattle.world.specs.Showing.{HasSent, Shows, TellsIdle}
use Rattle.world.proofs.CallLemmas.{not_changed}
use Rattle.world.proofs.MovingLemmas.{packet_there, packets_are}
use Rattle.world.proofs.NetworkLemmas.{rows_there}

-- a message that is taken out is missed
taken_apart : {A : Type 0} (ms : List A) (k : ℕ) (m : A) → message_at ms k ≡ Some m → ms ≢ without ms k
taken_apart ms zero m there same = absurd (cc)
taken_apart ms (suc k) m there same = absurd (omega (arith, length-remove ms k (slice_get_within ms k m there), ap length same))

-- Turns that use one link

-- a turn that does nothing is idle
still_told : (load : Workload) (z : Stages) (step : Step) (o : Outcome) (changed : Bool) → changed ≡ false → step_of load z step ≡ still o z → TellsIdle load z step changed
still_told load z step o changed unchanged is = record {
  idle = λ _. record { links = ap (λ m. m.after.links) is; datacentres = ap (λ m. map apart_from_epochs m.after.datacentres) is };
  other = λ yes idle. absurd (let not : false ≡ true = sym unchanged ∙ yes in cc);
}

module _ (dcs : ℕ) (z : Stages) (old : Network) (d e : ℕ) (shown : Shows dcs z old) (in_d : d < dcs) (in_e : e < dcs) where
  wide : length (get_or z.links d []) ≡ dcs
  wide = All-get_or (λ (row : List (List Message)). length row ≡ dcs) z.links d [] (omega (arith, in_d, shown.rows)) shown.columns

  link_set : (ms : List Message) → link_at (with_link z d e ms) d e ≡ ms
  link_set ms =
      ap (λ row. get_or row e []) (get_or-set_same z.links d (set (get_or z.links d []) e ms) [] (omega (arith, in_d, shown.rows)))
      ∙ get_or-set_same (get_or z.links d []) e ms [] (omega (arith, in_e, wide))

  link_kept : (ms : List Message) → link_at z d e ≡ ms → (with_link z d e ms).links ≡ z.links
  link_kept ms same =
      ap (λ xs. set z.links d (set (get_or z.links d []) e xs)) (sym same) ∙ ap (set z.links d) (set-get_or (get_or z.links d []) e []) ∙ set-get_or z.links d []

  -- other messages in the link, and the datacentres as they were
  link_told : (load : Workload) (step : Step) (o : Outcome) (ms : List Message) (changed : Bool) → TellsApart changed (link_at z d e) ms → step_of load z step ≡ still o (with_link z d e ms)
      → TellsIdle load z step changed
  link_told load step o ms changed tells is = record {
    idle = λ no. record {
      links = ap (λ m. m.after.links) is ∙ link_kept ms (tells.same no);
      datacentres = ap (λ m. map apart_from_epochs m.after.datacentres) is;
    };
    other = λ yes idle. tells.other yes (ap (λ ls. get_or (get_or ls d []) e []) (sym idle.links ∙ ap (λ m. m.after.links) is) ∙ link_set ms);
  }

-- Send

pub send_absent_told : (load : Workload) (z : Stages) (d k e : ℕ) (changed : Bool) → (datacentre_at z d).senders ≤ k → changed ≡ false → TellsIdle load z (Send d k e) changed
send_absent_told load z d k e changed gone tells =
    let none : ltb k (datacentre_at z d).senders ≡ false = le-ltb k (datacentre_at z d).senders gone in
    still_told load z (Send d k e) Absent changed tells (cond-false (ltb k (datacentre_at z d).senders) (send_turn z d k e) (still Absent z) none)

module _ (load : Workload) (z : Stages) (old : Network) (d e : ℕ) (shown : Shows load.dcs z old) (in_d : d < load.dcs) (in_e : e < load.dcs) where
  -- what is told of other messages in the link, by its packets
  abbrev TellsPut : List ℕ → Bool → Type 0
  TellsPut p changed =
      (ms : List Message) (m : Message) → AreSpelled (length old.links) (packets_at old.links d e) ms → SpellsMessage (length old.links) p m → TellsApart changed ms (put_last ms m)

  abbrev TellsCopy : ℕ → Bool → Type 0
  TellsCopy k changed = (ms : List Message) → AreSpelled (length old.links) (packets_at old.links d e) ms → TellsApart changed ms (copied ms k)

  spelled_here : AreSpelled (length old.links) (packets_at old.links d e) (link_at z d e)
  spelled_here = subst (λ n. AreSpelled n (packets_at old.links d e) (link_at z d e)) (sym (rows_there load.dcs z old shown)) (packets_are load.dcs z old d e shown)

  sent_told : (new : List DatacentreState) (k : ℕ) (first : TurnDone) (packet : Option (List ℕ)) (done : TurnDone) → length (datacentre_at z d).table ≡ load.dcs
      → HasSent d k e (datacentre_at z d) old.datacentres new (first, packet) → (packet ≡ None → done ≡ first) → ForSome packet (λ p. TellsPut p done.changed) → TellsIdle load z (Send d k e) done.changed
  sent_told new k first None done rows sent same changed = send_absent_told load z d k e done.changed sent.packet (ap (λ (x : TurnDone). x.changed) (same refl) ∙ sent.changed)
  sent_told new k first (Some p) done rows sent same changed =
      let y : Datacentre = datacentre_at z d in
      let m : Message = message_of d y k e in
      let here : ltb k y.senders ≡ true = lt-ltb k y.senders sent.packet.0 in
      let spelled : SpellsMessage (length old.links) p m = subst (λ n. SpellsMessage n p m) (rows ∙ sym (rows_there load.dcs z old shown)) (record { form = form_of y.upgraded m; inside = sent.packet.1 }) in
      link_told load.dcs z old d e shown in_d in_e load (Send d k e) (Sent (names_of m.records) (link_length (put_in_link z d e m) d e) (has_lost z d e)) (put_last (link_at z d e) m) done.changed
      (changed p refl (link_at z d e) m spelled_here spelled)
      (cond-true (ltb k y.senders) (send_turn z d k e) (still Absent z) here)

  pub sent_tells : {E : Type 0} (new : List DatacentreState) (k : ℕ) (first : TurnDone) (packet : Option (List ℕ)) (r : Result TurnDone E) (same : Type 0) → length (datacentre_at z d).table ≡ load.dcs
      → HasSent d k e (datacentre_at z d) old.datacentres new (first, packet) → (packet ≡ None → same × IfOk r (λ done. done ≡ first))
      → ForSome packet (λ p. (ms : List Message) (m : Message) → AreSpelled (length old.links) (packets_at old.links d e) ms → SpellsMessage (length old.links) p m → IfOk r (λ done. TellsApart done.changed ms (put_last ms m)))
      → IfOk r (λ done. TellsIdle load z (Send d k e) done.changed)
  sent_tells new k first packet (Ok done) same rows sent none changed = sent_told new k first packet done rows sent (λ is. (none is).1) changed
  sent_tells new k first packet (Err x) same rows sent none changed = tt

  -- Copy

  copied_at : (k : ℕ) (changed : Bool) (o : Option Message) → message_at (link_at z d e) k ≡ o → TellsApart changed (link_at z d e) (option_map_or (put_last (link_at z d e)) o (link_at z d e))
      → TellsIdle load z (Copy d e k) changed
  copied_at k changed None there tells =
      still_told load z (Copy d e k) Absent changed (not_changed changed (link_at z d e) (link_at z d e) refl tells)
      (ap (λ o. option_map_or (λ m. still (Copied (link_length (put_in_link z d e m) d e) (has_lost z d e)) (put_in_link z d e m)) o (still Absent z)) there)
  copied_at k changed (Some m) there tells =
      link_told load.dcs z old d e shown in_d in_e load (Copy d e k) (Copied (link_length (put_in_link z d e m) d e) (has_lost z d e)) (put_last (link_at z d e) m) changed tells
      (ap (λ o. option_map_or (λ x. still (Copied (link_length (put_in_link z d e x) d e) (has_lost z d e)) (put_in_link z d e x)) o (still Absent z)) there)

  copied_told : (k : ℕ) (changed : Bool) → TellsCopy k changed → TellsIdle load z (Copy d e k) changed
  copied_told k changed tells = copied_at k changed (message_at (link_at z d e) k) refl (tells (link_at z d e) spelled_here)

  pub copied_tells : {E : Type 0} (k : ℕ) (r : Result TurnDone E) → ((ms : List Message) → AreSpelled (length old.links) (packets_at old.links d e) ms → IfOk r (λ done. TellsApart done.changed ms (copied ms k)))
      → IfOk r (λ done. TellsIdle load z (Copy d e k) done.changed)
  copied_tells k (Ok done) tells = copied_told k done.changed tells
  copied_tells k (Err x) tells = tt

  -- a packet was found exactly where there is a message
  found_is : (k : ℕ) (changed : Bool) (o : Option Message) → message_at (link_at z d e) k ≡ o → changed ≡ is_some (message_at (packets_at old.links d e) k) → changed ≡ is_some o
  found_is k changed o there tells = tells ∙ packet_there load.dcs z old d e k shown ∙ ap is_some there

  -- Lose

  lost_at : (k : ℕ) (changed : Bool) (o : Option Message) → message_at (link_at z d e) k ≡ o → changed ≡ is_some o → TellsIdle load z (Lose d e k) changed
  lost_at k changed None there tells =
      still_told load z (Lose d e k) Absent changed tells (ap (λ o. option_map_or (λ m. still Lost (with_link z d e (without (link_at z d e) k))) o (still Absent z)) there)
  lost_at k changed (Some m) there tells =
      link_told load.dcs z old d e shown in_d in_e load (Lose d e k) Lost (without (link_at z d e) k) changed
      (record {
        same = λ no. absurd (let not : false ≡ true = sym no ∙ tells in cc);
        other = λ yes. taken_apart (link_at z d e) k m there;
      })
      (ap (λ o. option_map_or (λ x. still Lost (with_link z d e (without (link_at z d e) k))) o (still Absent z)) there)

  pub lost_told : (k : ℕ) (changed : Bool) → changed ≡ is_some (message_at (packets_at old.links d e) k) → TellsIdle load z (Lose d e k) changed
  lost_told k changed tells = lost_at k changed (message_at (link_at z d e) k) refl (found_is k changed (message_at (link_at z d e) k) refl tells)

  -- Deliver

  pub no_receiver_told : (k r : ℕ) (changed : Bool) → ltb r (datacentre_at z e).receivers ≡ false → changed ≡ false → TellsIdle load z (Deliver d e k r) changed
  no_receiver_told k r changed none tells =
      still_told load z (Deliver d e k r) Absent changed tells (cond-false (ltb r (datacentre_at z e).receivers) (deliver_turn z d e k r) (still Absent z) none)

  delivered_at : (k r : ℕ) (changed : Bool) (o : Option Message) → ltb r (datacentre_at z e).receivers ≡ true → message_at (link_at z d e) k ≡ o → changed ≡ is_some o → TellsIdle load z (Deliver d e k r) changed
  delivered_at k r changed None there is tells =
      still_told load z (Deliver d e k r) Absent changed tells
      (cond-true (ltb r (datacentre_at z e).receivers) (deliver_turn z d e k r) (still Absent z) there
      ∙ ap (λ o. option_map_or (λ m. moved_at (with_link z d e (without (link_at z d e) k)) e (receive_turn e (datacentre_at z e) r m)) o (still Absent z)) is)
  delivered_at k r changed (Some m) there is tells =
      let moved : step_of load z (Deliver d e k r) ≡ moved_at (with_link z d e (without (link_at z d e) k)) e (receive_turn e (datacentre_at z e) r m) =
      cond-true (ltb r (datacentre_at z e).receivers) (deliver_turn z d e k r) (still Absent z) there
      ∙ ap (λ o. option_map_or (λ x. moved_at (with_link z d e (without (link_at z d e) k)) e (receive_turn e (datacentre_at z e) r x)) o (still Absent z)) is in
      record {
        idle = λ no. absurd (let not : false ≡ true = sym no ∙ tells in cc);
        other = λ yes idle. taken_apart (link_at z d e) k m is
            (ap (λ ls. get_or (get_or ls d []) e []) (sym idle.links ∙ ap (λ x. x.after.links) moved) ∙ link_set load.dcs z old d e shown in_d in_e (without (link_at z d e) k));
      }

  pub delivered_told : (k r : ℕ) (changed : Bool) → ltb r (datacentre_at z e).receivers ≡ true → changed ≡ is_some (message_at (packets_at old.links d e) k) → TellsIdle load z (Deliver d e k r) changed
  delivered_told k r changed there tells = delivered_at k r changed (message_at (link_at z d e) k) there refl (found_is k changed (message_at (link_at z d e) k) refl tells)
