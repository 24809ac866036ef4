-- What the turns of the code leave is what those of the stage world leave.
use Rattle.std.proofs.Common.{◌≡◌, ℕ, ◌<◌, ◌≤◌, true, false, ltb, List, [], length, map, get_or, refl, ap, ap₂, sym, ◌∙◌, subst, arith, Option, Some, None, is_some, Result, Ok, Err, IfOk, OnOk}
use Rattle.std.specs.List.{All}
use Rattle.std.specs.Option.{ForSome, option_map_or}
use Rattle.std.proofs.lemmas.Slice.Zip.{AllZip-long}
use Rattle.std.proofs.lemmas.List.Elements.{All-get_or, All-contains}
use Rattle.std.proofs.lemmas.Bool.{cond-true, cond-false, le-ltb, lt-ltb}
use Rattle.abstract_log.specs.declared.command.Workload.{Workload}
use Rattle.abstract_log.specs.declared.script.Outcome.{Outcome}
use Rattle.abstract_log.specs.declared.script.Outcome.TheVariants.{Absent, Copied, Lost, Sent}
use Rattle.abstract_log.specs.declared.script.Step.{Step}
use Rattle.abstract_log.specs.declared.script.Step.TheVariants.{Client, Flush, Pass, Stamp, Token, Place, Gossip, Post, Learn, Send, Deliver, Lose, Copy, Floor, Collect, Announce, Mark, AddMaintainer, AddBatcher, AddQueue, AddSender, AddReceiver, Upgrade}
use Rattle.abstract_log.specs.declared.world.World.{World}
use Rattle.abstract_log.specs.Worlds.{log_of, plan_of, table_of}
use Rattle.lossy_links.specs.Links.{copied, lost_by_put, message_at, put_last, without}
use Rattle.lossy_links.specs.declared.link.Copied.{Copied as CopiedAnswer}
use Rattle.lossy_links.specs.declared.link.Copied.TheVariants.{Absent as NoPacket, Done, Overflow}
use Rattle.lossy_links.proofs.Carried.{in_taken}
use Rattle.record_codec.specs.declared.message.Message.{Message}
use Rattle.record_codec.specs.Wire.{SpellsMessage}
use Rattle.sender_receiver.specs.Sending.{form_of}
use Rattle.stage_world.specs.Stages.{Datacentre, Stages}
use Rattle.stage_world.specs.StandsFor.{StandsAt}
use Rattle.stage_world.specs.Turns.{Turned, quiet, where_there}
use Rattle.stage_world.specs.MoreTurns.{message_of, names_of, receive_turn}
use Rattle.stage_world.specs.LinkTurns.{Moved, deliver_turn, has_lost, link_length, moved_at, put_in_link, send_turn, still, with_link}
use Rattle.abstract_log.specs.Turns.{IsStep, datacentre_of_step}
use Rattle.stage_world.specs.Schedules.{step_of, turn_of}
use Rattle.stage_world.specs.Whole.{IsTold, datacentre_at, link_at}
use Rattle.stage_turns.specs.declared.done.TurnDone.{TurnDone}
use Rattle.datacentre.specs.Seen.{StandsForALog}
use Rattle.datacentre.specs.Turning.{IsOwnStep}
use Rattle.world.specs.declared.network.Network.{Network}
use Rattle.world.specs.Links.{AreLinked, AreSpelled, AreThere, copy_outcome, lose_outcome, outcome_of_copy, packets_at, with_packets}
use Rattle.world.specs.Showing.{HasMoved, HasSent, HasTurned, IsSeenAt, MayReceiveAt, MaySendAt, MayStep, MayTurnAt, Shows, uses_link}
use Rattle.world.proofs.LinkLemmas.{AreBoth, both_or_neither, packets_spelled, row_long, with_same, without_none, zip-lost, zip-message_at, zip-put_last, zip-without}
use Rattle.world.proofs.NetworkLemmas.{datacentres_there, rows_there, shows_link, shows_turn, state_there}

-- what the code finds of stages that it shows

pub seen_at : (dcs : ℕ) (z : Stages) (old : Network) (d : ℕ) → Shows dcs z old → d < dcs → IsSeenAt d (datacentre_at z d) old.datacentres
seen_at dcs z old d h within = record { there = omega (arith, within, datacentres_there dcs z old h); is = λ other. state_there dcs z old h d other within }

pub links_there : (dcs : ℕ) (z : Stages) (old : Network) (d e : ℕ) → Shows dcs z old → d < dcs → e < dcs → AreThere d e old.links
links_there dcs z old d e h in_d in_e =
    let wide : length (get_or z.links d []) ≡ dcs = All-get_or (λ (r : List (List Message)). length r ≡ dcs) z.links d [] (omega (arith, in_d, h.rows)) h.columns in
    let row : length (get_or old.links d []) ≡ dcs = sym (row_long dcs old.links z.links d h.links) ∙ wide in
    record { from = omega (arith, in_d, rows_there dcs z old h); to = omega (arith, in_e, row) }

-- the packets of a link
pub packets_are : (dcs : ℕ) (z : Stages) (old : Network) (d e : ℕ) → Shows dcs z old → AreSpelled dcs (packets_at old.links d e) (link_at z d e)
packets_are dcs z old d e h = packets_spelled dcs old.links z.links d e h.links

-- A step of a stage of one datacentre

pub own_is : (load : Workload) (z : Stages) (step : Step) → uses_link step ≡ false
    → step_of load z step ≡ moved_at z (datacentre_of_step load step) (turn_of (datacentre_of_step load step) (datacentre_at z (datacentre_of_step load step)) step)
own_is load z (Client s) own = refl
own_is load z (Flush d b) own = refl
own_is load z (Pass d f q) own = refl
own_is load z (Stamp d q) own = refl
own_is load z (Token d) own = refl
own_is load z (Place d q m) own = refl
own_is load z (Gossip d m k) own = refl
own_is load z (Post d m i) own = refl
own_is load z (Learn d) own = refl
own_is load z (Send d k e) own = absurd (cc)
own_is load z (Deliver d e k r) own = absurd (cc)
own_is load z (Lose d e k) own = absurd (cc)
own_is load z (Copy d e k) own = absurd (cc)
own_is load z (Floor d p) own = refl
own_is load z (Collect d m) own = refl
own_is load z (Announce d h t) own = refl
own_is load z (Mark d) own = refl
own_is load z (AddMaintainer d p) own = refl
own_is load z (AddBatcher d) own = refl
own_is load z (AddQueue d) own = refl
own_is load z (AddSender d) own = refl
own_is load z (AddReceiver d) own = refl
own_is load z (Upgrade d) own = refl

place_within : (load : Workload) (step : Step) → ((s : ℕ) → s < length load.sessions → (plan_of load s).home < load.dcs) → IsStep load step → datacentre_of_step load step < load.dcs
place_within load (Client s) homes good = homes s good
place_within load (Flush d b) homes good = good
place_within load (Pass d f q) homes good = good
place_within load (Stamp d q) homes good = good
place_within load (Token d) homes good = good
place_within load (Place d q m) homes good = good
place_within load (Gossip d m k) homes good = good
place_within load (Post d m i) homes good = good
place_within load (Learn d) homes good = good
place_within load (Send d k e) homes good = good.first
place_within load (Deliver d e k r) homes good = good.second
place_within load (Lose d e k) homes good = good.first
place_within load (Copy d e k) homes good = good.first
place_within load (Floor d p) homes good = good
place_within load (Collect d m) homes good = good
place_within load (Announce d h t) homes good = good.first
place_within load (Mark d) homes good = good
place_within load (AddMaintainer d p) homes good = good.0
place_within load (AddBatcher d) homes good = good
place_within load (AddQueue d) homes good = good
place_within load (AddSender d) homes good = good
place_within load (AddReceiver d) homes good = good
place_within load (Upgrade d) homes good = good

-- a step of a stage of one datacentre is one that its turn takes
own_here : (load : Workload) (z : Datacentre) (step : Step) → length z.table ≡ load.dcs → IsStep load step → uses_link step ≡ false → IsOwnStep z step
own_here load z (Client s) rows good own = tt
own_here load z (Flush _ b) rows good own = tt
own_here load z (Pass _ f q) rows good own = tt
own_here load z (Stamp _ q) rows good own = tt
own_here load z (Token _) rows good own = tt
own_here load z (Place _ q m) rows good own = tt
own_here load z (Gossip _ m k) rows good own = tt
own_here load z (Post _ m i) rows good own = tt
own_here load z (Learn _) rows good own = tt
own_here load z (Send _ k e) rows good own = absurd (cc)
own_here load z (Deliver _ e k r) rows good own = absurd (cc)
own_here load z (Lose _ e k) rows good own = absurd (cc)
own_here load z (Copy _ e k) rows good own = absurd (cc)
own_here load z (Floor _ p) rows good own = tt
own_here load z (Collect _ m) rows good own = tt
own_here load z (Announce _ g t) rows good own = omega (arith, good.second, rows)
own_here load z (Mark _) rows good own = tt
own_here load z (AddMaintainer _ p) rows good own = good.1
own_here load z (AddBatcher _) rows good own = tt
own_here load z (AddQueue _) rows good own = tt
own_here load z (AddSender _) rows good own = tt
own_here load z (AddReceiver _) rows good own = tt
own_here load z (Upgrade _) rows good own = tt

module _ (load : Workload) (step : Step) (z : Stages) (old : Network) (may : MayStep load step z old) where
  dcs_same : may.world.workload.dcs ≡ load.dcs
  dcs_same = ap (λ (l : Workload). l.dcs) may.same

  pub homes_within : datacentre_of_step load step < load.dcs
  homes_within = place_within load step (subst (λ (l : Workload). (s : ℕ) → s < length l.sessions → (plan_of l s).home < l.dcs) may.same may.lawful.shape.workload.homes) may.fits

  -- datacentre d of stages that may take the step
  stands_there : (d : ℕ) → d < load.dcs → StandsAt may.world d (datacentre_at z d)
  stands_there d within = may.stands.each d (omega (arith, within, dcs_same))

  log_there : (d : ℕ) → d < load.dcs → StandsForALog d (datacentre_at z d)
  log_there d within = record { world = may.world; lawful = may.lawful; stands = stands_there d within }

  -- its table has a row for each datacentre
  pub rows_are : (d : ℕ) → d < load.dcs → length (datacentre_at z d).table ≡ load.dcs
  rows_are d within = (stands_there d within).knowledge.aware.square.rows ∙ dcs_same

  pub may_turn : (d : ℕ) → uses_link step ≡ false → d ≡ datacentre_of_step load step → MayTurnAt d step old.datacentres
  may_turn d own at =
      let within : d < load.dcs = omega (arith, at, homes_within) in
      record {
        stages = datacentre_at z d;
        seen = seen_at load.dcs z old d may.shown within;
        log = log_there d within;
        own = own_here load (datacentre_at z d) step (rows_are d within) may.fits own;
      }

turned_at : (dcs : ℕ) (z : Stages) (old new : Network) (d : ℕ) (turned : Turned) (done : TurnDone) → Shows dcs z old → new.links ≡ old.links → HasTurned d (datacentre_at z d) turned old.datacentres new.datacentres done
    → HasMoved dcs (moved_at z d turned) new done
turned_at dcs z old new d turned done h links is = record {
  shown = shows_turn dcs z old h d turned.after new is.datacentres links;
  outcome = is.outcome;
  events = is.events;
}

pub own_moves : (load : Workload) (z : Stages) (old new : Network) (step : Step) (d : ℕ) (done : TurnDone) → Shows load.dcs z old → uses_link step ≡ false → d ≡ datacentre_of_step load step → new.links ≡ old.links
    → HasTurned d (datacentre_at z d) (turn_of d (datacentre_at z d) step) old.datacentres new.datacentres done → HasMoved load.dcs (step_of load z step) new done
own_moves load z old new step d done h own at links is =
    subst (λ m. HasMoved load.dcs m new done) (sym (own_is load z step own))
    (subst (λ p. HasMoved load.dcs (moved_at z p (turn_of p (datacentre_at z p) step)) new done) at (turned_at load.dcs z old new d (turn_of d (datacentre_at z d) step) done h links is))

-- A turn that leaves all as it was

still_moves : (dcs : ℕ) (z : Stages) (old new : Network) (o : Outcome) (done : TurnDone) → Shows dcs z old → new.datacentres ≡ old.datacentres → new.links ≡ old.links → done.outcome ≡ o → done.events ≡ []
    → HasMoved dcs (still o z) new done
still_moves dcs z old new o done h datacentres links outcome events = record {
  shown = record { datacentres = datacentres ∙ h.datacentres; links = subst (λ ls. AreLinked dcs ls z.links) (sym links) h.links; count = h.count; rows = h.rows; columns = h.columns };
  outcome = outcome;
  events = events;
}

-- A send

pub may_send : (load : Workload) (d k e : ℕ) (z : Stages) (old : Network) → MayStep load (Send d k e) z old → MaySendAt d e old.datacentres
may_send load d k e z old may = record {
  stages = datacentre_at z d;
  seen = seen_at load.dcs z old d may.shown may.fits.first;
  log = log_there load (Send d k e) z old may d may.fits.first;
  to = omega (arith, may.fits.second, rows_are load (Send d k e) z old may d may.fits.first);
}

-- a message goes into a link
put_moves : (dcs : ℕ) (z : Stages) (old new : Network) (d e : ℕ) (p : List ℕ) (m : Message) → Shows dcs z old → d < dcs → new.datacentres ≡ old.datacentres
    → new.links ≡ with_packets old.links d e (put_last (packets_at old.links d e) p) → SpellsMessage dcs p m → Shows dcs (put_in_link z d e m) new
put_moves dcs z old new d e p m h within datacentres links spelled =
    shows_link dcs z old h d e (put_last (packets_at old.links d e) p) (put_last (link_at z d e) m) new within datacentres links
    (zip-put_last (SpellsMessage dcs) (packets_at old.links d e) (link_at z d e) p m (packets_are dcs z old d e h) spelled)

pub length_are : (dcs : ℕ) (z : Stages) (new : Network) (d e : ℕ) → Shows dcs z new → length (packets_at new.links d e) ≡ link_length z d e
length_are dcs z new d e h = sym (AllZip-long (SpellsMessage dcs) (packets_at new.links d e) (link_at z d e) (packets_are dcs z new d e h))

lost_are : (dcs : ℕ) (z : Stages) (old : Network) (d e : ℕ) → Shows dcs z old → is_some (lost_by_put (packets_at old.links d e)) ≡ has_lost z d e
lost_are dcs z old d e h = zip-lost (SpellsMessage dcs) (packets_at old.links d e) (link_at z d e) (packets_are dcs z old d e h)

-- What the code does with what was sent: what is put where, and what is answered.
pub record IsPut (d e : ℕ) (old new : Network) (first : TurnDone) (packet : Option (List ℕ)) (done : TurnDone) : Type 0 where
  pub same : packet ≡ None → (new.links ≡ old.links) × (done ≡ first)
  pub links : ForSome packet (λ bytes. new.links ≡ with_packets old.links d e (put_last (packets_at old.links d e) bytes))
  pub outcome : ForSome packet (λ bytes. (names : List (ℕ × ℕ)) → first.outcome ≡ Sent names 0 false
      → done.outcome ≡ Sent names (length (packets_at new.links d e)) (is_some (lost_by_put (packets_at old.links d e))))
  pub events : done.events ≡ first.events

pub send_moves : (load : Workload) (z : Stages) (old new : Network) (d k e : ℕ) (first : TurnDone) (packet : Option (List ℕ)) (done : TurnDone) → Shows load.dcs z old → d < load.dcs
    → length (datacentre_at z d).table ≡ load.dcs → HasSent d k e (datacentre_at z d) old.datacentres new.datacentres (first, packet) → IsPut d e old new first packet done
    → HasMoved load.dcs (step_of load z (Send d k e)) new done
send_moves load z old new d k e first None done h within rows sent is =
    let y : Datacentre = datacentre_at z d in
    let gone : ltb k y.senders ≡ false = le-ltb k y.senders sent.packet in
    let absent : first.outcome ≡ Absent = sent.outcome ∙ ap (λ b. (where_there b y (quiet (Sent (names_of (message_of d y k e).records) 0 false) y)).outcome) gone in
    subst (λ m. HasMoved load.dcs m new done) (sym (cond-false (ltb k y.senders) (send_turn z d k e) (still Absent z) gone))
    (still_moves load.dcs z old new Absent done h sent.datacentres (is.same refl).0 (ap (λ (x : TurnDone). x.outcome) (is.same refl).1 ∙ absent) (is.events ∙ sent.events))
send_moves load z old new d k e first (Some p) done h within rows sent is =
    let y : Datacentre = datacentre_at z d in
    let m : Message = message_of d y k e in
    let here : ltb k y.senders ≡ true = lt-ltb k y.senders sent.packet.0 in
    let told : first.outcome ≡ Sent (names_of m.records) 0 false = sent.outcome ∙ ap (λ b. (where_there b y (quiet (Sent (names_of m.records) 0 false) y)).outcome) here in
    let spelled : SpellsMessage load.dcs p m = subst (λ n. SpellsMessage n p m) rows (record { form = form_of y.upgraded m; inside = sent.packet.1 }) in
    let shown : Shows load.dcs (put_in_link z d e m) new = put_moves load.dcs z old new d e p m h within sent.datacentres (is.links p refl) spelled in
    subst (λ x. HasMoved load.dcs x new done) (sym (cond-true (ltb k y.senders) (send_turn z d k e) (still Absent z) here)) (record {
      shown = shown;
      outcome = is.outcome p refl (names_of m.records) told ∙ ap₂ (λ n l. Sent (names_of m.records) n l) (length_are load.dcs (put_in_link z d e m) new d e shown) (lost_are load.dcs z old d e h);
      events = is.events ∙ sent.events;
    })

-- A message that is lost, and one that is copied

-- the same of what the code answers, unless memory ran out
pub sent_moves : {E : Type 0} (load : Workload) (z : Stages) (old new : Network) (d k e : ℕ) (first : TurnDone) (packet : Option (List ℕ)) (r : Result TurnDone E) → Shows load.dcs z old → d < load.dcs
    → length (datacentre_at z d).table ≡ load.dcs → HasSent d k e (datacentre_at z d) old.datacentres new.datacentres (first, packet)
    → (packet ≡ None → (new.links ≡ old.links) × IfOk r (λ done. done ≡ first))
    → ForSome packet (λ p. OnOk r (new.links ≡ with_packets old.links d e (put_last (packets_at old.links d e) p)))
    → ForSome packet (λ p. (names : List (ℕ × ℕ)) → first.outcome ≡ Sent names 0 false → IfOk r (λ done. done.outcome ≡ Sent names (length (packets_at new.links d e)) (is_some (lost_by_put (packets_at old.links d e)))))
    → IfOk r (λ done. done.events ≡ first.events) → IfOk r (HasMoved load.dcs (step_of load z (Send d k e)) new)
sent_moves load z old new d k e first packet (Ok done) h within rows sent same links outcome events =
    send_moves load z old new d k e first packet done h within rows sent (record { same = same; links = links; outcome = outcome; events = events })
sent_moves load z old new d k e first packet (Err x) h within rows sent same links outcome events = tt

-- the packet and the message at a place
pub both_at : (dcs : ℕ) (z : Stages) (old : Network) (d e k : ℕ) → Shows dcs z old → AreBoth (SpellsMessage dcs) (message_at (packets_at old.links d e) k) (message_at (link_at z d e) k)
both_at dcs z old d e k h = zip-message_at (SpellsMessage dcs) k (packets_at old.links d e) (link_at z d e) (packets_are dcs z old d e h)

-- a packet is there exactly where a message is
pub packet_there : (dcs : ℕ) (z : Stages) (old : Network) (d e k : ℕ) → Shows dcs z old → is_some (message_at (packets_at old.links d e) k) ≡ is_some (message_at (link_at z d e) k)
packet_there dcs z old d e k h = both_or_neither (SpellsMessage dcs) (message_at (packets_at old.links d e) k) (message_at (link_at z d e) k) (both_at dcs z old d e k h)

-- the links without a packet
taken_out : (dcs : ℕ) (z : Stages) (old new : Network) (d e k : ℕ) → Shows dcs z old → d < dcs → new.datacentres ≡ old.datacentres
    → new.links ≡ with_packets old.links d e (without (packets_at old.links d e) k) → Shows dcs (with_link z d e (without (link_at z d e) k)) new
taken_out dcs z old new d e k h within datacentres links =
    shows_link dcs z old h d e (without (packets_at old.links d e) k) (without (link_at z d e) k) new within datacentres links
    (zip-without (SpellsMessage dcs) k (packets_at old.links d e) (link_at z d e) (packets_are dcs z old d e h))

-- the links without a packet that is not there
none_out : (old new : Network) (d e k : ℕ) → new.links ≡ with_packets old.links d e (without (packets_at old.links d e) k) → message_at (packets_at old.links d e) k ≡ None → new.links ≡ old.links
none_out old new d e k links none = links ∙ ap (with_packets old.links d e) (without_none (packets_at old.links d e) k none) ∙ with_same old.links d e

lose_at : (dcs : ℕ) (z : Stages) (old new : Network) (d e k : ℕ) (done : TurnDone) (p : Option (List ℕ)) (o : Option Message) → message_at (packets_at old.links d e) k ≡ p → AreBoth (SpellsMessage dcs) p o
    → Shows dcs z old → d < dcs → new.datacentres ≡ old.datacentres → new.links ≡ with_packets old.links d e (without (packets_at old.links d e) k) → done.outcome ≡ lose_outcome p → done.events ≡ []
    → HasMoved dcs (option_map_or (λ m. still Lost (with_link z d e (without (link_at z d e) k))) o (still Absent z)) new done
lose_at dcs z old new d e k done None None is both h within datacentres links outcome events = still_moves dcs z old new Absent done h datacentres (none_out old new d e k links is) outcome events
lose_at dcs z old new d e k done None (Some m) is both h within datacentres links outcome events = absurd both
lose_at dcs z old new d e k done (Some p) None is both h within datacentres links outcome events = absurd both
lose_at dcs z old new d e k done (Some p) (Some m) is both h within datacentres links outcome events = record {
  shown = taken_out dcs z old new d e k h within datacentres links;
  outcome = outcome;
  events = events;
}

pub lose_moves : (load : Workload) (z : Stages) (old new : Network) (d e k : ℕ) (done : TurnDone) → Shows load.dcs z old → d < load.dcs → new.datacentres ≡ old.datacentres
    → new.links ≡ with_packets old.links d e (without (packets_at old.links d e) k) → done.outcome ≡ lose_outcome (message_at (packets_at old.links d e) k) → done.events ≡ []
    → HasMoved load.dcs (step_of load z (Lose d e k)) new done
lose_moves load z old new d e k done h within datacentres links outcome events =
    lose_at load.dcs z old new d e k done (message_at (packets_at old.links d e) k) (message_at (link_at z d e) k) refl (both_at load.dcs z old d e k h) h within datacentres links outcome events

-- what is answered to a copy of this packet
abbrev answer_at : Option (List ℕ) → List (List ℕ) → CopiedAnswer
answer_at o ps = option_map_or (λ _. option_map_or Overflow (lost_by_put ps) Done) o NoPacket

copied_as : (o : Option (List ℕ)) (n : ℕ) → outcome_of_copy (option_map_or Overflow o Done) n ≡ Copied n (is_some o)
copied_as None n = refl
copied_as (Some p) n = refl

copy_at : (dcs : ℕ) (z : Stages) (old new : Network) (d e k : ℕ) (done : TurnDone) (p : Option (List ℕ)) (o : Option Message) → AreBoth (SpellsMessage dcs) p o → Shows dcs z old → d < dcs
    → new.datacentres ≡ old.datacentres → new.links ≡ with_packets old.links d e (option_map_or (put_last (packets_at old.links d e)) p (packets_at old.links d e))
    → done.outcome ≡ outcome_of_copy (answer_at p (packets_at old.links d e)) (length (packets_at new.links d e)) → done.events ≡ []
    → HasMoved dcs (option_map_or (λ m. still (Copied (link_length (put_in_link z d e m) d e) (has_lost z d e)) (put_in_link z d e m)) o (still Absent z)) new done
copy_at dcs z old new d e k done None None both h within datacentres links outcome events = still_moves dcs z old new Absent done h datacentres (links ∙ with_same old.links d e) outcome events
copy_at dcs z old new d e k done None (Some m) both h within datacentres links outcome events = absurd both
copy_at dcs z old new d e k done (Some p) None both h within datacentres links outcome events = absurd both
copy_at dcs z old new d e k done (Some p) (Some m) both h within datacentres links outcome events =
    let shown : Shows dcs (put_in_link z d e m) new = put_moves dcs z old new d e p m h within datacentres links both in
    record {
      shown = shown;
      outcome =
          outcome ∙ copied_as (lost_by_put (packets_at old.links d e)) (length (packets_at new.links d e))
          ∙ ap₂ (λ n l. Copied n l) (length_are dcs (put_in_link z d e m) new d e shown) (lost_are dcs z old d e h);
      events = events;
    }

pub copy_moves : (load : Workload) (z : Stages) (old new : Network) (d e k : ℕ) (done : TurnDone) → Shows load.dcs z old → d < load.dcs → new.datacentres ≡ old.datacentres
    → new.links ≡ with_packets old.links d e (copied (packets_at old.links d e) k) → done.outcome ≡ copy_outcome (packets_at old.links d e) k (length (packets_at new.links d e)) → done.events ≡ []
    → HasMoved load.dcs (step_of load z (Copy d e k)) new done
copy_moves load z old new d e k done h within datacentres links outcome events =
    copy_at load.dcs z old new d e k done (message_at (packets_at old.links d e) k) (message_at (link_at z d e) k) (both_at load.dcs z old d e k h) h within datacentres links outcome events

-- A message that is delivered

-- a datacentre of stages that may take the step may be asked
pub may_ask : (load : Workload) (step : Step) (z : Stages) (old : Network) (d : ℕ) → MayStep load step z old → d < load.dcs → (y : Datacentre) × IsSeenAt d y old.datacentres × StandsForALog d y
may_ask load step z old d may within = (datacentre_at z d, seen_at load.dcs z old d may.shown within, log_there load step z old may d within)

-- the receiver is not there
pub deliver_absent : (load : Workload) (z : Stages) (old : Network) (d e k r : ℕ) (done : TurnDone) → Shows load.dcs z old → ltb r (datacentre_at z e).receivers ≡ false → done ≡ record { outcome = Absent; events = []; changed = false }
    → HasMoved load.dcs (step_of load z (Deliver d e k r)) old done
deliver_absent load z old d e k r done h none is =
    subst (λ m. HasMoved load.dcs m old done) (sym (cond-false (ltb r (datacentre_at z e).receivers) (deliver_turn z d e k r) (still Absent z) none))
    (still_moves load.dcs z old old Absent done h refl refl (ap (λ (x : TurnDone). x.outcome) is) (ap (λ (x : TurnDone). x.events) is))

-- there is no such message
deliver_none : (dcs : ℕ) (z : Stages) (old new : Network) (d e k r : ℕ) (done : TurnDone) (o : Option Message) → AreBoth (SpellsMessage dcs) None o → Shows dcs z old
    → new.datacentres ≡ old.datacentres → new.links ≡ old.links → done ≡ record { outcome = Absent; events = []; changed = false }
    → HasMoved dcs (option_map_or (λ m. moved_at (with_link z d e (without (link_at z d e) k)) e (receive_turn e (datacentre_at z e) r m)) o (still Absent z)) new done
deliver_none dcs z old new d e k r done None both h datacentres links is = still_moves dcs z old new Absent done h datacentres links (ap (λ (x : TurnDone). x.outcome) is) (ap (λ (x : TurnDone). x.events) is)
deliver_none dcs z old new d e k r done (Some m) both h datacentres links is = absurd both

pub deliver_empty : (load : Workload) (z : Stages) (old new : Network) (d e k r : ℕ) (done : TurnDone) → Shows load.dcs z old → ltb r (datacentre_at z e).receivers ≡ true → None ≡ message_at (packets_at old.links d e) k
    → new.datacentres ≡ old.datacentres → new.links ≡ with_packets old.links d e (without (packets_at old.links d e) k) → done ≡ record { outcome = Absent; events = []; changed = false }
    → HasMoved load.dcs (step_of load z (Deliver d e k r)) new done
deliver_empty load z old new d e k r done h there empty datacentres links is =
    subst (λ m. HasMoved load.dcs m new done) (sym (cond-true (ltb r (datacentre_at z e).receivers) (deliver_turn z d e k r) (still Absent z) there))
    (deliver_none load.dcs z old new d e k r done (message_at (link_at z d e) k) (subst (λ p. AreBoth (SpellsMessage load.dcs) p (message_at (link_at z d e) k)) (sym empty) (both_at load.dcs z old d e k h)) h datacentres
    (none_out old new d e k links (sym empty)) is)

-- the message of a packet in the link
pub record IsMessageOf (dcs : ℕ) (z : Stages) (d e k : ℕ) (packet : List ℕ) : Type 0 where
  pub message : Message
  pub there : message_at (link_at z d e) k ≡ Some message
  pub spelled : SpellsMessage dcs packet message

message_from : (dcs : ℕ) (z : Stages) (d e k : ℕ) (packet : List ℕ) (o : Option Message) → message_at (link_at z d e) k ≡ o → AreBoth (SpellsMessage dcs) (Some packet) o → IsMessageOf dcs z d e k packet
message_from dcs z d e k packet None is both = absurd both
message_from dcs z d e k packet (Some m) is both = record { message = m; there = is; spelled = both }

pub message_there : (dcs : ℕ) (z : Stages) (old : Network) (d e k : ℕ) (packet : List ℕ) → Shows dcs z old → Some packet ≡ message_at (packets_at old.links d e) k → IsMessageOf dcs z d e k packet
message_there dcs z old d e k packet h is =
    message_from dcs z d e k packet (message_at (link_at z d e) k) refl (subst (λ p. AreBoth (SpellsMessage dcs) p (message_at (link_at z d e) k)) (sym is) (both_at dcs z old d e k h))

-- so few datacentres
pub few_of : (load : Workload) (step : Step) (z : Stages) (old : Network) → MayStep load step z old → load.dcs ≤ 8
few_of load step z old may = subst (λ (l : Workload). l.dcs ≤ 8) may.same may.lawful.shape.workload.few

-- and so many rows of links
pub few_links : (load : Workload) (step : Step) (z : Stages) (old : Network) → MayStep load step z old → length old.links ≤ 8
few_links load step z old may = omega (arith, few_of load step z old may, rows_there load.dcs z old may.shown)

-- a packet of a link spells its message
message_spelled : (load : Workload) (d e k r : ℕ) (z : Stages) (old : Network) (packet : List ℕ) → MayStep load (Deliver d e k r) z old → (of : IsMessageOf load.dcs z d e k packet)
    → SpellsMessage (length (datacentre_at z e).table) packet of.message
message_spelled load d e k r z old packet may of = subst (λ n. SpellsMessage n packet of.message) (sym (rows_are load (Deliver d e k r) z old may e may.fits.second)) of.spelled

pub may_receive : (load : Workload) (d e k r : ℕ) (z : Stages) (old : Network) (packet : List ℕ) → MayStep load (Deliver d e k r) z old → Some packet ≡ message_at (packets_at old.links d e) k → MayReceiveAt e d packet old.datacentres
may_receive load d e k r z old packet may is =
    let step : Step = Deliver d e k r in
    let w : World = may.world in
    let of : IsMessageOf load.dcs z d e k packet = message_there load.dcs z old d e k packet may.shown is in
    let told : IsTold w.workload.dcs (log_of w d) (table_of w d) d of.message =
    All-contains (IsTold w.workload.dcs (log_of w d) (table_of w d) d) (link_at z d e) of.message (may.stands.links d e) (in_taken (link_at z d e) k of.message of.there) in
    record {
      stages = datacentre_at z e;
      seen = seen_at load.dcs z old e may.shown may.fits.second;
      log = log_there load step z old may e may.fits.second;
      told = record { message = of.message; spelled = message_spelled load d e k r z old packet may of; sender = told.from };
    }

-- a message comes to a datacentre
pub deliver_moves : (load : Workload) (d e k r : ℕ) (z : Stages) (old new : Network) (packet : List ℕ) (done : TurnDone) → MayStep load (Deliver d e k r) z old → ltb r (datacentre_at z e).receivers ≡ true
    → Some packet ≡ message_at (packets_at old.links d e) k → new.links ≡ with_packets old.links d e (without (packets_at old.links d e) k)
    → ((m : Message) → SpellsMessage (length (datacentre_at z e).table) packet m → HasTurned e (datacentre_at z e) (receive_turn e (datacentre_at z e) r m) old.datacentres new.datacentres done)
    → HasMoved load.dcs (step_of load z (Deliver d e k r)) new done
deliver_moves load d e k r z old new packet done may there is links turned =
    let of : IsMessageOf load.dcs z d e k packet = message_there load.dcs z old d e k packet may.shown is in
    let m : Message = of.message in
    let left : Stages = with_link z d e (without (link_at z d e) k) in
    let between : Network = record { datacentres = old.datacentres; links = new.links } in
    let shown : Shows load.dcs left between = taken_out load.dcs z old between d e k may.shown may.fits.first refl links in
    let moved : HasMoved load.dcs (moved_at left e (receive_turn e (datacentre_at z e) r m)) new done =
    turned_at load.dcs left between new e (receive_turn e (datacentre_at z e) r m) done shown refl (turned m (message_spelled load d e k r z old packet may of)) in
    subst (λ x. HasMoved load.dcs x new done) (sym (cond-true (ltb r (datacentre_at z e).receivers) (deliver_turn z d e k r) (still Absent z) there))
    (subst (λ o. HasMoved load.dcs (option_map_or (λ y. moved_at left e (receive_turn e (datacentre_at z e) r y)) o (still Absent z)) new done) (sym of.there) moved)

pub copied_ok : {E : Type 0} (load : Workload) (z : Stages) (old new : Network) (d e k : ℕ) (r : Result TurnDone E) → Shows load.dcs z old → d < load.dcs → new.datacentres ≡ old.datacentres
    → OnOk r (new.links ≡ with_packets old.links d e (copied (packets_at old.links d e) k)) → IfOk r (λ done. done.outcome ≡ copy_outcome (packets_at old.links d e) k (length (packets_at new.links d e)))
    → IfOk r (λ done. done.events ≡ []) → IfOk r (HasMoved load.dcs (step_of load z (Copy d e k)) new)
copied_ok load z old new d e k (Ok done) h within datacentres links outcome events = copy_moves load z old new d e k done h within datacentres links outcome events
copied_ok load z old new d e k (Err x) h within datacentres links outcome events = tt

-- the same, where it is told that something changed
pub changed_moves : (dcs : ℕ) (moved : Moved) (network : Network) (done told : TurnDone) → HasMoved dcs moved network done → told ≡ record done { changed = true } → HasMoved dcs moved network told
changed_moves dcs moved network done told is same = record {
  shown = is.shown;
  outcome = ap (λ (x : TurnDone). x.outcome) same ∙ is.outcome;
  events = ap (λ (x : TurnDone). x.events) same ∙ is.events;
}
