-- A datacentre that has not failed has its parts to be seen.
use Rattle.std.proofs.Common.{Result, Ok, Err, IfOk, ◌≡◌, ◌≢◌, ◌↔◌, ℕ, ◌<◌, ◌≤◌, Bool, true, false, cond, List, [], length, ap, ap₂, sym, ◌∙◌, subst, arith, Option, Some, None}
use Rattle.std.specs.Bool.{IsTrue}
use Rattle.std.specs.Option.{ForSome}
use Rattle.std.specs.Result.{is_err}
use Rattle.std.proofs.lemmas.Bool.{false≢true}
use Rattle.std.proofs.lemmas.List.{length-map}
use Rattle.std.proofs.lemmas.Option.{same_Some}
use Rattle.causal_deps.specs.declared.record.Record.{Record}
use Rattle.abstract_log.specs.declared.script.Step.{Step}
use Rattle.abstract_log.specs.declared.script.Step.TheVariants.{Send}
use Rattle.maintainer.specs.Maintainers.{MaintainerState, plain}
use Rattle.record_codec.specs.declared.message.Message.{Message}
use Rattle.record_codec.specs.Wire.{SpellsMessage}
use Rattle.token_queue.specs.Queues.{tokenless}
use Rattle.stage_world.specs.Stages.{Datacentre, sizes_of}
use Rattle.stage_world.specs.Turns.{Turned}
use Rattle.stage_world.specs.MoreTurns.{message_of, receive_turn}
use Rattle.stage_world.specs.Schedules.{turn_of}
use Rattle.datacentre.specs.declared.parts.Parts.{Parts}
use Rattle.stage_turns.specs.declared.done.TurnDone.{TurnDone}
use Rattle.stage_turns.specs.Lent.{token_seen}
use Rattle.datacentre.specs.Seen.{DatacentreState, IsWhole, StandsForALog, seen, state_of}
use Rattle.stage_turns.specs.Told.{told_message}
use Rattle.datacentre.specs.Turning.{IsPacketOf, IsTurned, MayTurn, Sends, TakesTurn}
use Rattle.datacentre.proofs.WholeLinks.{told_all}

-- at most 16 of each kind
pub record AreFew (p : Parts) : Type 0 where
  pub batchers : length p.batchers ≤ 16
  pub filters : length p.filters ≤ 16
  pub queues : length p.queues ≤ 16
  pub maintainers : length p.maintainers ≤ 16
  pub indexers : length p.indexers ≤ 16
  pub senders : length p.senders ≤ 16
  pub holder : (token_seen p.queues).at < 16

pub are_few : (p : Parts) → StandsForALog p.dc (seen p) → AreFew p
are_few p log = record {
  batchers = log.stands.membership.members.ranges.batchers.1;
  filters = log.stands.membership.members.ranges.filters.1;
  queues = omega (arith, log.stands.membership.members.ranges.queues.1, length-map p.queues tokenless);
  maintainers = omega (arith, log.stands.membership.members.ranges.maintainers.1, length-map p.maintainers (λ (y : MaintainerState Record). plain y));
  indexers = log.stands.membership.members.ranges.indexers.1;
  senders = log.stands.membership.members.ranges.senders.1;
  holder = omega (arith, log.stands.membership.members.ranges.queues.1, log.stands.membership.members.holder);
}

some_at : (b : Bool) (z x : Datacentre) → cond b None (Some z) ≡ Some x → z ≡ x
some_at true z x is = absurd (cc)
some_at false z x is = same_Some z x is

-- what a turn leaves, of a datacentre whose stages are these

takes : {E : Type 0} (result : Result TurnDone E) (p new : Parts) (d : ℕ) (b : Bool) (turned : Turned) → p.dc ≡ d → b ≡ is_err result → IfOk result (λ done. IsTurned p new done turned) → TakesTurn d (seen p) turned result (state_of b new)
takes (Ok done) p new d b turned here is h = record {
  state = ap (λ c. state_of c new) is ∙ (λ i. record { dc = (h.here ∙ here) i; stages = Some (h.stages i) });
  outcome = h.outcome;
  events = h.events;
  changed = h.changed;
}
takes (Err e) p new d b turned here is h = ap (λ c. cond c None (Some (seen new))) is

pub whole_after : {E : Type 0} (result : Result TurnDone E) (p new : Parts) (b : Bool) (turned : Turned) → b ≡ is_err result → IfOk result (λ done. IsTurned p new done turned) → b ≡ false → IsWhole new
whole_after (Ok done) p new b turned is h live = h.whole
whole_after (Err e) p new b turned is h live = absurd (false≢true (sym live ∙ is))

sends : {E : Type 0} (result : Result (TurnDone × Option (List ℕ)) E) (p new : Parts) (d : ℕ) (b : Bool) (k e : ℕ) → p.dc ≡ d → b ≡ is_err result
    → IfOk result (λ sent. IsTurned p new sent.0 (turn_of d (seen p) (Send d k e))) → IfOk result (λ sent. IsPacketOf d (seen p) k e sent.1)
    → Sends d (seen p) k e result (state_of b new)
sends (Ok sent) p new d b k e here is h packet = (
  record {
    state = ap (λ c. state_of c new) is ∙ (λ i. record { dc = (h.here ∙ here) i; stages = Some (h.stages i) });
    outcome = h.outcome;
    events = h.events;
    changed = h.changed;
  },
  packet,
)
sends (Err e) p new d b k to here is h packet = ap (λ c. cond c None (Some (seen new))) is

module _ (failed : Bool) (p : Parts) (s : DatacentreState) (view : state_of failed p ≡ s) where
  here : p.dc ≡ s.dc
  here = ap (λ (t : DatacentreState). t.dc) view

  stages_are : cond failed None (Some (seen p)) ≡ s.stages
  stages_are = ap (λ (t : DatacentreState). t.stages) view

  -- what is seen is its parts
  pub some_is : (x : Datacentre) → s.stages ≡ Some x → seen p ≡ x
  some_is x is = some_at failed (seen p) x (stages_are ∙ is)

  pub live : failed ≡ false → s.stages ≡ Some (seen p)
  live works = sym stages_are ∙ ap (λ b. cond b None (Some (seen p))) works

  pub log_of_live : failed ≡ false → ForSome s.stages (StandsForALog s.dc) → StandsForALog p.dc (seen p)
  log_of_live works log = subst (λ d. StandsForALog d (seen p)) (sym here) (log (seen p) (live works))

  -- stages that stand for a log have few members
  pub few_of : (x : Datacentre) → s.stages ≡ Some x → StandsForALog s.dc x → AreFew p
  few_of x is log = are_few p (subst (λ d. StandsForALog d (seen p)) (sym here) (subst (StandsForALog s.dc) (sym (some_is x is)) log))

  -- where the token is
  pub at_of : (x : Datacentre) → s.stages ≡ Some x → (token_seen p.queues).at ≡ x.token.at
  at_of x is = ap (λ (z : Datacentre). z.token.at) (some_is x is)

  pub may_turn : failed ≡ false → (failed ≡ false → IsWhole p) → ForSome s.stages (StandsForALog s.dc) → MayTurn p
  may_turn works whole log = record { whole = whole works; log = log_of_live works log }

  -- how many members there are
  pub members_are : (b f q m i n : ℕ) (x : Datacentre) → s.stages ≡ Some x → b ≡ length p.batchers → f ≡ length p.filters → q ≡ length p.queues → m ≡ length p.maintainers → i ≡ length p.indexers → n ≡ length p.senders
      → record { batchers = b; filters = f; queues = q; maintainers = m; indexers = i; senders = n; receivers = p.receivers } ≡ sizes_of x
  members_are b f q m i n x is in_b in_f in_q in_m in_i in_n =
      let queues : q ≡ length (seen p).queues = in_q ∙ sym (length-map p.queues tokenless) in
      let maintainers : m ≡ length (seen p).maintainers = in_m ∙ sym (length-map p.maintainers (λ (y : MaintainerState Record). plain y)) in
      let whole : record { batchers = b; filters = f; queues = q; maintainers = m; indexers = i; senders = n; receivers = p.receivers } ≡ sizes_of (seen p) =
      λ j. record { batchers = in_b j; filters = in_f j; queues = queues j; maintainers = maintainers j; indexers = in_i j; senders = in_n j; receivers = p.receivers } in
      whole ∙ ap sizes_of (some_is x is)

  module _ {E : Type 0} (new : Parts) (b : Bool) (x : Datacentre) (is : s.stages ≡ Some x) where
    pub took : (result : Result TurnDone E) (step : Step) → b ≡ is_err result → IfOk result (λ done. IsTurned p new done (turn_of p.dc (seen p) step))
        → TakesTurn s.dc x (turn_of s.dc x step) result (state_of b new)
    took result step fails h =
        subst (λ z. TakesTurn s.dc z (turn_of s.dc z step) result (state_of b new)) (some_is x is)
        (takes result p new s.dc b (turn_of s.dc (seen p) step) here fails (subst (λ d. IfOk result (λ done. IsTurned p new done (turn_of d (seen p) step))) here h))

    pub received_it : (result : Result TurnDone E) (r : ℕ) (bytes : List ℕ) (m : Message) → b ≡ is_err result
        → ((a : Message) → SpellsMessage (length p.table.table) bytes a → IfOk result (λ done. IsTurned p new done (receive_turn p.dc (seen p) r a)))
        → SpellsMessage (length x.table) bytes m → TakesTurn s.dc x (receive_turn s.dc x r m) result (state_of b new)
    received_it result r bytes m fails h spelled =
        let known : SpellsMessage (length p.table.table) bytes m = subst (λ (z : Datacentre). SpellsMessage (length z.table) bytes m) (sym (some_is x is)) spelled in
        subst (λ z. TakesTurn s.dc z (receive_turn s.dc z r m) result (state_of b new)) (some_is x is)
        (takes result p new s.dc b (receive_turn s.dc (seen p) r m) here fails (subst (λ d. IfOk result (λ done. IsTurned p new done (receive_turn d (seen p) r m))) here (h m known)))

    pub sent_it : (result : Result (TurnDone × Option (List ℕ)) E) (k e : ℕ) → b ≡ is_err result
        → IfOk result (λ sent. IsTurned p new sent.0 (turn_of p.dc (seen p) (Send p.dc k e))) → IfOk result (λ sent. IsPacketOf p.dc (seen p) k e sent.1)
        → Sends s.dc x k e result (state_of b new)
    sent_it result k e fails h packet =
        subst (λ z. Sends s.dc z k e result (state_of b new)) (some_is x is)
        (sends result p new s.dc b k e here fails (subst (λ d. IfOk result (λ sent. IsTurned p new sent.0 (turn_of d (seen p) (Send d k e)))) here h)
        (subst (λ d. IfOk result (λ sent. IsPacketOf d (seen p) k e sent.1)) here packet))

  pub more_is : (k to n : ℕ) (r : Bool) (x : Datacentre) → n ≡ length p.senders → s.stages ≡ Some x → IsTrue r ↔ ((told_message p.dc to k n p.maintainers p.table.table).records ≢ [])
      → IsTrue r ↔ ((message_of s.dc x k to).records ≢ [])
  more_is k to n r x many is told =
      let same : told_message p.dc to k n p.maintainers p.table.table ≡ message_of s.dc x k to =
      told_all p k to n many ∙ ap₂ (λ d z. message_of d z k to) here (some_is x is) in
      subst (λ (m : Message). IsTrue r ↔ (m.records ≢ [])) same told
