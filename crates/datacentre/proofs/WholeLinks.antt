-- Turns of a session, and those that use a link, at a whole datacentre.
use Rattle.std.proofs.Common.{◌≡◌, ℕ, suc, ◌+◌, ◌%◌, ◌<◌, ◌≤◌, Bool, true, false, cond, eqb, ltb, not, List, [], ◌∷◌, ◌++◌, length, map, set, get_or, refl, ap, ap₂, sym, ◌∙◌, subst, arith, inl, inr, is_some, mod-lt, Option, Some, None}
use Rattle.std.specs.List.{All, Contains, find, position, position_or_len}
use Rattle.std.specs.Option.{option_map_or}
use Rattle.std.proofs.lemmas.Bool.{cases_eq, eqb-true, lt-ltb}
use Rattle.std.proofs.lemmas.List.{get_or-set_other, get_or-set_same, length-set, set-get_or}
use Rattle.std.proofs.lemmas.List.Elements.{All-contains, All-get_or, Contains-get_or}
use Rattle.std.proofs.lemmas.List.Sums.{passes_at_first}
use Rattle.causal_deps.specs.declared.record.Record.{Record}
use Rattle.causal_deps.specs.declared.record.Item.{Item}
use Rattle.causal_deps.specs.declared.record.Item.TheVariants.{External}
use Rattle.causal_deps.specs.Counts.{greater_rows}
use Rattle.abstract_log.specs.declared.event.Event.TheVariants.{Receive}
use Rattle.abstract_log.specs.declared.script.Outcome.TheVariants.{Absent, Sent}
use Rattle.abstract_log.specs.declared.world.World.{World}
use Rattle.abstract_log.specs.Commands.{no_plan}
use Rattle.abstract_log.specs.Fits.{FitsCommand, FitsPlan}
use Rattle.abstract_log.specs.Worlds.{log_of}
use Rattle.flstore_rounds.specs.Heads.{Pair}
use Rattle.awareness_table.specs.Awareness.{Awareness}
use Rattle.maintainer.specs.Maintainers.{MaintainerState}
use Rattle.tag_indexer.specs.Indexers.{IndexerState}
use Rattle.log_gc.specs.Floors.{Floored, pin_of}
use Rattle.hyksos.specs.Sessions.{HasFound, writes}
use Rattle.hyksos.specs.Shelves.{ShelfState}
use Rattle.hyksos.specs.Turns.{AfterTurn, session_turn, turned}
use Rattle.stage_turns.specs.Shelves.{ShowsLog}
use Rattle.record_codec.specs.declared.message.Message.{Message}
use Rattle.record_codec.specs.Wire.{SpellsIn}
use Rattle.sender_receiver.specs.Sending.{SenderState, form_of}
use Rattle.stage_world.specs.Stages.{Datacentre, Session, batcher_at, vector_at}
use Rattle.stage_world.specs.Turns.{begun, quiet, where_there}
use Rattle.stage_world.specs.StandsFor.{IsAsFar}
use Rattle.stage_world.specs.ClientTurns.{client_of, client_turn}
use Rattle.stage_world.specs.Idle.{apart_from_epochs}
use Rattle.stage_world.specs.MoreTurns.{message_of, names_of, receive_turn, received_outcome}
use Rattle.datacentre.specs.declared.parts.Parts.{Parts}
use Rattle.stage_turns.specs.declared.done.TurnDone.{TurnDone}
use Rattle.stage_turns.specs.Changing.{TellsNews}
use Rattle.stage_turns.specs.Clients.{IsSessionTurn, MayRead, MayWrite, batchers_written, session_changes, shelf_for, write_events, write_outcome}
use Rattle.stage_turns.specs.Lent.{maintainers_seen}
use Rattle.datacentre.specs.Seen.{IsSenderOf, StandsForALog, pin_in, seen}
use Rattle.stage_turns.specs.Told.{MayLook, MayTell, told_message}
use Rattle.datacentre.specs.Turning.{IsPacketOf, IsTurned, MayTurn, send_told}
use Rattle.datacentre.proofs.PinLemmas.{pin_there, pinned_by, pins_held, pins_other, pins_set}
use Rattle.datacentre.proofs.WholeTurns.{told_of}
use Rattle.stage_turns.proofs.ChangeLemmas.{receive_tells, same_tells}
use Rattle.stage_turns.proofs.AckLemmas.{position_none, position_some}
use Rattle.stage_turns.proofs.ClientIs.{write_is_turn}
use Rattle.stage_turns.proofs.SessionChanges.{session_moves, session_tells, write_tells}
use Rattle.stage_turns.proofs.SessionIs.{IsHeld, reads_unpinned, session_held, session_is}
use Rattle.stage_turns.proofs.ClientMay.{has_found, may_read, may_write, shows_lent, shows_log}
use Rattle.stage_turns.proofs.ToldLemmas.{AreLent, may_look, may_tell, told_is, whole_is_lent}

abbrev has_number : ℕ → Session → Bool
has_number s x = eqb x.number s

-- the first that passes

found_first : {X : Type 0} (test : X → Bool) (xs : List X) (d : X) → position_or_len test xs < length xs → find test xs ≡ Some (get_or xs (position_or_len test xs) d)
found_first test [] d within = absurd (omega (arith, within))
found_first test (x ∷ xs) d within = at (test x) (λ inside. found_first test xs d inside) within
  where
    at : (b : Bool) → (position_or_len test xs < length xs → find test xs ≡ Some (get_or xs (position_or_len test xs) d)) → cond (not b) (1 + position_or_len test xs) 0 < length (x ∷ xs) → cond b (Some x) (find test xs) ≡ Some (get_or (x ∷ xs) (cond (not b) (1 + position_or_len test xs) 0) d)
    at true later inside = refl
    at false later inside =
        let next : 1 + position_or_len test xs ≡ suc (position_or_len test xs) = omega arith in
        later (omega (arith, inside)) ∙ ap (λ k. Some (get_or (x ∷ xs) k d)) (sym next)

none_found : {X : Type 0} (test : X → Bool) (xs : List X) → length xs ≤ position_or_len test xs → find test xs ≡ None
none_found test [] past = refl
none_found test (x ∷ xs) past = at (test x) (λ out. none_found test xs out) past
  where
    at : (b : Bool) → (length xs ≤ position_or_len test xs → find test xs ≡ None) → length (x ∷ xs) ≤ cond (not b) (1 + position_or_len test xs) 0 → cond b (Some x) (find test xs) ≡ None
    at true later out = absurd (omega (arith, out))
    at false later out = later (omega (arith, out))

-- a session that lives here

module _ (p : Parts) (s i : ℕ) (x : Session) (may : MayTurn p) (found : Some i ≡ position (has_number s) p.sessions) (is : x ≡ get_or p.sessions i x) where
  abbrev z : Datacentre
  z = seen p

  pub within : i < length p.sessions
  within = (position_some (has_number s) p.sessions i found).1

  first : x ≡ get_or p.sessions (position_or_len (has_number s) p.sessions) x
  first = is ∙ ap (λ k. get_or p.sessions k x) (position_some (has_number s) p.sessions i found).0

  inside : position_or_len (has_number s) p.sessions < length p.sessions
  inside = omega (arith, within, (position_some (has_number s) p.sessions i found).0)

  number : x.number ≡ s
  number = eqb-true x.number s (ap (has_number s) first ∙ passes_at_first (has_number s) p.sessions x inside)

  turn_of_it : client_turn p.dc z s ≡ client_of p.dc z x
  turn_of_it = ap (λ o. option_map_or (client_of p.dc z) o (quiet Absent z)) (found_first (has_number s) p.sessions x inside ∙ ap Some (sym first))

  has : Contains p.sessions x
  has = subst (Contains p.sessions) (sym is) (Contains-get_or p.sessions i x within)

  abbrev w : World
  w = may.log.world

  abbrev log : List Record
  log = log_of w p.dc

  -- what is pinned is the session's own, and not below the floor

  pin_here : pin_of p.floor x.number ≡ x.pin
  pin_here = pins_held p.sessions p.floor may.log.stands.clients.ordered may.whole.pins i x within (sym is)

  pins_above : (n q : ℕ) → pin_of p.floor n ≡ Some q → p.floor.floor ≤ q
  pins_above n q held =
      pinned_by (IsAsFar w.workload w.sessions log p.dc p.floor.floor) (p.floor.floor ≤ q) p.sessions n q may.log.stands.clients.sessions (λ y far pin. (far.pinned q pin).kept) (sym (may.whole.pins n) ∙ held)

  far : IsAsFar w.workload w.sessions log p.dc p.floor.floor x
  far = All-contains (IsAsFar w.workload w.sessions log p.dc p.floor.floor) p.sessions x may.log.stands.clients.sessions has

  small : x.number < 64
  small = omega (arith, far.home.there, may.log.lawful.limits.sessions)

  fits : All FitsCommand x.commands
  fits = subst (All FitsCommand) (sym far.commands) (All-get_or (FitsPlan w.workload.dcs) w.workload.sessions x.number no_plan far.home.there may.log.lawful.limits.plans).commands

  pub write_may : writes x ≡ true → MayWrite s x p.batchers
  write_may is_write = subst (λ n. MayWrite n x p.batchers) number (may_write w p.dc z may.log.lawful may.log.stands x has is_write)

  pub read_may : writes x ≡ false → MayRead s p.first_maintainers x p.maintainers p.vectors p.indexers p.floor
  read_may other =
      subst (λ n. MayRead n p.first_maintainers x p.maintainers p.vectors p.indexers p.floor) number
      (may_read w p.dc z may.log.lawful may.log.stands x has p.maintainers p.floor other refl refl pin_here pins_above)

  shows : ShowsLog (vector_at p.vectors (s % p.first_maintainers)) p.maintainers p.indexers p.floor log
  shows =
      shows_lent (vector_at p.vectors (s % p.first_maintainers)) p.maintainers p.indexers p.floor log
      (shows_log w p.dc z may.log.lawful may.log.stands (s % p.first_maintainers) p.floor (omega (arith, mod-lt s may.log.stands.coverage.served.0, may.log.stands.coverage.served.1)) refl pins_above)

  -- each log that the stages show gives the turn: that of the world, too
  pub turn_by_log : (P : List Record → Type 0) → ((l : List Record) → ShowsLog (vector_at p.vectors (s % p.first_maintainers)) p.maintainers p.indexers p.floor l → HasFound l x → P l) → P log
  turn_by_log P all = all log shows (has_found w p.dc z may.log.lawful may.log.stands x has)

  pub write_is : (x' : Session) (bs : List (List Item)) (done : TurnDone) → writes x ≡ true → x' ≡ begun x → bs ≡ batchers_written x p.batchers
      → done.outcome ≡ write_outcome x → done.events ≡ write_events x → done.changed ≡ not x.standing.begun
      → IsTurned p (record p { sessions = set p.sessions i x'; batchers = bs }) done (client_turn p.dc z s)
  write_is x' bs done is_write new batchers outcome events changed =
      subst (IsTurned p (record p { sessions = set p.sessions i x'; batchers = bs }) done)
      (sym (turn_of_it ∙ write_is_turn p.dc z i x may.log.stands.clients.ordered within (sym is) is_write)) (record {
        stages = ap₂ (λ y b. record z { sessions = set p.sessions i y; batchers = b }) new batchers;
        here = refl;
        whole = record {
          token = may.whole.token;
          table = may.whole.table;
          senders = may.whole.senders;
          pins = λ n. may.whole.pins n ∙ sym (pins_set p.sessions i x x' n (sym is) (record { number = ap (λ (y : Session). y.number) new; pin = ap (λ (y : Session). y.pin) new }));
          many = may.whole.many;
        };
        outcome = outcome;
        events = events;
        changed = told_of z (record z { sessions = set z.sessions i (begun x); batchers = batchers_written x z.batchers }) done.changed (not x.standing.begun) changed (write_tells z i x within (sym is));
      })

  abbrev shelf : ShelfState
  shelf = shelf_for x.number p.first_maintainers p.maintainers p.vectors p.indexers p.floor

  abbrev taken : AfterTurn
  taken = session_turn log shelf x

  held : writes x ≡ false → IsHeld p.floor.floor x.number p.floor.pins taken
  held other = session_held log shelf x pin_here other (reads_unpinned w p.dc z x far)

  -- what the turn leaves pinned
  pins_left : (x' : Session) (g : Floored) → writes x ≡ false → x' ≡ taken.session → g.pins ≡ set p.floor.pins x.number taken.session.pin → (n : ℕ) → pin_of g n ≡ pin_in (set p.sessions i x') n
  pins_left x' g other new pins n =
      let same_number : x'.number ≡ x.number = ap (λ (y : Session). y.number) new ∙ (held other).number in
      elim (cases_eq n x.number) [
        | inl same ↦
            ap (λ k. get_or g.pins k None) same ∙ ap (λ ps. get_or ps x.number None) pins
            ∙ get_or-set_same p.floor.pins x.number taken.session.pin None (omega (arith, small, may.whole.many))
            ∙ sym (ap (pin_in (set p.sessions i x')) same ∙ pin_there p.sessions i x x' may.log.stands.clients.ordered within (sym is) same_number ∙ ap (λ (y : Session). y.pin) new)
        | inr another ↦
            ap (λ ps. get_or ps n None) pins ∙ get_or-set_other p.floor.pins x.number n taken.session.pin None another ∙ may.whole.pins n
            ∙ sym (pins_other p.sessions i x x' n (sym is) same_number another)
      ]

  pub read_is : (x' : Session) (ms : List (MaintainerState Record)) (vs : List Pair) (indexers' : List IndexerState) (g : Floored) (done : TurnDone) → writes x ≡ false
      → ms ≡ p.maintainers → vs ≡ p.vectors → indexers' ≡ p.indexers
      → IsSessionTurn p.dc log (shelf_for s p.first_maintainers p.maintainers p.vectors p.indexers p.floor) x done x' g
      → IsTurned p (record p { sessions = set p.sessions i x'; maintainers = ms; vectors = vs; indexers = indexers'; floor = g }) done (client_turn p.dc z s)
  read_is x' ms vs indexers' g done other maintainers vectors indexers turn =
      let t : IsSessionTurn p.dc log shelf x done x' g = subst (λ n. IsSessionTurn p.dc log (shelf_for n p.first_maintainers p.maintainers p.vectors p.indexers p.floor) x done x' g) (sym number) turn in
      let h : IsHeld p.floor.floor x.number p.floor.pins taken = held other in
      let low : g.floor ≡ p.floor.floor = ap (λ (f : Floored). f.floor) t.floor ∙ h.floor in
      let pins : g.pins ≡ set p.floor.pins x.number taken.session.pin = ap (λ (f : Floored). f.pins) t.floor ∙ h.pins in
      subst (IsTurned p (record p { sessions = set p.sessions i x'; maintainers = ms; vectors = vs; indexers = indexers'; floor = g }) done)
      (sym (turn_of_it ∙ session_is w p.dc z may.log.stands i x within (sym is) fits p.maintainers p.floor refl refl other)) (record {
        stages = λ j. record z {
          sessions = set p.sessions i (t.session j);
          maintainers = maintainers_seen (maintainers j);
          vectors = vectors j;
          indexers = indexers j;
          floor = low j;
        };
        here = refl;
        whole = record {
          token = may.whole.token;
          table = may.whole.table;
          senders = may.whole.senders;
          pins = pins_left x' g other t.session pins;
          many = ap (λ (ps : List (Option ℕ)). length ps) pins ∙ length-set p.floor.pins x.number taken.session.pin ∙ may.whole.many;
        };
        outcome = t.outcome;
        events = t.events;
        changed = told_of z (record z { sessions = set z.sessions i taken.session }) done.changed (session_changes (is_some x.pin) (turned log shelf x)) t.changed
            (session_tells z i x within (sym is) (session_changes (is_some x.pin) (turned log shelf x)) taken.session (session_moves log x shelf other (λ q pin. (far.pinned q pin).begun)));
      })

-- no session has the number
pub nobody_is : (p : Parts) (s : ℕ) (done : TurnDone) → MayTurn p → None ≡ position (has_number s) p.sessions → done ≡ record { outcome = Absent; events = []; changed = false } → IsTurned p p done (client_turn p.dc (seen p) s)
nobody_is p s done may none same =
    subst (IsTurned p p done)
    (sym (ap (λ o. option_map_or (client_of p.dc (seen p)) o (quiet Absent (seen p))) (none_found (has_number s) p.sessions (position_none (has_number s) p.sessions none)))) (record {
      stages = refl;
      here = refl;
      whole = may.whole;
      outcome = ap (λ (t : TurnDone). t.outcome) same;
      events = ap (λ (t : TurnDone). t.events) same;
      changed = told_of (seen p) (seen p) done.changed false (ap (λ (t : TurnDone). t.changed) same) (same_tells (apart_from_epochs (seen p)));
    })

-- a sender makes its packet

all_lent : (p : Parts) (k : ℕ) → AreLent k (seen p) p.maintainers
all_lent p k = whole_is_lent k (seen p) p.maintainers refl

pub look_may : (p : Parts) (k to n : ℕ) → StandsForALog p.dc (seen p) → to < length p.table.table → n ≡ length p.senders → MayLook p.dc to n p.maintainers p.table.table
look_may p k to n log there many =
    subst (λ s. MayLook p.dc to s p.maintainers p.table.table) (sym many)
    (may_look log.world p.dc to k (seen p) p.maintainers log.stands (omega (arith, there, log.stands.knowledge.aware.square.rows)) (all_lent p k))

pub told_all : (p : Parts) (k to n : ℕ) → n ≡ length p.senders → told_message p.dc to k n p.maintainers p.table.table ≡ message_of p.dc (seen p) k to
told_all p k to n many = ap (λ s. told_message p.dc to k s p.maintainers p.table.table) many ∙ told_is p.dc to k (seen p) p.maintainers (all_lent p k)

module _ (p : Parts) (k to n : ℕ) (x : SenderState) (may : MayTurn p) (within : k < length p.senders) (many : n ≡ length p.senders) (is : x ≡ get_or p.senders k x) where
  own : x.dc ≡ p.dc
  own = (subst (IsSenderOf p.dc p.upgraded) (sym is) (may.whole.senders k x within)).dc

  same_form : x.upgraded ≡ p.upgraded
  same_form = (subst (IsSenderOf p.dc p.upgraded) (sym is) (may.whole.senders k x within)).form

  pub send_may : to < length p.table.table → MayTell x.dc to k n p.maintainers p.table.table
  send_may there =
      subst (λ d. MayTell d to k n p.maintainers p.table.table) (sym own)
      (subst (λ s. MayTell p.dc to k s p.maintainers p.table.table) (sym many)
      (may_tell may.log.world p.dc to k (seen p) p.maintainers may.log.lawful may.log.stands (omega (arith, there, may.log.stands.knowledge.aware.square.rows)) (all_lent p k)))

  told_here : told_message x.dc to k n p.maintainers p.table.table ≡ message_of p.dc (seen p) k to
  told_here = ap (λ d. told_message d to k n p.maintainers p.table.table) own ∙ told_all p k to n many

  pub send_is : (x' : SenderState) (done : TurnDone) → x' ≡ x → done.outcome ≡ Sent (names_of (told_message x.dc to k n p.maintainers p.table.table).records) 0 false → done.events ≡ [] → done.changed ≡ false
      → IsTurned p (record p { senders = set p.senders k x' }) done (where_there (ltb k (length p.senders)) (seen p) (send_told p.dc (seen p) k to))
  send_is x' done same outcome events changed =
      let left : set p.senders k x' ≡ p.senders = ap (set p.senders k) (same ∙ is) ∙ set-get_or p.senders k x in
      subst (λ b. IsTurned p (record p { senders = set p.senders k x' }) done (where_there b (seen p) (send_told p.dc (seen p) k to))) (sym (lt-ltb k (length p.senders) within)) (record {
        stages = ap (λ (xs : List SenderState). record (seen p) { senders = length xs }) left;
        here = refl;
        whole = record { token = may.whole.token; table = may.whole.table; senders = subst (All (IsSenderOf p.dc p.upgraded)) (sym left) may.whole.senders; pins = may.whole.pins; many = may.whole.many };
        outcome = outcome ∙ ap (λ (m : Message). Sent (names_of m.records) 0 false) told_here;
        events = events;
        changed = told_of (seen p) (seen p) done.changed false changed (same_tells (apart_from_epochs (seen p)));
      })

  pub packet_is : (packet : List ℕ) → SpellsIn (form_of x.upgraded (told_message x.dc to k n p.maintainers p.table.table)) (length p.table.table) packet (told_message x.dc to k n p.maintainers p.table.table)
      → IsPacketOf p.dc (seen p) k to (Some packet)
  packet_is packet spelled = (
    within,
    subst (λ (m : Message). SpellsIn (form_of p.upgraded m) (length p.table.table) packet m) told_here
        (subst (λ b. SpellsIn (form_of b (told_message x.dc to k n p.maintainers p.table.table)) (length p.table.table) packet (told_message x.dc to k n p.maintainers p.table.table)) same_form spelled),
  )

-- a packet is received

pub receive_is : (p : Parts) (r : ℕ) (m : Message) (bs : List (List Item)) (table : Awareness) (done : TurnDone) → MayTurn p
    → table ≡ record p.table { table = greater_rows p.table.table m.table }
    → bs ≡ set p.batchers (r % length p.batchers) (batcher_at p.batchers (r % length p.batchers) ++ map External m.records)
    → done.outcome ≡ received_outcome (names_of m.records) → done.events ≡ Receive p.dc m.from m.table (names_of m.records) ∷ [] → TellsNews done.changed p.table.table m
    → IsTurned p (record p { batchers = bs; table = table }) done (receive_turn p.dc (seen p) r m)
receive_is p r m bs table done may rows batchers outcome events changed = record {
  stages = ap₂ (λ b t. record (seen p) { batchers = b; table = t }) batchers (ap (λ (t : Awareness). t.table) rows);
  here = refl;
  whole = record { token = may.whole.token; table = ap (λ (t : Awareness). t.dc) rows ∙ may.whole.table; senders = may.whole.senders; pins = may.whole.pins; many = may.whole.many };
  outcome = outcome;
  events = events;
  changed = receive_tells (seen p) r m done.changed (mod-lt r may.log.stands.membership.members.ranges.batchers.0) changed;
}
