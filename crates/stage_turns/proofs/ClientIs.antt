-- What client_write leaves and tells is the turn of the session, among all stages.
use Rattle.std.proofs.Common.{◌≡◌, ℕ, zero, suc, ◌<◌, Bool, true, false, cond, eqb, List, [], ◌∷◌, Option, Some, None, length, get_or, set, refl, ap, ap₂, sym, ◌∙◌, arith}
use Rattle.std.specs.List.{All, AllPairs}
use Rattle.std.specs.Option.{option_and_then, option_map_or}
use Rattle.std.proofs.lemmas.Bool.{eq-eqb, ne_eqb}
use Rattle.std.proofs.lemmas.List.{get_or-map, length-map, set-get_or}
use Rattle.std.proofs.lemmas.List.Elements.{All-head, All-tail}
use Rattle.causal_deps.specs.declared.record.Draft.{Draft}
use Rattle.abstract_log.specs.declared.command.Command.{Command}
use Rattle.abstract_log.specs.declared.command.Command.TheVariants.{Append, Put, Del, Get, Tx, Read as ReadCommand, Last}
use Rattle.abstract_log.specs.declared.event.Event.{Event}
use Rattle.abstract_log.specs.declared.event.Event.TheVariants.{Submit}
use Rattle.abstract_log.specs.declared.script.Outcome.{Outcome}
use Rattle.abstract_log.specs.declared.script.Outcome.TheVariants.{Finished, Submitted, Unacknowledged}
use Rattle.abstract_log.specs.Commands.{draft_of, is_write}
use Rattle.stage_world.specs.Stages.{Datacentre, Session}
use Rattle.stage_world.specs.StandsFor.{numbers_of}
use Rattle.stage_world.specs.Turns.{Turned, at_session, begun, quiet}
use Rattle.stage_world.specs.ClientTurns.{begin_turn, client_of, next_index, open_turn, top_for}
use Rattle.stage_world.proofs.SessionLemmas.{begun_then}
use Rattle.hyksos.specs.Sessions.{next_command, writes}
use Rattle.stage_turns.proofs.AckLemmas.{none_changed}
use Rattle.stage_turns.specs.Clients.{batchers_written, with_draft, write_events, write_outcome}

-- One session of several, changed by its number.

pub set_session : (f : Session → Session) (xs : List Session) (i : ℕ) (x : Session) → AllPairs (λ a b. a < b) (numbers_of xs) → i < length xs → get_or xs i x ≡ x
    → at_session x.number f xs ≡ set xs i (f x)
set_session f [] i x rise within is = absurd (omega (arith, within))
set_session f (y ∷ ys) zero x rise within is =
    let same : y.number ≡ x.number = ap (λ (s : Session). s.number) is in
    let above : All (λ n. x.number < n) (numbers_of ys) = λ k d inside. omega (arith, rise 0 (suc k) d (omega arith) (omega (arith, inside)), same) in
    ap₂ (λ (s : Session) ss. s ∷ ss) (ap (λ b. cond b (f y) y) (eq-eqb y.number x.number same) ∙ ap f is) (none_changed x.number f ys above)
set_session f (y ∷ ys) (suc i) x rise within is =
    let inside : i < length ys = omega (arith, within) in
    let number : get_or (numbers_of ys) i x.number ≡ x.number = get_or-map (λ (s : Session). s.number) ys i x x.number inside ∙ ap (λ (s : Session). s.number) is in
    let size : length (numbers_of ys) ≡ length ys = length-map ys (λ (s : Session). s.number) in
    let below : y.number < x.number = omega (arith, rise 0 (suc i) x.number (omega arith) (omega (arith, inside, size)), number) in
    ap₂ (λ (s : Session) ss. s ∷ ss) (ap (λ b. cond b (f y) y) (ne_eqb y.number x.number (λ same. absurd (omega (arith, below, same)))))
    (set_session f ys i x (λ j k d less there. rise (suc j) (suc k) d (omega (arith, less)) (omega (arith, there))) inside is)

abbrev turned : Datacentre → Outcome → List Event → Turned
turned after outcome events = record { after = after; outcome = outcome; events = events }

module _ (d : ℕ) (z : Datacentre) (i : ℕ) (x : Session) (rise : AllPairs (λ a b. a < b) (numbers_of z.sessions)) (within : i < length z.sessions) (is : get_or z.sessions i x ≡ x) where
  pub unchanged : set z.sessions i x ≡ z.sessions
  unchanged = ap (set z.sessions i) (sym is) ∙ set-get_or z.sessions i x

  pub changed : (f : Session → Session) → at_session x.number f z.sessions ≡ set z.sessions i (f x)
  changed f = set_session f z.sessions i x rise within is

  abbrev drafted : Bool → Option Command → Option Draft
  drafted b o = cond b None (option_and_then (draft_of x.number (next_index x) x.standing.past) o)

  abbrev written : Bool → Option Command → Turned
  written b o = record {
    after = record z {
      sessions = set z.sessions i (begun x);
      batchers = option_map_or (with_draft x.number z.batchers) (drafted b o) z.batchers;
    };
    outcome = cond b (Unacknowledged (next_index x)) (Submitted (next_index x));
    events = cond b [] (Submit x.number (next_index x) ∷ []);
  }

  abbrev taken : Bool → Option Command → Turned
  taken b o = option_map_or (λ c. cond b (open_turn d z x (top_for z x.number) c) (begin_turn d z x c)) o (quiet Finished z)

  same_quiet : (outcome : Outcome) → x.standing.begun ≡ true → quiet outcome z ≡ quiet outcome (record z { sessions = set z.sessions i (begun x) })
  same_quiet outcome opened =
      let same : begun x ≡ x = ap (λ v. record x { standing = record x.standing { begun = v } }) (sym opened) in
      ap (λ ss. quiet outcome (record z { sessions = ss })) (sym (ap (set z.sessions i) same ∙ unchanged))

  same_begun : (draft : Draft) → turned (record z { sessions = at_session x.number begun z.sessions; batchers = with_draft x.number z.batchers draft }) (Submitted (next_index x)) (Submit x.number (next_index x) ∷ [])
      ≡ turned (record z { sessions = set z.sessions i (begun x); batchers = with_draft x.number z.batchers draft }) (Submitted (next_index x)) (Submit x.number (next_index x) ∷ [])
  same_begun draft = ap (λ ss. turned (record z { sessions = ss; batchers = with_draft x.number z.batchers draft }) (Submitted (next_index x)) (Submit x.number (next_index x) ∷ [])) (changed begun)

  write_by : (b : Bool) (o : Option Command) → x.standing.begun ≡ b → option_map_or is_write o false ≡ true → taken b o ≡ written b o
  write_by b None opened writing = absurd (cc)
  write_by true (Some (Append tags body)) opened writing = same_quiet (Unacknowledged (next_index x)) opened
  write_by true (Some (Put key body)) opened writing = same_quiet (Unacknowledged (next_index x)) opened
  write_by true (Some (Del key)) opened writing = same_quiet (Unacknowledged (next_index x)) opened
  write_by false (Some (Append tags body)) opened writing = same_begun _
  write_by false (Some (Put key body)) opened writing = same_begun _
  write_by false (Some (Del key)) opened writing = same_begun _
  write_by b (Some (Get key)) opened writing = absurd (cc)
  write_by b (Some (Tx keys)) opened writing = absurd (cc)
  write_by b (Some (ReadCommand p)) opened writing = absurd (cc)
  write_by b (Some (Last tag n)) opened writing = absurd (cc)

  -- the turn of a write
  pub write_is_turn : writes x ≡ true → client_of d z x ≡ record {
    after = record z { sessions = set z.sessions i (begun x); batchers = batchers_written x z.batchers };
    outcome = write_outcome x;
    events = write_events x;
  }
  write_is_turn writing = write_by x.standing.begun (next_command x) refl writing
