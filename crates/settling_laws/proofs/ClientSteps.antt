-- The turn of a session: what it changes, and when the session goes on.
use Rattle.std.proofs.Common.{◌≡◌, ◌⊎◌, ℕ, zero, suc, ◌+◌, ◌%◌, ◌<◌, ◌≤◌, true, false, cond, ltb, eqb, List, [], ◌∷◌, ◌++◌, length, refl, ap, ap₂, sym, ◌∙◌, inl, inr, arith, Option, Some, None, slice_get}
use Rattle.std.specs.Option.{option_map_or}
use Rattle.std.proofs.lemmas.List.{length_push, length-set}
use Rattle.std.proofs.lemmas.Bool.{cond_both, ltb-true}
use Rattle.causal_deps.specs.declared.record.Draft.{Draft}
use Rattle.causal_deps.specs.declared.record.Item.TheVariants.{Local}
use Rattle.abstract_log.specs.declared.command.Command.{Command}
use Rattle.abstract_log.specs.declared.command.Command.TheVariants.{Append, Put, Del, Get, Tx, Read as ReadCommand, Last as LastCommand}
use Rattle.abstract_log.specs.declared.answer.Answer.{Answer}
use Rattle.abstract_log.specs.declared.answer.Answer.TheVariants.{Items, Read, Last}
use Rattle.abstract_log.specs.declared.answer.Found.{Found}
use Rattle.abstract_log.specs.declared.event.Event.TheVariants.{Submit}
use Rattle.abstract_log.specs.declared.script.Outcome.TheVariants.{Absent as AbsentStep, Submitted, Below, Key}
use Rattle.abstract_log.specs.Answers.{last_of}
use Rattle.abstract_log.specs.Commands.{draft_of, is_write}
use Rattle.flstore_rounds.specs.Heads.{head}
use Rattle.stage_world.specs.Stages.{Datacentre, Session, batcher_at}
use Rattle.stage_world.specs.StandsFor.{keys_of}
use Rattle.stage_world.specs.Turns.{Turned, quiet, at_session, begun, submitted}
use Rattle.tag_indexer.specs.Rows.{tagged_places}
use Rattle.stage_world.specs.MoreTurns.{home_of}
use Rattle.stage_world.specs.ClientTurns.{next_index, looked_up, replied, reading_at, found_more, behind_turn, found_turn, key_turn, reply_with, last_turn, shown_at, waiting_turn, look_turn, open_turn, and_then, top_for, begin_turn}
use Rattle.stage_world.proofs.SessionLemmas.{begun_then}
use Rattle.settling_laws.specs.Rounds.{work_of, left_to}
use Rattle.settling_laws.proofs.Progress.{HasOpenWrite, GoesOn, Moves, goes_same, drop_next, write_keys}

-- Nothing holds up session x of z, which reads at top: all that it may read is there, and no look-up waits for its indexer.
abbrev pub IsClear : Datacentre → ℕ → Session → Type 0
IsClear z top x = (x.standing.floor ≤ top) × (z.floor ≤ top) × ((tag : List ℕ) → top ≤ head (home_of z tag).pair) × ((s : ℕ) (tag : List ℕ) → x.pin ≡ Some s → s ≤ head (home_of z tag).pair)

-- From z to y session x had its turn, alone; if nothing held it up, it went on or began a write.
pub record IsStepOf (z : Datacentre) (x : Session) (clear : Type 0) (y : Datacentre) : Type 0 where
  pub change : Session → Session
  pub rest : y ≡ record z { sessions = at_session x.number change z.sessions; batchers = y.batchers }
  pub batchers : length y.batchers ≡ length z.batchers
  pub number : (u : Session) → (change u).number ≡ u.number
  pub commands : (u : Session) → (change u).commands ≡ u.commands
  pub goes : GoesOn x (change x)
  pub moves : clear → Moves x (change x)

-- no session changed
pub none_changed : (s : ℕ) (xs : List Session) → at_session s (λ u. u) xs ≡ xs
none_changed s [] = refl
none_changed s (x ∷ xs) = ap₂ (λ (y : Session) ys. y ∷ ys) (cond_both (eqb x.number s) x x (λ y. y ≡ x) (λ _. refl) (λ _. refl)) (none_changed s xs)

pub still_step : (z : Datacentre) (x : Session) (clear : Type 0) → (clear → Moves x x) → IsStepOf z x clear z
still_step z x clear moves = record {
  change = λ u. u;
  rest = ap (λ xs. record z { sessions = xs }) (sym (none_changed x.number z.sessions));
  batchers = refl;
  number = λ u. refl;
  commands = λ u. refl;
  goes = goes_same x;
  moves = moves;
}

-- a command is answered
pub answered_less : (x : Session) (c : Command) (answer : Answer) (s : ℕ) → slice_get x.commands x.standing.answered ≡ Some c → length x.found < work_of c → left_to (replied answer s x) < left_to x
answered_less x c answer s next few = omega (arith, drop_next work_of x.commands x.standing.answered c next)

-- a key more is found
pub found_less : (x : Session) (c : Command) (s : ℕ) (found : List Found) → slice_get x.commands x.standing.answered ≡ Some c → length x.found < work_of c → length found ≡ length x.found + 1 → left_to (found_more s found x) < left_to x
found_less x c s found next few more = omega (arith, drop_next work_of x.commands x.standing.answered c next)

module _ (d : ℕ) (z : Datacentre) (x : Session) (c : Command) (clear : Type 0) (next : slice_get x.commands x.standing.answered ≡ Some c) (few : length x.found < work_of c) where
  reply_step : (answer : Answer) (s : ℕ) → IsStepOf z x clear (reply_with d z x answer s).after
  reply_step answer s =
      let less : left_to (replied answer s x) < left_to x = answered_less x c answer s next few in
      record {
        change = replied answer s;
        rest = refl;
        batchers = refl;
        number = λ u. refl;
        commands = λ u. refl;
        goes = record { less = omega arith; writes = λ h. inr less };
        moves = λ _. inr less;
      }

  -- it reads on at s, with as much found
  behind_step : (tag : List ℕ) (s : ℕ) → (clear → ⊥) → IsStepOf z x clear (behind_turn z x tag s).after
  behind_step tag s held = record {
    change = found_more s x.found;
    rest = refl;
    batchers = refl;
    number = λ u. refl;
    commands = λ u. refl;
    goes = record { less = omega arith; writes = λ h. inl (record { begun = h.begun; command = h.command; is = h.is; writes = h.writes; fresh = h.fresh }) };
    moves = λ is. absurd (held is);
  }

  -- one key more
  found_step : (keys : List (List ℕ)) (s : ℕ) (found : List Found) → length found ≡ length x.found + 1 → IsStepOf z x clear (found_turn d z x keys s found).after
  found_step keys s found more =
      let less : left_to (found_more s found x) < left_to x = found_less x c s found next few more in
      cond_both (eqb (length found) (length keys)) (reply_with d z x (Items found) s) (quiet (Key (next_index x) (length found) (length keys) s) (reading_at z x s found)) (λ t. IsStepOf z x clear t.after)
      (λ _. reply_step (Items found) s)
      (λ _. record {
        change = found_more s found;
        rest = refl;
        batchers = refl;
        number = λ u. refl;
        commands = λ u. refl;
        goes = record { less = omega arith; writes = λ h. inr less };
        moves = λ _. inr less;
      })

  key_step : (keys : List (List ℕ)) (s : ℕ) → length x.found < length keys → (clear → (tag : List ℕ) → s ≤ head (home_of z tag).pair) → IsStepOf z x clear (key_turn d z x keys s).after
  key_step keys s fewer covered = at (slice_get keys (length x.found)) refl
    where
      at : (o : Option (List ℕ)) → slice_get keys (length x.found) ≡ o
          → IsStepOf z x clear (option_map_or (λ key. cond (ltb (head (home_of z key).pair) s) (behind_turn z x key s) (found_turn d z x keys s (x.found ++ looked_up z key s ∷ []))) o (quiet AbsentStep z)).after
      at None is = absurd (no_key keys (length x.found) fewer is)
        where
          no_key : (ks : List (List ℕ)) (n : ℕ) → n < length ks → slice_get ks n ≡ None → ⊥
          no_key [] n within e = absurd (omega (arith, within))
          no_key (k ∷ ks) zero within e = absurd (cc)
          no_key (k ∷ ks) (suc n) within e = no_key ks n (omega arith) e
      at (Some key) is = cond_both (ltb (head (home_of z key).pair) s) (behind_turn z x key s) (found_turn d z x keys s (x.found ++ looked_up z key s ∷ [])) (λ t. IsStepOf z x clear t.after)
          (λ behind. behind_step key s (λ is_clear. absurd (omega (arith, covered is_clear key, ltb-true (head (home_of z key).pair) s behind))))
          (λ covers. found_step keys s (x.found ++ looked_up z key s ∷ []) (length_push x.found (looked_up z key s)))

  last_step : (tag : List ℕ) (n s : ℕ) → (clear → s ≤ head (home_of z tag).pair) → IsStepOf z x clear (last_turn d z x tag n s).after
  last_step tag n s covered = cond_both (ltb (head (home_of z tag).pair) s) (behind_turn z x tag s) (reply_with d z x (Last (last_of n (tagged_places (home_of z tag).rows tag s))) s) (λ t. IsStepOf z x clear t.after)
      (λ behind. behind_step tag s (λ is_clear. absurd (omega (arith, covered is_clear, ltb-true (head (home_of z tag).pair) s behind))))
      (λ covers. reply_step (Last (last_of n (tagged_places (home_of z tag).rows tag s))) s)

  -- a look-up at its pin or at the head
  look_step : (top : ℕ) (look : ℕ → Turned) → (clear → (x.standing.floor ≤ top) × (z.floor ≤ top)) → ((s : ℕ) → (x.pin ≡ Some s) ⊎ (s ≡ top) → IsStepOf z x clear (look s).after) → IsStepOf z x clear (look_turn z x top look).after
  look_step top look free each = at x.pin refl
    where
      at : (o : Option ℕ) → x.pin ≡ o
          → IsStepOf z x clear (option_map_or look o (cond (ltb top x.standing.floor) (waiting_turn z x top) (cond (ltb top z.floor) (quiet (Below (next_index x) z.floor) z) (look top)))).after
      at (Some s) is = each s (inl is)
      at None is = cond_both (ltb top x.standing.floor) (waiting_turn z x top) (cond (ltb top z.floor) (quiet (Below (next_index x) z.floor) z) (look top)) (λ t. IsStepOf z x clear t.after)
          (λ waits. still_step z x clear (λ is_clear. absurd (omega (arith, (free is_clear).0, ltb-true top x.standing.floor waits))))
          (λ _. cond_both (ltb top z.floor) (quiet (Below (next_index x) z.floor) z) (look top) (λ t. IsStepOf z x clear t.after)
          (λ low. still_step z x clear (λ is_clear. absurd (omega (arith, (free is_clear).1, ltb-true top z.floor low))))
          (λ _. each top (inr refl)))

-- what is read at the pin or at the head is covered
covered_at : (z : Datacentre) (x : Session) (top s : ℕ) → (x.pin ≡ Some s) ⊎ (s ≡ top) → IsClear z top x → (tag : List ℕ) → s ≤ head (home_of z tag).pair
covered_at z x top s at clear tag = elim at [ inl pinned ↦ clear.3 s tag pinned | inr is ↦ omega (arith, is, clear.2 tag) ]

-- the turn of a session with an open command
pub open_step : (d : ℕ) (z : Datacentre) (x : Session) (top : ℕ) (c : Command) → slice_get x.commands x.standing.answered ≡ Some c → x.standing.begun ≡ true → length x.found < work_of c → (is_write c ≡ false → 1 ≤ length (keys_of c) → length x.found < length (keys_of c))
    → ((keys : List (List ℕ)) → c ≡ Tx keys → 1 ≤ length keys) → IsStepOf z x (IsClear z top x) (open_turn d z x top c).after
open_step d z x top (Append tags body) next opened few fewer some = still_step z x (IsClear z top x) (λ _. inl (record { begun = opened; command = Append tags body; is = next; writes = refl; fresh = omega (arith, few) }))
open_step d z x top (Put key body) next opened few fewer some = still_step z x (IsClear z top x) (λ _. inl (record { begun = opened; command = Put key body; is = next; writes = refl; fresh = omega (arith, few) }))
open_step d z x top (Del key) next opened few fewer some = still_step z x (IsClear z top x) (λ _. inl (record { begun = opened; command = Del key; is = next; writes = refl; fresh = omega (arith, few) }))
open_step d z x top (ReadCommand p) next opened few fewer some = cond_both (ltb top x.standing.floor) (waiting_turn z x top) (reply_with d z x (Read (shown_at z p top)) top) (λ t. IsStepOf z x (IsClear z top x) t.after)
    (λ waits. still_step z x (IsClear z top x) (λ clear. absurd (omega (arith, clear.0, ltb-true top x.standing.floor waits))))
    (λ _. reply_step d z x (ReadCommand p) (IsClear z top x) next few (Read (shown_at z p top)) top)
open_step d z x top (Get key) next opened few fewer some = look_step d z x (Get key) (IsClear z top x) next few top (key_turn d z x (key ∷ [])) (λ clear. (clear.0, clear.1))
    (λ s at. key_step d z x (Get key) (IsClear z top x) next few (key ∷ []) s (fewer refl (omega arith)) (λ clear tag. covered_at z x top s at clear tag))
open_step d z x top (Tx keys) next opened few fewer some = look_step d z x (Tx keys) (IsClear z top x) next few top (key_turn d z x keys) (λ clear. (clear.0, clear.1))
    (λ s at. key_step d z x (Tx keys) (IsClear z top x) next few keys s (fewer refl (some keys refl)) (λ clear tag. covered_at z x top s at clear tag))
open_step d z x top (LastCommand tag n) next opened few fewer some = look_step d z x (LastCommand tag n) (IsClear z top x) next few top (last_turn d z x tag n) (λ clear. (clear.0, clear.1))
    (λ s at. last_step d z x (LastCommand tag n) (IsClear z top x) next few tag n s (λ clear. covered_at z x top s at clear tag))

-- the turn of a session that begins its next command
pub begin_step : (d : ℕ) (z : Datacentre) (x : Session) (c : Command) → slice_get x.commands x.standing.answered ≡ Some c → length x.found < work_of c → (is_write c ≡ false → 1 ≤ length (keys_of c) → length x.found < length (keys_of c))
    → ((keys : List (List ℕ)) → c ≡ Tx keys → 1 ≤ length keys) → IsStepOf z x (IsClear z (top_for z x.number) x) (begin_turn d z x c).after
begin_step d z x c next few fewer some = at (draft_of x.number (next_index x) x.standing.past c) refl
  where
    writes_of : (k : ℕ) (past : List ℕ) (e : Command) (draft : Draft) → draft_of x.number k past e ≡ Some draft → is_write e ≡ true
    writes_of k past (Append tags body) draft is = refl
    writes_of k past (Put key body) draft is = refl
    writes_of k past (Del key) draft is = refl
    writes_of k past (Get key) draft is = absurd (cc)
    writes_of k past (Tx keys) draft is = absurd (cc)
    writes_of k past (ReadCommand p) draft is = absurd (cc)
    writes_of k past (LastCommand tag n) draft is = absurd (cc)

    at : (o : Option Draft) → draft_of x.number (next_index x) x.standing.past c ≡ o
        → IsStepOf z x (IsClear z (top_for z x.number) x) (option_map_or (λ draft. record { after = submitted z x.number draft; outcome = Submitted (next_index x); events = Submit x.number (next_index x) ∷ [] }) o
        (and_then (record { after = record z { sessions = at_session x.number begun z.sessions }; outcome = Submitted (next_index x); events = Submit x.number (next_index x) ∷ [] }) (λ v. open_turn d v (begun x) (top_for z x.number) c))).after
    at (Some draft) is =
        let write : HasOpenWrite (begun x) = record { begun = refl; command = c; is = next; writes = writes_of (next_index x) x.standing.past c draft is; fresh = omega (arith, few, write_keys c (writes_of (next_index x) x.standing.past c draft is)) } in
        record {
          change = begun;
          rest = refl;
          batchers = length-set z.batchers (x.number % length z.batchers) (batcher_at z.batchers (x.number % length z.batchers) ++ Local draft ∷ []);
          number = λ u. refl;
          commands = λ u. refl;
          goes = record { less = omega arith; writes = λ h. inl write };
          moves = λ _. inl write;
        }
    at None is =
        let step : IsStepOf (record z { sessions = at_session x.number begun z.sessions }) (begun x) (IsClear z (top_for z x.number) x) (open_turn d (record z { sessions = at_session x.number begun z.sessions }) (begun x) (top_for z x.number) c).after =
        open_step d (record z { sessions = at_session x.number begun z.sessions }) (begun x) (top_for z x.number) c next refl few fewer some in
        let after : Datacentre = (open_turn d (record z { sessions = at_session x.number begun z.sessions }) (begun x) (top_for z x.number) c).after in
        record {
          change = λ u. step.change (begun u);
          rest = step.rest ∙ ap (λ xs. record z { sessions = xs; batchers = after.batchers }) (begun_then x.number step.change z.sessions);
          batchers = step.batchers;
          number = λ u. step.number (begun u);
          commands = λ u. step.commands (begun u);
          goes = record { less = step.goes.less; writes = λ h. step.goes.writes (record { begun = refl; command = h.command; is = h.is; writes = h.writes; fresh = h.fresh }) };
          moves = step.moves;
        }

-- the turn of a session whose next command is there
pub next_step : (d : ℕ) (z : Datacentre) (x : Session) (c : Command) → slice_get x.commands x.standing.answered ≡ Some c → length x.found < work_of c → (is_write c ≡ false → 1 ≤ length (keys_of c) → length x.found < length (keys_of c))
    → ((keys : List (List ℕ)) → c ≡ Tx keys → 1 ≤ length keys)
    → IsStepOf z x (IsClear z (top_for z x.number) x) (cond x.standing.begun (open_turn d z x (top_for z x.number) c) (begin_turn d z x c)).after
next_step d z x c next few fewer some = cond_both x.standing.begun (open_turn d z x (top_for z x.number) c) (begin_turn d z x c) (λ t. IsStepOf z x (IsClear z (top_for z x.number) x) t.after)
    (λ opened. open_step d z x (top_for z x.number) c next opened few fewer some) (λ idle. begin_step d z x c next few fewer some)
