-- Which turns of a session change it.
use Rattle.std.proofs.Common.{◌≡◌, ◌≢◌, ℕ, ◌<◌, ◌||◌, Bool, true, false, cond, not, ltb, List, [], ◌∷◌, ◌++◌, length, map, set, get_or, refl, ap, sym, ◌∙◌, arith, Option, Some, None, is_some, slice_get}
use Rattle.std.specs.Option.{option_and_then, option_map_or}
use Rattle.std.proofs.lemmas.Bool.{cond_both, false≢true}
use Rattle.std.proofs.lemmas.List.{get_or-set_same, length-append, set-get_or}
use Rattle.causal_deps.specs.declared.record.Draft.{Draft}
use Rattle.causal_deps.specs.declared.record.Item.{Item}
use Rattle.causal_deps.specs.declared.record.Record.{Record}
use Rattle.abstract_log.specs.declared.answer.Answer.{Answer}
use Rattle.abstract_log.specs.declared.answer.Answer.TheVariants.{Items, Read, Last as LastPlaces}
use Rattle.abstract_log.specs.declared.answer.Found.{Found}
use Rattle.abstract_log.specs.declared.command.Command.{Command}
use Rattle.abstract_log.specs.declared.command.Command.TheVariants.{Append, Put, Del, Get, Tx, Read as ReadCommand, Last}
use Rattle.abstract_log.specs.Answers.{found_at, read_in}
use Rattle.abstract_log.specs.Commands.{draft_of, is_write}
use Rattle.hyksos.specs.declared.next.Next.TheVariants.{Replied, Key, Below}
use Rattle.hyksos.specs.Sessions.{SessionState, begun, is_look, next_command, next_index, reading, replied, writes}
use Rattle.hyksos.specs.Shelves.{ShelfState, covered_for, last_at, with_pin}
use Rattle.hyksos.specs.Turns.{AfterTurn, behind, found_at_pin, look, reply, rest, session_turn, turn_with, turned, wait}
use Rattle.stage_world.specs.Stages.{Datacentre}
use Rattle.stage_world.specs.Idle.{TellsApart, TellsChange, apart_from_epochs}
use Rattle.stage_turns.specs.Clients.{batchers_written, goes_on, session_changes, with_draft}
use Rattle.stage_turns.proofs.ChangeLemmas.{same_tells, tells_other, tells_same}

module _ (log : List Record) (x : SessionState) where
  -- a turn with this answer that leaves this session
  abbrev Moves : Bool → AfterTurn → Type 0
  Moves b t = TellsApart (is_some (cond b None (Some (next_index x))) || goes_on (is_some x.pin) t.next) x t.session

  -- whether a command was begun is of no weight where one went on
  went_on : (b : Bool) (y : SessionState) → x ≢ y → TellsApart (is_some (cond {A = Option ℕ} b None (Some (next_index x))) || true) x y
  went_on true y apart = tells_other x y apart
  went_on false y apart = tells_other x y apart

  answered_more : (answer : Answer) (s : ℕ) → x ≢ replied answer s x
  answered_more answer s same = absurd (omega (arith, ap (λ (y : SessionState). y.standing.answered) same))

  reply_moves : (b : Bool) (m : ShelfState) (s : ℕ) (answer : Answer) → Moves b (reply m x s answer)
  reply_moves b m s answer = went_on b (replied answer s x) (answered_more answer s)

  opened_same : x.standing.begun ≡ true → x ≡ begun x
  opened_same opened = ap (λ v. record x { standing = record x.standing { begun = v } }) opened

  begun_apart : x.standing.begun ≡ false → x ≢ begun x
  begun_apart closed same = absurd (false≢true (sym closed ∙ ap (λ (y : SessionState). y.standing.begun) same))

  -- it only began its command, if it did
  only_begun : (b : Bool) → x.standing.begun ≡ b → TellsApart (is_some (cond {A = Option ℕ} b None (Some (next_index x))) || false) x (begun x)
  only_begun true opened = tells_same x (begun x) (opened_same opened)
  only_begun false closed = tells_other x (begun x) (begun_apart closed)

  -- its pin, if it has one, is s
  behind_moves : (b : Bool) (m : ShelfState) (s covered : ℕ) (o : Option ℕ) → x.standing.begun ≡ b → x.pin ≡ o → ((q : ℕ) → o ≡ Some q → (q ≡ s) × (x.standing.begun ≡ true))
      → TellsApart (is_some (cond {A = Option ℕ} b None (Some (next_index x))) || not (is_some o)) x (reading s x.found x)
  behind_moves b m s covered None opened none pinned = went_on b (reading s x.found x) (λ same. (let bad : None ≡ Some s = sym none ∙ ap (λ (y : SessionState). y.pin) same in cc))
  behind_moves true m s covered (Some q) opened is pinned =
      let at : x.pin ≡ Some s = is ∙ ap Some (pinned q refl).0 in
      tells_same x (reading s x.found x) (opened_same opened ∙ ap (λ p. record (begun x) { pin = p }) at)
  behind_moves false m s covered (Some q) opened is pinned = absurd (false≢true (sym opened ∙ (pinned q refl).1))

  longer : (found : Found) (s : ℕ) → x ≢ reading s (x.found ++ found ∷ []) x
  longer found s same = absurd (omega (arith, ap (λ (y : SessionState). length y.found) same, length-append x.found (found ∷ [])))

  module _ (b : Bool) (opened : x.standing.begun ≡ b) (pinned : (q : ℕ) → x.pin ≡ Some q → x.standing.begun ≡ true) where
    abbrev IsItsPin : ℕ → Type 0
    IsItsPin s = (q : ℕ) → x.pin ≡ Some q → q ≡ s

    falls_behind : (m : ShelfState) (s covered : ℕ) → IsItsPin s → Moves b (behind m x s covered)
    falls_behind m s covered its = behind_moves b m s covered x.pin opened refl (λ q is. (its q is, pinned q is))

    key_moves : (keys : List (List ℕ)) (m : ShelfState) (s : ℕ) (o : Option (List ℕ)) → IsItsPin s
        → Moves b (option_map_or (λ key. cond (ltb (covered_for m key) s) (behind m x s (covered_for m key)) (found_at_pin log keys m x s (x.found ++ found_at log s key ∷ []))) o (reply m x s (Items (map (found_at log s) keys))))
    key_moves keys m s None its = reply_moves b m s (Items (map (found_at log s) keys))
    key_moves keys m s (Some key) its =
        let found : List Found = x.found ++ found_at log s key ∷ [] in
        cond_both (ltb (covered_for m key) s) (behind m x s (covered_for m key)) (found_at_pin log keys m x s found) (Moves b) (λ _. falls_behind m s (covered_for m key) its)
        (λ _. cond_both (ltb (length found) (length keys)) (record { session = reading s found x; shelf = m; next = Key (next_index x) (length found) (length keys) s }) (reply m x s (Items (map (found_at log s) keys))) (Moves b)
        (λ _. went_on b (reading s found x) (longer (found_at log s key) s)) (λ _. reply_moves b m s (Items (map (found_at log s) keys))))

    look_moves : (c : Command) (m : ShelfState) (s : ℕ) → is_look c ≡ true → IsItsPin s → Moves b (look log c m x s)
    look_moves (Append tags body) m s looks its = absurd (cc)
    look_moves (Put key body) m s looks its = absurd (cc)
    look_moves (Del key) m s looks its = absurd (cc)
    look_moves (Get key) m s looks its = key_moves (key ∷ []) m s (slice_get (key ∷ []) (length x.found)) its
    look_moves (Tx keys) m s looks its = key_moves keys m s (slice_get keys (length x.found)) its
    look_moves (ReadCommand p) m s looks its = absurd (cc)
    look_moves (Last tag n) m s looks its = cond_both (ltb (covered_for m tag) s) (behind m x s (covered_for m tag)) (reply m x s (LastPlaces (last_at log s tag n))) (Moves b)
        (λ _. falls_behind m s (covered_for m tag) its) (λ _. reply_moves b m s (LastPlaces (last_at log s tag n)))

    turn_moves : (c : Command) (m : ShelfState) (o : Option ℕ) → x.pin ≡ o → is_look c ≡ true
        → Moves b (option_map_or (look log c m x) o (cond (ltb m.head x.standing.floor) (wait m x) (cond (ltb m.head m.floor) (record { session = begun x; shelf = m; next = Below (next_index x) m.floor }) (look log c (with_pin x.number (Some m.head) m) x m.head))))
    turn_moves c m (Some s) is looks = look_moves c m s looks (λ q same. (let one : Some q ≡ Some s = sym same ∙ is in cc))
    turn_moves c m None is looks =
        let below : AfterTurn = record { session = begun x; shelf = m; next = Below (next_index x) m.floor } in
        let on : AfterTurn = look log c (with_pin x.number (Some m.head) m) x m.head in
        cond_both (ltb m.head x.standing.floor) (wait m x) (cond (ltb m.head m.floor) below on) (Moves b) (λ _. only_begun b opened)
        (λ _. cond_both (ltb m.head m.floor) below on (Moves b) (λ _. only_begun b opened) (λ _. look_moves c (with_pin x.number (Some m.head) m) m.head looks (λ q same. absurd (none_some q (sym is ∙ same)))))
      where
        none_some : (q : ℕ) → None ≢ Some q
        none_some q bad = cc

    command_moves : (c : Command) (m : ShelfState) → is_write c ≡ false → Moves b (turn_with log m x c)
    command_moves (Append tags body) m reads = absurd (cc)
    command_moves (Put key body) m reads = absurd (cc)
    command_moves (Del key) m reads = absurd (cc)
    command_moves (Get key) m reads = turn_moves (Get key) m x.pin refl refl
    command_moves (Tx keys) m reads = turn_moves (Tx keys) m x.pin refl refl
    command_moves (Last tag n) m reads = turn_moves (Last tag n) m x.pin refl refl
    command_moves (ReadCommand p) m reads =
        let answer : Answer = Read (read_in log m.gone p m.head) in
        cond_both (ltb m.head x.standing.floor) (wait m x) (record { session = replied answer m.head x; shelf = m; next = Replied (next_index x) m.head answer }) (Moves b)
        (λ _. only_begun b opened) (λ _. went_on b (replied answer m.head x) (answered_more answer m.head))

  -- what is told of the turn of a session with no write
  pub session_moves : (m : ShelfState) → writes x ≡ false → ((q : ℕ) → x.pin ≡ Some q → x.standing.begun ≡ true) → TellsApart (session_changes (is_some x.pin) (turned log m x)) x (session_turn log m x).session
  session_moves m reads pinned = by_command (next_command x) reads
    where
      by_command : (o : Option Command) → option_map_or is_write o false ≡ false
          → TellsApart (is_some (option_and_then (λ c. cond {A = Option ℕ} x.standing.begun None (Some (next_index x))) o) || goes_on (is_some x.pin) (option_map_or (turn_with log m x) o (rest m x)).next) x (option_map_or (turn_with log m x) o (rest m x)).session
      by_command None other = same_tells x
      by_command (Some c) other = command_moves x.standing.begun refl pinned c m other

-- The same of a whole datacentre.

module _ (z : Datacentre) (i : ℕ) (x : SessionState) (within : i < length z.sessions) (is : get_or z.sessions i x ≡ x) where
  unchanged : z.sessions ≡ set z.sessions i x
  unchanged = sym (ap (set z.sessions i) (sym is) ∙ set-get_or z.sessions i x)

  -- the session is another one
  another : (y : SessionState) (bs : List (List Item)) → x ≢ y → apart_from_epochs z ≢ apart_from_epochs (record z { sessions = set z.sessions i y; batchers = bs })
  another y bs apart alike = apart (sym is ∙ ap (λ (c : Datacentre). get_or c.sessions i x) alike ∙ get_or-set_same z.sessions i y x within)

  write_by : (b : Bool) (o : Option Draft) → x.standing.begun ≡ b → TellsChange (not b) z (record z { sessions = set z.sessions i (begun x); batchers = option_map_or (with_draft x.number z.batchers) (cond b None o) z.batchers })
  write_by true o opened =
      let same : x ≡ begun x = ap (λ v. record x { standing = record x.standing { begun = v } }) opened in
      tells_same (apart_from_epochs z) (apart_from_epochs (record z { sessions = set z.sessions i (begun x) })) (ap (λ xs. record (apart_from_epochs z) { sessions = xs }) (unchanged ∙ ap (set z.sessions i) same))
  write_by false o closed =
      let bs : List (List Item) = option_map_or (with_draft x.number z.batchers) o z.batchers in
      tells_other (apart_from_epochs z) (apart_from_epochs (record z { sessions = set z.sessions i (begun x); batchers = bs })) (another (begun x) bs (begins closed))
    where
      begins : x.standing.begun ≡ false → x ≢ begun x
      begins shut same = absurd (false≢true (sym shut ∙ ap (λ (s : SessionState). s.standing.begun) same))

  pub write_tells : TellsChange (not x.standing.begun) z (record z { sessions = set z.sessions i (begun x); batchers = batchers_written x z.batchers })
  write_tells = write_by x.standing.begun (option_and_then (draft_of x.number (next_index x) x.standing.past) (next_command x)) refl

  pub session_tells : (changed : Bool) (y : SessionState) → TellsApart changed x y → TellsChange changed z (record z { sessions = set z.sessions i y })
  session_tells changed y tells = record {
    same = λ no_change. ap (λ xs. record (apart_from_epochs z) { sessions = xs }) (unchanged ∙ ap (set z.sessions i) (tells.same no_change));
    other = λ change. another y z.batchers (tells.other change);
  }
