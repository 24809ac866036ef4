-- The turn of a session: it begins its next command, or goes on with the one that is open.
use Rattle.std.specs.Prelude.{◌≡◌, ℕ, if◌then◌else◌, nat_lt, List, [], ◌∷◌, ◌++◌, length, map, Option, Some, None, slice_get}
use Rattle.std.specs.Option.{option_map_or, option_and_then}
use Rattle.causal_deps.specs.declared.record.Record.{Record}
use Rattle.abstract_log.specs.declared.answer.Answer.{Answer}
use Rattle.abstract_log.specs.declared.answer.Answer.TheVariants.{Items, Read, Last}
use Rattle.abstract_log.specs.declared.answer.Found.{Found}
use Rattle.abstract_log.specs.declared.command.Command.{Command}
use Rattle.abstract_log.specs.declared.command.Command.TheVariants.{Append as AppendCommand, Put as PutCommand, Del as DelCommand, Get as GetCommand, Tx as TxCommand, Read as ReadCommand, Last as LastCommand}
use Rattle.abstract_log.specs.Answers.{found_at, read_in}
use Rattle.abstract_log.specs.Commands.{draft_of}
use Rattle.hyksos.specs.declared.next.Next.{Next}
use Rattle.hyksos.specs.declared.next.Next.TheVariants.{Submitted, Replied, Key, Waiting, Unacknowledged, Below, Behind, Finished}
use Rattle.hyksos.specs.declared.next.SessionTurnDone.{SessionTurnDone}
use Rattle.hyksos.specs.Sessions.{SessionState, next_command, next_index, begun, reading, replied}
use Rattle.hyksos.specs.Shelves.{ShelfState, covered_for, last_at, with_pin}

-- what a turn leaves of session and shelf, and what it answers
pub record AfterTurn : Type 0 where
  pub session : SessionState
  pub shelf : ShelfState
  pub next : Next

-- this is what a turn leaves and answers
abbrev pub IsAfterTurn : AfterTurn → Next → SessionState → ShelfState → Type 0
IsAfterTurn t next x m = (next ≡ t.next) × (x ≡ t.session) × (m ≡ t.shelf)

-- the command is answered at s, and its pin given back
abbrev pub reply : ShelfState → SessionState → ℕ → Answer → AfterTurn
reply m x s answer = record { session = replied answer s x; shelf = with_pin x.number None m; next = Replied (next_index x) s answer }

-- the indexer does not reach s: the session goes on reading there
abbrev pub behind : ShelfState → SessionState → ℕ → ℕ → AfterTurn
behind m x s covered = record { session = reading s x.found x; shelf = m; next = Behind (next_index x) covered }

-- with this found at s, each key is answered, or more are left
abbrev pub found_at_pin : List Record → List (List ℕ) → ShelfState → SessionState → ℕ → List Found → AfterTurn
found_at_pin log keys m x s found =
    if nat_lt (length found) (length keys)
    then record { session = reading s found x; shelf = m; next = Key (next_index x) (length found) (length keys) s }
    else reply m x s (Items (map (found_at log s) keys))

-- the next of these keys is looked up at s
abbrev pub key_turn : List Record → List (List ℕ) → ShelfState → SessionState → ℕ → AfterTurn
key_turn log keys m x s = option_map_or
    (λ key.
    if nat_lt (covered_for m key) s then behind m x s (covered_for m key)
    else found_at_pin log keys m x s (x.found ++ found_at log s key ∷ []))
    (slice_get keys (length x.found)) (reply m x s (Items (map (found_at log s) keys)))

-- the last n records with the tag are listed at s
abbrev pub last_turn : List Record → List ℕ → ℕ → ShelfState → SessionState → ℕ → AfterTurn
last_turn log tag n m x s =
    if nat_lt (covered_for m tag) s then behind m x s (covered_for m tag)
    else reply m x s (Last (last_at log s tag n))

-- nothing happens
abbrev pub rest : ShelfState → SessionState → AfterTurn
rest m x = record { session = x; shelf = m; next = Finished }

-- a look-up goes on at s, where s is pinned; other commands look up nothing
abbrev pub look : List Record → Command → ShelfState → SessionState → ℕ → AfterTurn
look log (AppendCommand tags body) m x s = rest m x
look log (PutCommand key body) m x s = rest m x
look log (DelCommand key) m x s = rest m x
look log (GetCommand key) m x s = key_turn log (key ∷ []) m x s
look log (TxCommand keys) m x s = key_turn log keys m x s
look log (ReadCommand p) m x s = rest m x
look log (LastCommand tag n) m x s = last_turn log tag n m x s

-- the head is below what the session has seen
abbrev pub wait : ShelfState → SessionState → AfterTurn
wait m x = record { session = begun x; shelf = m; next = Waiting (next_index x) x.standing.floor m.head }

-- a look-up goes on at its pin; without one it pins the head, unless that is below what the session has seen or below the collection floor
abbrev pub look_turn : List Record → ShelfState → SessionState → Command → AfterTurn
look_turn log m x c = option_map_or (look log c m x) x.pin
    (if nat_lt m.head x.standing.floor then wait m x
    else if nat_lt m.head m.floor then record { session = begun x; shelf = m; next = Below (next_index x) m.floor }
    else look log c (with_pin x.number (Some m.head) m) x m.head)

-- a write is submitted once
abbrev pub write_turn : ShelfState → SessionState → Command → AfterTurn
write_turn m x c =
    if x.standing.begun then record { session = x; shelf = m; next = Unacknowledged (next_index x) }
    else record { session = begun x; shelf = m; next = option_map_or Submitted (draft_of x.number (next_index x) x.standing.past c) Finished }

-- this is what the turn of a write leaves and answers, whatever the shelf
abbrev pub IsWriteTurn : Command → SessionState → Next → SessionState → Type 0
IsWriteTurn c x next new = (m : ShelfState) → (next ≡ (write_turn m x c).next) × (new ≡ (write_turn m x c).session)

-- what stands at p is shown at the head, unless that is below what the session has seen
abbrev pub read_turn : List Record → ShelfState → SessionState → ℕ → AfterTurn
read_turn log m x p =
    if nat_lt m.head x.standing.floor then wait m x
    else record { session = replied (Read (read_in log m.gone p m.head)) m.head x; shelf = m; next = Replied (next_index x) m.head (Read (read_in log m.gone p m.head)) }

-- the turn of a session with this command
abbrev pub turn_with : List Record → ShelfState → SessionState → Command → AfterTurn
turn_with log m x (AppendCommand tags body) = write_turn m x (AppendCommand tags body)
turn_with log m x (PutCommand key body) = write_turn m x (PutCommand key body)
turn_with log m x (DelCommand key) = write_turn m x (DelCommand key)
turn_with log m x (GetCommand key) = look_turn log m x (GetCommand key)
turn_with log m x (TxCommand keys) = look_turn log m x (TxCommand keys)
turn_with log m x (ReadCommand p) = read_turn log m x p
turn_with log m x (LastCommand tag n) = look_turn log m x (LastCommand tag n)

-- the turn of a session
abbrev pub session_turn : List Record → ShelfState → SessionState → AfterTurn
session_turn log m x = option_map_or (turn_with log m x) (next_command x) (rest m x)

-- the command that the turn begins
abbrev pub opened : SessionState → Option ℕ
opened x = option_and_then (λ c. if x.standing.begun then None else Some (next_index x)) (next_command x)

abbrev pub turned : List Record → ShelfState → SessionState → SessionTurnDone
turned log m x = record { opened = opened x; next = (session_turn log m x).next }
