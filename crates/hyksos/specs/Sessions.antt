-- A session: its commands, and how far it is with them.
use Rattle.std.specs.Prelude.{◌≡◌, ℕ, ◌+◌, ◌^◌, ◌<◌, max, Bool, true, false, if◌then◌else◌, nat_lt, List, [], ◌∷◌, ◌++◌, length, map, take, Option, Some, None, All, slice_get}
use Rattle.std.specs.Option.{option_and_then, option_map_or}
use Rattle.causal_deps.specs.Counts.{raised}
use Rattle.causal_deps.specs.declared.record.Record.{Record}
use Rattle.causal_deps.specs.declared.record.Draft.{Draft}
use Rattle.causal_deps.specs.declared.record.Place.{Place}
use Rattle.abstract_log.specs.declared.answer.Answer.{Answer}
use Rattle.abstract_log.specs.declared.answer.Found.{Found}
use Rattle.abstract_log.specs.declared.command.Command.{Command}
use Rattle.abstract_log.specs.declared.command.Command.TheVariants.{Append, Put, Del, Get, Tx, Read, Last}
use Rattle.abstract_log.specs.declared.world.Standing.{Standing}
use Rattle.abstract_log.specs.Answers.{found_at, past_with, places_in}
use Rattle.abstract_log.specs.Commands.{draft_of, is_write}
use Rattle.abstract_log.specs.Fits.{FitsCommand}

-- its commands, how far it is, the position at which it reads, and what it found there so far
pub record SessionState : Type 0 where
  pub number : ℕ
  pub commands : List Command
  pub standing : Standing
  pub pin : Option ℕ
  pub found : List Found

-- the commands are in their ranges, and their numbers fit
pub record AreCommands (commands : List Command) : Type 0 where
  pub few : length commands < 2 ^ 32
  pub each : All FitsCommand commands

-- a session that so far has only a standing
abbrev pub session_at : ℕ → List Command → Standing → SessionState
session_at number commands standing = record { number = number; commands = commands; standing = standing; pin = None; found = [] }

-- the command that is open, or the next one
abbrev pub next_command : SessionState → Option Command
next_command x = slice_get x.commands x.standing.answered

-- its number, from 1
abbrev pub next_index : SessionState → ℕ
next_index x = x.standing.answered + 1

-- that command is there, and is a write
abbrev pub writes : SessionState → Bool
writes x = option_map_or is_write (next_command x) false

-- the draft of the command, if it is a write and is not open yet
abbrev pub draft_submitted : SessionState → Option Draft
draft_submitted x = if x.standing.begun then None else option_and_then (draft_of x.number (next_index x) x.standing.past) (next_command x)

-- a command is not answered
abbrev pub is_unanswered : SessionState → Bool
is_unanswered x = nat_lt x.standing.answered (length x.commands)

-- the keys that a command looks up
abbrev pub keys_of : Command → List (List ℕ)
keys_of (Append tags body) = []
keys_of (Put key body) = []
keys_of (Del key) = []
keys_of (Get key) = key ∷ []
keys_of (Tx keys) = keys
keys_of (Read lid) = []
keys_of (Last tag n) = []

-- the keys of the open or next command
abbrev pub next_keys : SessionState → List (List ℕ)
next_keys x = option_map_or keys_of (next_command x) []

-- a get, a get-transaction or a look for the last records
abbrev pub is_look : Command → Bool
is_look (Append tags body) = false
is_look (Put key body) = false
is_look (Del key) = false
is_look (Get key) = true
is_look (Tx keys) = true
is_look (Read lid) = false
is_look (Last tag n) = true

-- What it has found is what the log has at s for the first of its keys.
abbrev pub IsFoundAt : List Record → ℕ → SessionState → Type 0
IsFoundAt log s x = x.found ≡ map (found_at log s) (take (length x.found) (next_keys x))

-- What it has found is what the log has at its pin for the first of its keys.
pub record HasFound (log : List Record) (x : SessionState) : Type 0 where
  pub pinned : (s : ℕ) → x.pin ≡ Some s → IsFoundAt log s x
  pub fresh : x.pin ≡ None → x.found ≡ []

-- its next command is open
abbrev pub begun : SessionState → SessionState
begun x = record x { standing = record x.standing { begun = true } }

-- it reads at s, and has found so much there
abbrev pub reading : ℕ → List Found → SessionState → SessionState
reading s found x = record (begun x) { pin = Some s; found = found }

-- one more key is found
abbrev pub with_found : Found → SessionState → SessionState
with_found found x = record x { found = x.found ++ found ∷ [] }

-- its command is answered at s
abbrev pub replied : Answer → ℕ → SessionState → SessionState
replied answer s x = record x {
  standing = record { answered = next_index x; begun = false; past = past_with x.standing.past (places_in answer); floor = s };
  pin = None;
  found = [];
}

-- its write got this place
abbrev pub acked : Place → SessionState → SessionState
acked place x = record x {
  standing = record {
    answered = next_index x;
    begun = false;
    past = raised x.standing.past place.host place.toid;
    floor = max x.standing.floor place.lid;
  };
}
