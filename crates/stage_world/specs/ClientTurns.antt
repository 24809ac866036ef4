-- The turn of a session: it begins its next command, or goes on with the one that is open.
use Rattle.std.specs.Prelude.{ℕ, ◌%◌, ◌==◌, if◌then◌else◌, nat_lt, List, [], ◌∷◌, ◌++◌, length, Some, find, slice_get}
use Rattle.std.specs.Option.{option_map_or}
use Rattle.abstract_log.specs.declared.command.Command.{Command}
use Rattle.abstract_log.specs.declared.command.Command.TheVariants.{Append as AppendCommand, Put, Del, Get, Tx, Read as ReadCommand, Last as LastCommand}
use Rattle.abstract_log.specs.declared.event.Event.TheVariants.{Submit, Reply}
use Rattle.abstract_log.specs.declared.answer.Answer.{Answer}
use Rattle.abstract_log.specs.declared.answer.Answer.TheVariants.{Items, Read, Last}
use Rattle.abstract_log.specs.declared.answer.Found.{Found as FoundItem}
use Rattle.abstract_log.specs.declared.answer.Found.TheVariants.{Absent as AbsentKey, Deleted as DeletedKey}
use Rattle.causal_deps.specs.declared.answers.Newest.{Newest}
use Rattle.causal_deps.specs.declared.answers.Newest.TheVariants.{Behind as BehindIndex, Found as FoundPut, Deleted, Absent as NoUpdate}
use Rattle.abstract_log.specs.declared.answer.ReadAnswer.{ReadAnswer}
use Rattle.abstract_log.specs.declared.answer.ReadAnswer.TheVariants.{Beyond, Gone}
use Rattle.abstract_log.specs.declared.script.Outcome.TheVariants.{Absent, Unacknowledged, Finished, Submitted, Replied, Waiting, Below, Behind, Key}
use Rattle.abstract_log.specs.Commands.{draft_of}
use Rattle.abstract_log.specs.Answers.{shown_record, found_record, last_of}
use Rattle.flstore_rounds.specs.Heads.{head}
use Rattle.tag_indexer.specs.Rows.{newest_row, tagged_places, told_row}
pub use Rattle.hyksos.specs.Sessions.{next_index, replied}
use Rattle.stage_world.specs.Stages.{Datacentre, Session, vector_at}
use Rattle.stage_world.specs.Turns.{Turned, quiet, at_session, begun, submitted}
use Rattle.stage_world.specs.MoreTurns.{record_kept, home_of}

-- what a read of position p shows, seen at s
abbrev pub shown_at : Datacentre → ℕ → ℕ → ReadAnswer
shown_at z p s = if nat_lt s p then Beyond else option_map_or (λ r. shown_record p (Some r)) (record_kept z.maintainers p) Gone

-- what is found where an indexer tells this of a key: a put is read where it stands, a del is what was told
abbrev pub found_where : Datacentre → Newest → FoundItem
found_where z (BehindIndex covered) = AbsentKey
found_where z (FoundPut p) = found_record p (record_kept z.maintainers p)
found_where z (Deleted place) = DeletedKey place
found_where z NoUpdate = AbsentKey

-- what is found under a key at s
abbrev pub looked_up : Datacentre → List ℕ → ℕ → FoundItem
looked_up z key s = found_where z (told_row (home_of z key).rows (newest_row (home_of z key).rows key s))

-- session x is answered
abbrev pub reply_with : ℕ → Datacentre → Session → Answer → ℕ → Turned
reply_with d z x answer s = record {
  after = record z { sessions = at_session x.number (replied answer s) z.sessions };
  outcome = Replied (next_index x);
  events = Reply d x.number (next_index x) s answer ∷ [];
}

-- a session that reads at s and has found so much
abbrev pub found_more : ℕ → List FoundItem → Session → Session
found_more s found x = record x { pin = Some s; found = found }

abbrev pub reading_at : Datacentre → Session → ℕ → List FoundItem → Datacentre
reading_at z x s found = record z { sessions = at_session x.number (found_more s found) z.sessions }

-- the indexer of the tag does not cover position s yet: the pin stays
abbrev pub behind_turn : Datacentre → Session → List ℕ → ℕ → Turned
behind_turn z x tag s = quiet (Behind (next_index x) (head (home_of z tag).pair)) (reading_at z x s x.found)

-- the next of these keys is looked up at s; the command is answered with the last
abbrev pub found_turn : ℕ → Datacentre → Session → List (List ℕ) → ℕ → List FoundItem → Turned
found_turn d z x keys s found =
    if length found == length keys then reply_with d z x (Items found) s
    else quiet (Key (next_index x) (length found) (length keys) s) (reading_at z x s found)

abbrev pub key_turn : ℕ → Datacentre → Session → List (List ℕ) → ℕ → Turned
key_turn d z x keys s = option_map_or
    (λ key.
    if nat_lt (head (home_of z key).pair) s then behind_turn z x key s
    else found_turn d z x keys s (x.found ++ looked_up z key s ∷ []))
    (slice_get keys (length x.found)) (quiet Absent z)

-- the last n places under a tag up to s
abbrev pub last_turn : ℕ → Datacentre → Session → List ℕ → ℕ → ℕ → Turned
last_turn d z x tag n s =
    if nat_lt (head (home_of z tag).pair) s then behind_turn z x tag s
    else reply_with d z x (Last (last_of n (tagged_places (home_of z tag).rows tag s))) s

-- the head is below what the session has seen
abbrev pub waiting_turn : Datacentre → Session → ℕ → Turned
waiting_turn z x top = quiet (Waiting (next_index x) x.standing.floor top) z

-- a look-up goes on at its pin; without one it takes the head, unless that is below what the session has seen or below the floor
abbrev pub look_turn : Datacentre → Session → ℕ → (ℕ → Turned) → Turned
look_turn z x top look = option_map_or look x.pin
    (if nat_lt top x.standing.floor then waiting_turn z x top
    else if nat_lt top z.floor then quiet (Below (next_index x) z.floor) z
    else look top)

-- the turn of a session with an open command
abbrev pub open_turn : ℕ → Datacentre → Session → ℕ → Command → Turned
open_turn d z x top (AppendCommand tags body) = quiet (Unacknowledged (next_index x)) z
open_turn d z x top (Put key body) = quiet (Unacknowledged (next_index x)) z
open_turn d z x top (Del key) = quiet (Unacknowledged (next_index x)) z
open_turn d z x top (ReadCommand p) = if nat_lt top x.standing.floor then waiting_turn z x top else reply_with d z x (Read (shown_at z p top)) top
open_turn d z x top (Get key) = look_turn z x top (key_turn d z x (key ∷ []))
open_turn d z x top (Tx keys) = look_turn z x top (key_turn d z x keys)
open_turn d z x top (LastCommand tag n) = look_turn z x top (last_turn d z x tag n)

-- two turns, one after the other, that answer what the second answers
abbrev pub and_then : Turned → (Datacentre → Turned) → Turned
and_then a b = record { after = (b a.after).after; outcome = (b a.after).outcome; events = a.events ++ (b a.after).events }

-- the head that session s reads
abbrev pub top_for : Datacentre → ℕ → ℕ
top_for z s = head (vector_at z.vectors (s % z.first))

-- a session begins its next command, a read goes on at once
abbrev pub begin_turn : ℕ → Datacentre → Session → Command → Turned
begin_turn d z x c = option_map_or
    (λ draft. record { after = submitted z x.number draft; outcome = Submitted (next_index x); events = Submit x.number (next_index x) ∷ [] })
    (draft_of x.number (next_index x) x.standing.past c)
    (and_then (record { after = record z { sessions = at_session x.number begun z.sessions }; outcome = Submitted (next_index x); events = Submit x.number (next_index x) ∷ [] })
    (λ y. open_turn d y (begun x) (top_for z x.number) c))

-- client: the turn of a session
abbrev pub client_of : ℕ → Datacentre → Session → Turned
client_of d z x = option_map_or
    (λ c. if x.standing.begun then open_turn d z x (top_for z x.number) c else begin_turn d z x c)
    (slice_get x.commands x.standing.answered) (quiet Finished z)

abbrev pub client_turn : ℕ → Datacentre → ℕ → Turned
client_turn d z s = option_map_or (client_of d z) (find (λ x. x.number == s) z.sessions) (quiet Absent z)
