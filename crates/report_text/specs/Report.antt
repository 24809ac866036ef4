-- The reports of a run: their lines, each as its words.
use Rattle.std.specs.Prelude.{ℕ, ◌==◌, true, false, if◌then◌else◌, List, [], ◌∷◌, ◌++◌, length, codes, Option, None, Some}
use Rattle.std.specs.List.{flat_map}
use Rattle.std.specs.Fmt.{decimal}
use Rattle.causal_deps.specs.declared.record.Record.{Record}
use Rattle.abstract_log.specs.declared.command.Command.{Command}
use Rattle.abstract_log.specs.declared.command.Command.TheVariants.{Append as AppendCommand, Put as PutCommand, Del as DelCommand, Get, Tx, Read as ReadCommand, Last as LastCommand}
use Rattle.abstract_log.specs.declared.command.SessionPlan.{SessionPlan}
use Rattle.abstract_log.specs.declared.command.Workload.{Workload}
use Rattle.abstract_log.specs.declared.event.Event.{Event}
use Rattle.abstract_log.specs.declared.event.Event.TheVariants.{Submit, Append, Receive, Add, Learn, Reply, Collect}
use Rattle.abstract_log.specs.declared.event.Run.{Run}
use Rattle.abstract_log.specs.declared.answer.Answer.{Answer}
use Rattle.abstract_log.specs.declared.answer.Answer.TheVariants.{Written, Items, Read, Last}
use Rattle.abstract_log.specs.declared.answer.Found.{Found}
use Rattle.abstract_log.specs.declared.answer.Found.TheVariants.{Absent, At, Deleted}
use Rattle.abstract_log.specs.declared.answer.ReadAnswer.{ReadAnswer}
use Rattle.abstract_log.specs.declared.answer.ReadAnswer.TheVariants.{Beyond, Gone, Shown}
use Rattle.abstract_log.specs.declared.script.StageLine.{StageLine}
use Rattle.abstract_log.specs.declared.left.LeftAt.{LeftAt}
use Rattle.abstract_log.specs.declared.left.Row.{Row}
use Rattle.abstract_log.specs.declared.left.Row.TheVariants.{Kept, Gone as Collected}
use Rattle.abstract_log.specs.Left.{left_of}
use Rattle.abstract_log.specs.Runs.{world_of}
use Rattle.report_text.specs.Numbered.{flat_map_from, below}
use Rattle.report_text.specs.Lines.{lines_text}
use Rattle.report_text.specs.Values.{letter, name_word, counts_word, table_word, body_word, kind_word, names_words, place_words, places_words}
use Rattle.report_text.specs.Turns.{stage_lines}

-- What was asked.

abbrev pub command_words : Command → List (List ℕ)
command_words (AppendCommand tags body) = codes "append" ∷ body_word body ∷ tags
command_words (PutCommand key body) = codes "put" ∷ key ∷ body_word body ∷ []
command_words (DelCommand key) = codes "del" ∷ key ∷ []
command_words (Get key) = codes "get" ∷ key ∷ []
command_words (Tx keys) = codes "tx" ∷ keys
command_words (ReadCommand lid) = codes "read" ∷ decimal lid ∷ []
command_words (LastCommand tag n) = codes "last" ∷ tag ∷ decimal n ∷ []

abbrev pub command_lines : Command → List (List (List ℕ))
command_lines command = command_words command ∷ []

-- a session's home, and its commands
abbrev pub plan_lines : SessionPlan → List (List (List ℕ))
plan_lines plan = (codes "session" ∷ letter plan.home ∷ []) ∷ flat_map command_lines plan.commands

abbrev pub workload_lines : Workload → List (List (List ℕ))
workload_lines load = (codes "workload" ∷ []) ∷ flat_map plan_lines load.sessions

-- Answers.

-- a body and tags
abbrev pub shown_words : List ℕ → List (List ℕ) → List (List ℕ)
shown_words body tags = body_word body ∷ tags

-- what a look for a key found
abbrev pub found_words : Found → List (List ℕ)
found_words Absent = codes "absent" ∷ []
found_words (At place body) = codes "found" ∷ (place_words place ++ body_word body ∷ [])
found_words (Deleted place) = codes "deleted" ∷ place_words place

abbrev pub read_words : ReadAnswer → List (List ℕ)
read_words Beyond = codes "beyond" ∷ []
read_words Gone = codes "gone" ∷ []
read_words (Shown place kind body tags) = codes "record" ∷ (place_words place ++ kind_word kind ∷ shown_words body tags)

abbrev pub answer_words : Answer → List (List ℕ)
answer_words (Written place) = codes "written" ∷ place_words place
answer_words (Items items) = flat_map found_words items
answer_words (Read shown) = read_words shown
answer_words (Last places) = codes "last" ∷ places_words places

-- What happened.

-- a command, by its session and its number there
abbrev pub index_words : ℕ → ℕ → List (List ℕ)
index_words s k = decimal s ∷ decimal k ∷ []

abbrev pub event_words : Event → List (List ℕ)
event_words (Submit s k) = codes "submit" ∷ index_words s k
event_words (Append d s k lid toid) = codes "append" ∷ letter d ∷ decimal lid ∷ name_word d toid ∷ index_words s k
event_words (Receive d e table names) = codes "receive" ∷ letter d ∷ letter e ∷ table_word table ∷ names_words names
event_words (Add d lid h toid) = codes "add" ∷ letter d ∷ decimal lid ∷ name_word h toid ∷ []
event_words (Learn d row) = codes "learn" ∷ letter d ∷ counts_word row ∷ []
event_words (Reply d s k at answer) = codes "reply" ∷ letter d ∷ (index_words s k ++ decimal at ∷ answer_words answer)
event_words (Collect d lid) = codes "collect" ∷ letter d ∷ decimal lid ∷ []

abbrev pub event_lines : Event → List (List (List ℕ))
event_lines event = event_words event ∷ []

abbrev pub trace_lines : List Event → List (List (List ℕ))
trace_lines events = (codes "trace" ∷ []) ∷ flat_map event_lines events

-- What it left.

-- who wrote a record: its name, its kind, and the command
abbrev pub writer_words : Record → List (List ℕ)
writer_words r = name_word r.host r.toid ∷ kind_word r.kind ∷ index_words r.session r.index

-- what it depends on, and what it carries
abbrev pub content_words : Record → List (List ℕ)
content_words r = counts_word r.dep ∷ shown_words r.body r.tags

abbrev pub record_words : ℕ → Record → List (List ℕ)
record_words lid r = decimal lid ∷ (writer_words r ++ content_words r)

abbrev pub gone_words : ℕ → ℕ → ℕ → List (List ℕ)
gone_words lid h t = decimal lid ∷ name_word h t ∷ codes "gone" ∷ []

-- a position, with the record there or its name alone
abbrev pub row_words : ℕ → Row → List (List ℕ)
row_words lid (Kept r) = record_words lid r
row_words lid (Collected h t) = gone_words lid h t

abbrev pub position_lines : ℕ → Row → List (List (List ℕ))
position_lines lid row = row_words lid row ∷ []

-- the log of a datacentre
abbrev pub log_lines : ℕ → List Row → List (List (List ℕ))
log_lines d rows = (codes "log" ∷ letter d ∷ decimal (length rows) ∷ []) ∷ flat_map_from position_lines 1 rows

abbrev pub logged_lines : ℕ → LeftAt → List (List (List ℕ))
logged_lines d at = log_lines d at.rows

-- a table
abbrev pub table_lines : ℕ → List (List ℕ) → List (List (List ℕ))
table_lines d table = (codes "table" ∷ letter d ∷ table_word table ∷ []) ∷ []

-- the log and the table of a datacentre
abbrev pub datacentre_lines : ℕ → LeftAt → List (List (List ℕ))
datacentre_lines d at = logged_lines d at ++ table_lines d at.table

-- the logs of all, and those with their tables
abbrev pub all_logs_lines : List LeftAt → List (List (List ℕ))
all_logs_lines left = flat_map_from logged_lines 0 left

abbrev pub datacentres_lines : List LeftAt → List (List (List ℕ))
datacentres_lines left = (codes "logs" ∷ []) ∷ flat_map_from datacentre_lines 0 left

-- Replies.

-- a write is answered by the place of its record
abbrev pub written_words : ℕ → ℕ → ℕ → ℕ → ℕ → List (List ℕ)
written_words d s k lid toid = decimal s ∷ decimal k ∷ answer_words (Written (record { lid = lid; host = d; toid = toid }))

-- any other command by what it was shown at a position
abbrev pub shown_at_words : ℕ → ℕ → ℕ → Answer → List (List ℕ)
shown_at_words s k at answer = decimal s ∷ decimal k ∷ codes "at" ∷ decimal at ∷ answer_words answer

-- the line of a session's command, where the event answers one
abbrev pub reply_lines : ℕ → Event → List (List (List ℕ))
reply_lines s (Append d of k lid toid) = if of == s then written_words d s k lid toid ∷ [] else []
reply_lines s (Reply d of k at answer) = if of == s then shown_at_words s k at answer ∷ [] else []
reply_lines s _ = []

-- the replies of a session, in their order
abbrev pub replies_of : List Event → ℕ → List (List (List ℕ))
replies_of events s = flat_map (reply_lines s) events

-- those of all sessions
abbrev pub replies_lines : List Event → ℕ → List (List (List ℕ))
replies_lines events sessions = (codes "replies" ∷ []) ∷ below (replies_of events) sessions

-- The reports.

abbrev pub end_line : List (List (List ℕ))
end_line = (codes "end" ∷ []) ∷ []

abbrev pub first_line : List (List (List ℕ))
first_line = (codes "chariots" ∷ codes "report" ∷ codes "1" ∷ []) ∷ []

-- a word and a number that it tells of
abbrev pub fact_lines : List ℕ → ℕ → List (List (List ℕ))
fact_lines word n = (word ∷ decimal n ∷ []) ∷ []

abbrev pub first_lines : ℕ → List (List (List ℕ))
first_lines dcs = first_line ++ fact_lines (codes "datacentres") dcs

-- the turns of the script's steps, and those of settling, where the run was made by stages
abbrev pub stages_lines : Option (List StageLine) → List (List (List ℕ))
stages_lines None = []
stages_lines (Some stages) = (codes "stages" ∷ []) ∷ (flat_map (stage_lines false) stages ++ (codes "settling" ∷ []) ∷ flat_map (stage_lines true) stages)

-- the whole report
abbrev pub full_lines : Run → Option (List StageLine) → List (List (List ℕ))
full_lines run stages =
    first_lines run.workload.dcs ++ workload_lines run.workload ++ stages_lines stages ++ trace_lines run.events
    ++ datacentres_lines (left_of (world_of run.workload run.events)) ++ replies_lines run.events (length run.workload.sessions) ++ end_line

-- the logs and the replies alone
abbrev pub logs_lines : Run → List (List (List ℕ))
logs_lines run = all_logs_lines (left_of (world_of run.workload run.events)) ++ replies_lines run.events (length run.workload.sessions) ++ end_line

abbrev pub full_text : Run → Option (List StageLine) → List ℕ
full_text run stages = lines_text (full_lines run stages)

abbrev pub logs_text : Run → List ℕ
logs_text run = lines_text (logs_lines run)
