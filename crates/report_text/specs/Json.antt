-- The logs and the replies of a run as JSON.
use Rattle.std.specs.Prelude.{ℕ, ◌==◌, true, if◌then◌else◌, List, [], ◌∷◌, ◌++◌, map, length, codes}
use Rattle.std.specs.List.{flat_map}
use Rattle.std.specs.Fmt.{decimal}
use Rattle.std.specs.Str.Lossy.{utf8_lossy}
use Rattle.causal_deps.specs.declared.record.Record.{Record}
use Rattle.abstract_log.specs.declared.answer.Answer.TheVariants.{Written}
use Rattle.abstract_log.specs.declared.event.Event.{Event}
use Rattle.abstract_log.specs.declared.event.Event.TheVariants.{Append, Reply}
use Rattle.abstract_log.specs.declared.event.Run.{Run}
use Rattle.abstract_log.specs.declared.left.LeftAt.{LeftAt}
use Rattle.abstract_log.specs.declared.left.Row.{Row}
use Rattle.abstract_log.specs.declared.left.Row.TheVariants.{Kept, Gone}
use Rattle.abstract_log.specs.Left.{left_of}
use Rattle.abstract_log.specs.Runs.{world_of}
use Rattle.serde_json.specs.Data.{Data, number, unsigned, string, boolean, array, object, Members, member, no_members, put}
use Rattle.serde_json.specs.View.{items_of}
use Rattle.serde_json.specs.Written.{compact_text}
use Rattle.report_text.specs.Lines.{line_feed, words_text}
use Rattle.report_text.specs.Numbered.{below, flat_map_from}
use Rattle.report_text.specs.Report.{answer_words}
use Rattle.report_text.specs.Values.{kind_word, letter}

-- a number, the text that bytes spell, and a list
abbrev pub number_data : ℕ → Data
number_data n = number (unsigned n)

abbrev pub text_data : List ℕ → Data
text_data bytes = string (utf8_lossy bytes)

abbrev pub list_data : List Data → Data
list_data items = array (items_of items)

-- a position with its record
abbrev pub record_data : ℕ → Record → Data
record_data lid r = object (
    member (codes "body") (text_data r.body)
    (member (codes "deps") (list_data (map number_data r.dep))
    (member (codes "host") (text_data (letter r.host))
    (member (codes "index") (number_data r.index)
    (member (codes "kind") (text_data (kind_word r.kind))
    (member (codes "lid") (number_data lid)
    (member (codes "session") (number_data r.session)
    (member (codes "tags") (list_data (map text_data r.tags))
    (member (codes "toid") (number_data r.toid)
    no_members)))))))))

-- the members of a record's content, and of its writer, among others
abbrev pub with_content : Record → Members → Members
with_content r ms =
    put (codes "tags") (list_data (map text_data r.tags)) (put (codes "kind") (text_data (kind_word r.kind))
    (put (codes "deps") (list_data (map number_data r.dep)) (put (codes "body") (text_data r.body) ms)))

abbrev pub with_writer : Record → Members → Members
with_writer r ms =
    put (codes "toid") (number_data r.toid) (put (codes "session") (number_data r.session)
    (put (codes "index") (number_data r.index) (put (codes "host") (text_data (letter r.host)) ms)))

-- a position of which the name alone is left
abbrev pub gone_data : ℕ → ℕ → ℕ → Data
gone_data lid h t = object (
    member (codes "gone") (boolean true)
    (member (codes "host") (text_data (letter h))
    (member (codes "lid") (number_data lid)
    (member (codes "toid") (number_data t)
    no_members))))

abbrev pub row_data : ℕ → Row → Data
row_data lid (Kept r) = record_data lid r
row_data lid (Gone h t) = gone_data lid h t

abbrev pub row_items : ℕ → Row → List Data
row_items lid row = row_data lid row ∷ []

-- the log of a datacentre, and those of all
abbrev pub log_data : LeftAt → Data
log_data at = list_data (flat_map_from row_items 1 at.rows)

abbrev pub logs_data : List LeftAt → Data
logs_data left = list_data (map log_data left)

-- what a command of a session was answered, as a text and as its words
abbrev pub answered_text : ℕ → ℕ → List ℕ → Data
answered_text s k text = object (
    member (codes "answer") (text_data text)
    (member (codes "index") (number_data k)
    (member (codes "session") (number_data s)
    no_members)))

abbrev pub answered_data : ℕ → ℕ → List (List ℕ) → Data
answered_data s k words = answered_text s k (words_text words)

-- the reply to a session's command, where the event answers one
abbrev pub reply_items : ℕ → Event → List Data
reply_items s (Append d of k lid toid) = if of == s then answered_data s k (answer_words (Written (record { lid = lid; host = d; toid = toid }))) ∷ [] else []
reply_items s (Reply d of k at answer) = if of == s then answered_data s k (codes "at" ∷ decimal at ∷ answer_words answer) ∷ [] else []
reply_items s _ = []

-- the replies of a session in their order, and those of all sessions
abbrev pub session_items : List Event → ℕ → List Data
session_items events s = flat_map (reply_items s) events

abbrev pub replies_data : List Event → ℕ → Data
replies_data events sessions = list_data (below (session_items events) sessions)

abbrev pub json_data : Run → Data
json_data run = object (
    member (codes "logs") (logs_data (left_of (world_of run.workload run.events)))
    (member (codes "replies") (replies_data run.events (length run.workload.sessions))
    no_members))

-- one line
abbrev pub json_text : Run → List ℕ
json_text run = compact_text (json_data run) ++ line_feed
