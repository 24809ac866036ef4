-- The line of a stage's turn: what was asked, and what the turn answered.
use Rattle.std.specs.Prelude.{ℕ, Bool, true, false, if◌then◌else◌, List, [], ◌∷◌, ◌++◌, codes}
use Rattle.std.specs.List.{flat_map}
use Rattle.std.specs.Fmt.{decimal}
use Rattle.abstract_log.specs.declared.script.Step.{Step}
use Rattle.abstract_log.specs.declared.script.Step.TheVariants.{Client, Flush, Pass, Stamp, Token, Place, Gossip, Post, Learn, Send, Deliver, Lose, Copy, Floor, Collect, Announce, Mark, AddMaintainer, AddBatcher, AddQueue, AddSender, AddReceiver, Upgrade}
use Rattle.abstract_log.specs.declared.script.ItemName.{ItemName}
use Rattle.abstract_log.specs.declared.script.ItemName.TheVariants.{Draft, External}
use Rattle.abstract_log.specs.declared.script.Way.{Way}
use Rattle.abstract_log.specs.declared.script.Way.TheVariants.{Passed, Held, Dropped}
use Rattle.abstract_log.specs.declared.script.FlushItem.{FlushItem}
use Rattle.abstract_log.specs.declared.script.StageLine.{StageLine}
use Rattle.abstract_log.specs.declared.script.Outcome.{Outcome}
use Rattle.abstract_log.specs.declared.script.Outcome.TheVariants.{Absent, Unacknowledged, Finished, Submitted, Replied, Waiting, Below, Behind, Key, Empty, Flushed, PassedOn, NoToken, Stamped, At, Placed, Head, Covered, Learnt, Sent, NoRecords, Received, Lost, Copied, FloorAt, Nothing, Collected, Announced, Busy, LateStart, Idle, AcceptedBy, LateAt, Active, LateMark, EpochAdded, Member, Form2}
use Rattle.report_text.specs.Values.{letter, name_word, draft_word, counts_word, numbers_words, names_words, places_words}

-- the first word of a step line
abbrev pub step_keyword : Step → List ℕ
step_keyword (Client s) = codes "client"
step_keyword (Flush d b) = codes "flush"
step_keyword (Pass d f q) = codes "pass"
step_keyword (Stamp d q) = codes "stamp"
step_keyword (Token d) = codes "token"
step_keyword (Place d q m) = codes "place"
step_keyword (Gossip d m k) = codes "gossip"
step_keyword (Post d m i) = codes "post"
step_keyword (Learn d) = codes "learn"
step_keyword (Send d k e) = codes "send"
step_keyword (Deliver d e k r) = codes "deliver"
step_keyword (Lose d e k) = codes "lose"
step_keyword (Copy d e k) = codes "copy"
step_keyword (Floor d p) = codes "floor"
step_keyword (Collect d m) = codes "collect"
step_keyword (Announce d h t) = codes "announce"
step_keyword (Mark d) = codes "mark"
step_keyword (AddMaintainer d p) = codes "addmaintainer"
step_keyword (AddBatcher d) = codes "addbatcher"
step_keyword (AddQueue d) = codes "addqueue"
step_keyword (AddSender d) = codes "addsender"
step_keyword (AddReceiver d) = codes "addreceiver"
step_keyword (Upgrade d) = codes "upgrade"

-- the words after it: datacentres by letter, members and packets by number
abbrev pub step_arguments : Step → List (List ℕ)
step_arguments (Client s) = decimal s ∷ []
step_arguments (Flush d b) = letter d ∷ decimal b ∷ []
step_arguments (Pass d f q) = letter d ∷ decimal f ∷ decimal q ∷ []
step_arguments (Stamp d q) = letter d ∷ decimal q ∷ []
step_arguments (Token d) = letter d ∷ []
step_arguments (Place d q m) = letter d ∷ decimal q ∷ decimal m ∷ []
step_arguments (Gossip d m k) = letter d ∷ decimal m ∷ decimal k ∷ []
step_arguments (Post d m i) = letter d ∷ decimal m ∷ decimal i ∷ []
step_arguments (Learn d) = letter d ∷ []
step_arguments (Send d k e) = letter d ∷ decimal k ∷ letter e ∷ []
step_arguments (Deliver d e k r) = letter d ∷ letter e ∷ decimal k ∷ decimal r ∷ []
step_arguments (Lose d e k) = letter d ∷ letter e ∷ decimal k ∷ []
step_arguments (Copy d e k) = letter d ∷ letter e ∷ decimal k ∷ []
step_arguments (Floor d p) = letter d ∷ decimal p ∷ []
step_arguments (Collect d m) = letter d ∷ decimal m ∷ []
step_arguments (Announce d h t) = letter d ∷ letter h ∷ decimal t ∷ []
step_arguments (Mark d) = letter d ∷ []
step_arguments (AddMaintainer d p) = letter d ∷ decimal p ∷ []
step_arguments (AddBatcher d) = letter d ∷ []
step_arguments (AddQueue d) = letter d ∷ []
step_arguments (AddSender d) = letter d ∷ []
step_arguments (AddReceiver d) = letter d ∷ []
step_arguments (Upgrade d) = letter d ∷ []

-- what an item is called on its way
abbrev pub item_word : ItemName → List ℕ
item_word (Draft session index) = draft_word session index
item_word (External host toid) = name_word host toid

abbrev pub way_word : Way → List ℕ
way_word Passed = codes "passed"
way_word Held = codes "held"
way_word Dropped = codes "dropped"

-- an item, the number of its filter, and what became of it there
abbrev pub flush_words : FlushItem → List (List ℕ)
flush_words item = item_word item.name ∷ decimal item.filter ∷ way_word item.way ∷ []

abbrev pub flushes_words : List FlushItem → List (List ℕ)
flushes_words items = flat_map flush_words items

-- a word, and a number that it tells of
abbrev pub labelled : List ℕ → ℕ → List (List ℕ)
labelled word n = word ∷ decimal n ∷ []

-- the packets in a link, and whether the oldest was lost
abbrev pub link_words : ℕ → Bool → List (List ℕ)
link_words n true = codes "link" ∷ decimal n ∷ codes "lost" ∷ []
link_words n false = codes "link" ∷ decimal n ∷ []

-- what a turn answered
abbrev pub outcome_words : Outcome → List (List ℕ)
outcome_words Absent = codes "none" ∷ []
outcome_words (Unacknowledged k) = labelled (codes "unacknowledged") k
outcome_words Finished = codes "finished" ∷ []
outcome_words (Submitted k) = labelled (codes "submitted") k
outcome_words (Replied k) = labelled (codes "replied") k
outcome_words (Waiting k floor head) = codes "waiting" ∷ decimal k ∷ codes "floor" ∷ decimal floor ∷ codes "head" ∷ decimal head ∷ []
outcome_words (Below k floor) = codes "below" ∷ decimal k ∷ codes "floor" ∷ decimal floor ∷ []
outcome_words (Behind k covered) = codes "behind" ∷ decimal k ∷ codes "covered" ∷ decimal covered ∷ []
outcome_words (Key k done of at) = codes "key" ∷ decimal k ∷ decimal done ∷ codes "of" ∷ decimal of ∷ codes "at" ∷ decimal at ∷ []
outcome_words Empty = codes "empty" ∷ []
outcome_words (Flushed items) = flushes_words items
outcome_words (PassedOn count) = decimal count ∷ []
outcome_words NoToken = codes "no" ∷ codes "token" ∷ []
outcome_words (Stamped places deferred) = places_words places ++ labelled (codes "deferred") deferred
outcome_words (At queue) = labelled (codes "at") queue
outcome_words (Placed lids) = numbers_words lids
outcome_words (Head at) = labelled (codes "head") at
outcome_words (Covered at) = labelled (codes "covered") at
outcome_words (Learnt row) = counts_word row ∷ []
outcome_words (Sent names link lost) = names_words names ++ link_words link lost
outcome_words NoRecords = codes "no" ∷ codes "records" ∷ []
outcome_words (Received names) = names_words names
outcome_words Lost = codes "lost" ∷ []
outcome_words (Copied link lost) = link_words link lost
outcome_words (FloorAt floor) = labelled (codes "floor") floor
outcome_words Nothing = codes "nothing" ∷ []
outcome_words (Collected lids) = numbers_words lids
outcome_words Announced = codes "announced" ∷ []
outcome_words Busy = codes "busy" ∷ []
outcome_words (LateStart start) = labelled (codes "late") start
outcome_words Idle = codes "idle" ∷ []
outcome_words (AcceptedBy number) = labelled (codes "accepted") number
outcome_words (LateAt number passed) = codes "late" ∷ decimal number ∷ decimal passed ∷ []
outcome_words (Active filters) = labelled (codes "active") filters
outcome_words (LateMark bound) = labelled (codes "late") bound
outcome_words (EpochAdded start members) = codes "epoch" ∷ decimal start ∷ decimal members ∷ []
outcome_words (Member number) = labelled (codes "member") number
outcome_words Form2 = labelled (codes "form") 2

-- a turn: its step line, an arrow, and what it answered
abbrev pub stage_words : StageLine → List (List ℕ)
stage_words line = step_keyword line.step ∷ (step_arguments line.step ++ codes "->" ∷ outcome_words line.outcome)

-- its line, where it is one of settling, or one of the script's steps, as is asked
abbrev pub stage_lines : Bool → StageLine → List (List (List ℕ))
stage_lines true line = if line.settling then stage_words line ∷ [] else []
stage_lines false line = if line.settling then [] else stage_words line ∷ []
