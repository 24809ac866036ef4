-- What an announcement is, what it asks next, and what answers make of it.
use Rattle.std.specs.Prelude.{ℕ, if◌then◌else◌, nat_le, nat_lt, List, [], ◌∷◌, Option, Some, None}
use Rattle.toid_filter.specs.declared.filter.Accept.{Accept}
use Rattle.toid_filter.specs.declared.filter.Accept.TheVariants.{Accepted, Late as LateAnswer}
use Rattle.toid_filter.specs.Filters.{Announcement}
use Rattle.toid_filter.specs.Marks.{asked_next}
use Rattle.stage_marks.specs.declared.marks.Announced.{Announced as AnnouncedFields}
use Rattle.stage_marks.specs.declared.marks.Announce.{Announce}
use Rattle.stage_marks.specs.declared.marks.Announce.TheVariants.{Announced, Busy, Late}
use Rattle.stage_marks.specs.declared.marks.NextMark.{NextMark}
use Rattle.stage_marks.specs.declared.marks.NextMark.TheVariants.{Idle, Ask, Activate}

-- the announcement that the fields say
abbrev pub value_of : AnnouncedFields → Announcement
value_of on = record { host = on.host; mark = on.mark; next = on.next }

-- one that has asked no filter yet
abbrev pub new_announcement : ℕ → ℕ → Announcement
new_announcement host mark = record { host = host; mark = mark; next = 0 }

-- what is answered to who announces a mark, where the last share of its host has this start
abbrev pub announce_told : Option Announcement → ℕ → ℕ → Announce
announce_told (Some a) mark last_start = Busy a.host a.mark
announce_told None mark last_start = if nat_le mark last_start then Late last_start else Announced

-- and what is announced then
abbrev pub announced_then : Option Announcement → ℕ → ℕ → ℕ → Option Announcement
announced_then (Some a) host mark last_start = Some a
announced_then None host mark last_start = if nat_le mark last_start then None else Some (new_announcement host mark)

-- what is to be asked next, of so many filters
abbrev pub next_told : Option Announcement → ℕ → NextMark
next_told None filters = Idle
next_told (Some a) filters = if nat_lt a.next filters then Ask a.next else Activate

-- what the answer of the filter that was asked leaves
abbrev pub heard_then : Option Announcement → Accept → Option Announcement
heard_then None answer = None
heard_then (Some a) Accepted = Some (asked_next a)
heard_then (Some a) (LateAnswer passed) = None

-- what answers leave, one after another
abbrev pub after_answers : Option Announcement → List Accept → Option Announcement
after_answers on [] = on
after_answers on (answer ∷ more) = after_answers (heard_then on answer) more
