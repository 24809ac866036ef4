-- The filters of a datacentre while one filter more is announced, accepted and made.
use Rattle.std.specs.Prelude.{◌+◌, if◌then◌else◌, nat_lt, List, [], ◌∷◌, ◌++◌, length, map, Some, slice_set}
use Rattle.toid_filter.specs.declared.champions.Share.{Share}
use Rattle.toid_filter.specs.declared.filter.AcceptedMark.{AcceptedMark}
use Rattle.toid_filter.specs.Champions.{grown, last_share}
use Rattle.toid_filter.specs.Filters.{FilterState, Announcement, activated, filter_at, new_filter}

-- the mark that is announced
abbrev pub mark_announced : Announcement → AcceptedMark
mark_announced a = record { host = a.host; from = a.mark }

-- the announcement when one filter more has accepted its mark, and the filters then
abbrev pub asked_next : Announcement → Announcement
asked_next a = record a { next = a.next + 1 }

abbrev pub accepted_next : Announcement → List FilterState → List FilterState
accepted_next a fs = slice_set fs a.next (record (filter_at fs a.next) { accepted = Some (mark_announced a) })

-- the champion map with what is announced
abbrev pub grown_by : Announcement → List (List Share) → List (List Share)
grown_by a shares = grown shares a.host a.mark

-- all filters with the grown map, and one filter more where the map has more than there are
abbrev pub filters_grown : Announcement → List (List Share) → List FilterState → List FilterState
filters_grown a shares fs =
    if nat_lt (length fs) (last_share (grown_by a shares) a.host).filters
    then map (activated (grown_by a shares)) fs ++ new_filter (length fs) (grown_by a shares) ∷ []
    else map (activated (grown_by a shares)) fs
