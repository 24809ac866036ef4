-- What an index tells of the last update of a key.
use Rattle.std.specs.Prelude.{ℕ, List, Option, Some, None}
use Rattle.causal_deps.specs.declared.answers.Newest.{Newest}
use Rattle.causal_deps.specs.declared.answers.Newest.TheVariants.{Found, Deleted, Absent}
use Rattle.causal_deps.specs.declared.record.Kind.{Kind}
use Rattle.causal_deps.specs.declared.record.Kind.TheVariants.{Append, Put, Del}
use Rattle.causal_deps.specs.declared.record.Place.{Place}
use Rattle.causal_deps.specs.declared.record.Record.{Record}
use Rattle.causal_deps.specs.Logs.{record_at}
use Rattle.abstract_log.specs.Answers.{place_at}

-- of a record of this kind at a place: the position of a put, the place of a del
abbrev pub told_by : Kind → Place → Newest
told_by Append place = Absent
told_by Put place = Found place.lid
told_by Del place = Deleted place

abbrev pub told_record : ℕ → Option Record → Newest
told_record p None = Absent
told_record p (Some r) = told_by r.kind (place_at p r)

-- of the log's record at a position, if there is one
abbrev pub told_place : List Record → Option ℕ → Newest
told_place xs None = Absent
told_place xs (Some p) = told_record p (record_at xs p)
