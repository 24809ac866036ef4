-- Small pieces of scripts, of what turns answer and of what they do to the logs.
use Rattle.std.specs.Prelude.{ℕ, List, [], ◌∷◌, false}
use Rattle.causal_deps.specs.declared.record.Place.{Place}
use Rattle.causal_deps.specs.declared.record.Record.{Record}
use Rattle.causal_deps.specs.declared.record.Kind.TheVariants.{Put as PutKind}
use Rattle.abstract_log.specs.declared.command.Command.{Command}
use Rattle.abstract_log.specs.declared.command.SessionPlan.{SessionPlan}
use Rattle.abstract_log.specs.declared.answer.Found.{Found}
use Rattle.abstract_log.specs.declared.answer.Found.TheVariants.{At as FoundAt}
use Rattle.abstract_log.specs.declared.event.Event.{Event}
use Rattle.abstract_log.specs.declared.script.FlushItem.{FlushItem}
use Rattle.abstract_log.specs.declared.script.ItemName.TheVariants.{Draft as DraftName, External as ExternalName}
use Rattle.abstract_log.specs.declared.script.Outcome.{Outcome}
use Rattle.abstract_log.specs.declared.script.Outcome.TheVariants.{Flushed, PassedOn, Stamped, Placed, Sent, Received}
use Rattle.abstract_log.specs.declared.script.Script.{Script}
use Rattle.abstract_log.specs.declared.script.Sizes.{Sizes}
use Rattle.abstract_log.specs.declared.script.Step.{Step}
use Rattle.abstract_log.specs.declared.script.Step.TheVariants.{Flush, Pass, Stamp}
use Rattle.abstract_log.specs.declared.script.Way.TheVariants.{Passed, Dropped}
use Rattle.abstract_log.specs.Worlds.{log_of, gone_of}
use Rattle.abstract_log.specs.Runs.{world_of}
use Rattle.stage_world.specs.Opening.{opening}
use Rattle.stage_world.specs.Schedules.{outcomes_of, events_of}

-- the datacentres A, B and C
abbrev pub dc_a : ℕ
dc_a = 0

abbrev pub dc_b : ℕ
dc_b = 1

abbrev pub dc_c : ℕ
dc_c = 2

-- the keys x and y, the tag t, and the bodies 1, 2, 3, a, b and c, as their bytes
abbrev pub key_x : List ℕ
key_x = 120 ∷ []

abbrev pub key_y : List ℕ
key_y = 121 ∷ []

abbrev pub tag_t : List ℕ
tag_t = 116 ∷ []

abbrev pub body_1 : List ℕ
body_1 = 49 ∷ []

abbrev pub body_2 : List ℕ
body_2 = 50 ∷ []

abbrev pub body_3 : List ℕ
body_3 = 51 ∷ []

abbrev pub body_a : List ℕ
body_a = 97 ∷ []

abbrev pub body_b : List ℕ
body_b = 98 ∷ []

abbrev pub body_c : List ℕ
body_c = 99 ∷ []

-- a session at datacentre d with these commands
abbrev pub session_at : ℕ → List Command → SessionPlan
session_at d commands = record { home = d; commands = commands }

-- a datacentre with two maintainers, and with two filters, and else with one member of each stage
abbrev pub two_maintainers : Sizes
two_maintainers = record { batchers = 1; filters = 1; queues = 1; maintainers = 2; indexers = 1; senders = 1; receivers = 1 }

abbrev pub two_filters : Sizes
two_filters = record { batchers = 1; filters = 2; queues = 1; maintainers = 1; indexers = 1; senders = 1; receivers = 1 }

-- what is in the first batcher goes through the first filter and queue into the log, and then these steps follow
abbrev pub to_log : ℕ → List Step → List Step
to_log d later = Flush d 0 ∷ Pass d 0 0 ∷ Stamp d 0 ∷ later

-- position p has the record of host h with number t
abbrev pub place : ℕ → ℕ → ℕ → Place
place p h t = record { lid = p; host = h; toid = t }

-- the draft of session s and index k passes the first filter; the record h:t passes it, or is dropped there
abbrev pub draft_passed : ℕ → ℕ → FlushItem
draft_passed s k = record { name = DraftName s k; filter = 0; way = Passed }

abbrev pub record_passed : ℕ → ℕ → FlushItem
record_passed h t = record { name = ExternalName h t; filter = 0; way = Passed }

abbrev pub record_dropped : ℕ → ℕ → FlushItem
record_dropped h t = record { name = ExternalName h t; filter = 0; way = Dropped }

-- one item is flushed, is passed on and is stamped at p as h:t, and nothing is deferred; then these answers follow
abbrev pub logged : FlushItem → ℕ → ℕ → ℕ → List Outcome → List Outcome
logged item p h t later = Flushed (item ∷ []) ∷ PassedOn 1 ∷ Stamped (place p h t ∷ []) 0 ∷ later

-- one position is placed
abbrev pub placed : ℕ → Outcome
placed p = Placed (p ∷ [])

-- one record h:t is sent, and as the only message in the link, and is received
abbrev pub sent_alone : ℕ → ℕ → Outcome
sent_alone h t = Sent ((h, t) ∷ []) 1 false

abbrev pub received : ℕ → ℕ → Outcome
received h t = Received ((h, t) ∷ [])

-- a key is found at p, as the record h:t with this body
abbrev pub found : ℕ → ℕ → ℕ → List ℕ → Found
found p h t body = FoundAt (place p h t) body

-- a record of a put
abbrev pub put_record : ℕ → ℕ → ℕ → ℕ → List ℕ → List ℕ → List ℕ → Record
put_record h t s k dep body key = record { host = h; toid = t; session = s; index = k; kind = PutKind; tags = key ∷ []; body = body; dep = dep }

-- what the turns of a script answer, and their events
abbrev pub answers_of : Script → List Outcome
answers_of script = outcomes_of script.workload (opening script) script.steps

abbrev pub events_in : Script → List Event
events_in script = events_of script.workload (opening script) script.steps

-- the log of datacentre d after a script, and the positions that are collected there
abbrev pub log_after : Script → ℕ → List Record
log_after script d = log_of (world_of script.workload (events_in script)) d

abbrev pub gone_after : Script → ℕ → List ℕ
gone_after script d = gone_of (world_of script.workload (events_in script)) d
