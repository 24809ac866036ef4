-- Announcements at a whole datacentre: what stands then is what the stage world's turn leaves.
use Rattle.std.proofs.Common.{Result, IfOk, refl, sym, Option, List}
use Rattle.toid_filter.specs.declared.champions.Share.{Share}
use Rattle.toid_filter.specs.Filters.{Announcement, FilterState}
use Rattle.stage_world.specs.MarkTurns.{announce_turn, mark_turn}
use Rattle.stage_world.specs.Turns.{Turned}
use Rattle.stage_turns.specs.declared.done.TurnDone.{TurnDone}
use Rattle.stage_turns.specs.Marking.{IsAnnounced, IsMarked, MayMark}
use Rattle.datacentre.specs.declared.parts.Parts.{Parts}
use Rattle.datacentre.specs.Seen.{seen}
use Rattle.datacentre.specs.Turning.{IsTurned, MayTurn}

pub announced_is : (p : Parts) (turned : Turned) (on : Option Announcement) (done : TurnDone) → MayTurn p → IsAnnounced (seen p) turned on done → IsTurned p (record p { marks = on }) done turned
announced_is p turned on done may is = record {
  stages = sym is.stages;
  here = refl;
  whole = record { token = may.whole.token; table = may.whole.table; senders = may.whole.senders; pins = may.whole.pins; many = may.whole.many };
  outcome = is.outcome;
  events = is.events;
  changed = is.changed;
}

pub mark_may : (p : Parts) → MayTurn p → MayMark p.map p.marks p.filters
mark_may p may = record { sound = may.log.stands.items.sound; few = may.log.stands.membership.members.ranges.filters.1 }

pub marked_is : (p : Parts) (turned : Turned) (m : List (List Share)) (on : Option Announcement) (fs : List FilterState) (done : TurnDone) → MayTurn p → IsMarked (seen p) turned m on fs done
    → IsTurned p (record p { marks = on; filters = fs; map = m }) done turned
marked_is p turned m on fs done may is = record {
  stages = sym is.stages;
  here = refl;
  whole = record { token = may.whole.token; table = may.whole.table; senders = may.whole.senders; pins = may.whole.pins; many = may.whole.many };
  outcome = is.outcome;
  events = is.events;
  changed = is.changed;
}
