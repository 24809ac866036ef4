-- What the turns of announcements ask of the filters, and what they leave.
use Rattle.std.specs.Prelude.{◌≡◌, ℕ, ◌<◌, ◌≤◌, if◌then◌else◌, nat_lt, List, [], ◌∷◌, ◌++◌, length, Option, Some, All}
use Rattle.std.specs.Option.{ForSome}
use Rattle.cz_base.specs.declared.limits.TheConstants.{MEMBERS}
use Rattle.toid_filter.specs.declared.champions.Share.{Share}
use Rattle.toid_filter.specs.declared.filter.AcceptedMark.{AcceptedMark}
use Rattle.toid_filter.specs.Champions.{grown}
use Rattle.toid_filter.specs.Filters.{Announcement, AreSound, FilterState, new_filter}
use Rattle.stage_world.specs.Idle.{TellsChange}
use Rattle.stage_world.specs.Stages.{Datacentre}
use Rattle.stage_world.specs.Turns.{Turned}
use Rattle.stage_turns.specs.declared.done.TurnDone.{TurnDone}

-- The filters are sound with what is announced, and no more than there may be.
pub record MayMark (map : List (List Share)) (on : Option Announcement) (fs : List FilterState) : Type 0 where
  pub sound : AreSound map on fs
  pub few : length fs ≤ MEMBERS

-- each filter has accepted the mark at which the map grew
abbrev pub AreWaiting : List (List Share) → List FilterState → Type 0
AreWaiting m fs = All (λ f. ((mark : AcceptedMark) × (f.accepted ≡ Some mark) × (m ≡ grown f.map mark.host mark.from)) × ForSome f.accepted (λ mark. mark.host < length f.map)) fs

-- the filters, with one more where more are to serve
abbrev pub filters_with : List (List Share) → ℕ → List FilterState → List FilterState
filters_with m serving fs = if nat_lt (length fs) serving then fs ++ new_filter (length fs) m ∷ [] else fs

-- the stages have this map, announcement and filters
pub record HasFilters (z : Datacentre) (map : List (List Share)) (on : Option Announcement) (fs : List FilterState) : Type 0 where
  pub map_is : z.map ≡ map
  pub on_is : z.announcement ≡ on
  pub filters_are : z.filters ≡ fs

-- Of the stages z the turn changes the announcement alone, and this is answered.
pub record IsAnnounced (z : Datacentre) (turned : Turned) (on : Option Announcement) (done : TurnDone) : Type 0 where
  pub stages : turned.after ≡ record z { announcement = on }
  pub outcome : done.outcome ≡ turned.outcome
  pub events : done.events ≡ turned.events
  pub changed : TellsChange done.changed z turned.after

-- Of the stages z it changes the map, the announcement and the filters alone, and this is answered.
pub record IsMarked (z : Datacentre) (turned : Turned) (map : List (List Share)) (on : Option Announcement) (fs : List FilterState) (done : TurnDone) : Type 0 where
  pub stages : turned.after ≡ record z { map = map; announcement = on; filters = fs }
  pub outcome : done.outcome ≡ turned.outcome
  pub events : done.events ≡ turned.events
  pub changed : TellsChange done.changed z turned.after
