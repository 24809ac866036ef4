-- All filters of a datacentre while they take records, and while one filter more is announced, accepted and made, again and again.
use Rattle.std.specs.Prelude.{◌≡◌, ◌⊎◌, ℕ, ◌+◌, ◌<◌, ◌≤◌, false, List, [], ◌∷◌, ◌++◌, length, map, Option, Some, None, slice_index, slice_index_or, count_by, sum_by, All}
use Rattle.std.specs.List.{AllPairs}
use Rattle.cz_base.specs.declared.limits.TheConstants.{MEMBERS}
use Rattle.causal_deps.specs.declared.record.Record.{Record}
use Rattle.causal_deps.specs.declared.record.Item.TheVariants.{External}
use Rattle.toid_filter.specs.declared.champions.Share.{Share}
use Rattle.toid_filter.specs.Champions.{last_share}
use Rattle.toid_filter.specs.Filters.{FilterState, Announcement, cancelled, filter_at, has_name, is_past, times_passed, AreSound}
use Rattle.toid_filter.specs.Marks.{accepted_next, asked_next, filters_grown, grown_by}
use Rattle.toid_filter.specs.Laws.{AreTakenByChampions}

-- the champion map, what is announced, and the filters
pub record Filtering : Type 0 where
  pub map : List (List Share)
  pub announcement : Option Announcement
  pub filters : List FilterState

abbrev pub AreSoundTogether : Filtering → Type 0
AreSoundTogether z = AreSound z.map z.announcement z.filters

-- champions take records, one after another
abbrev pub TakesRecords : Filtering → Filtering → Type 0
TakesRecords z y = (rs : List Record) × (fs : List FilterState) × AreTakenByChampions z.map z.filters rs fs × (y ≡ record z { filters = fs })

-- one filter more is announced for a host that there is, from a number above its last start on
abbrev pub IsAnnouncedFor : Filtering → Filtering → Type 0
IsAnnouncedFor z y = (h : ℕ) × (mark : ℕ) × (z.announcement ≡ None) × (h < length z.map) × ((last_share z.map h).start < mark) × ((last_share z.map h).filters < MEMBERS)
    × (y ≡ record z { announcement = Some (record { host = h; mark = mark; next = 0 }) })

-- the next filter accepts the mark
abbrev pub IsAccepted : Filtering → Filtering → Type 0
IsAccepted z y = (a : Announcement) × (z.announcement ≡ Some a) × (a.next < length z.filters) × (is_past a.host a.mark (filter_at z.filters a.next) ≡ false)
    × (y ≡ record z { announcement = Some (asked_next a); filters = accepted_next a z.filters })

-- all filters forget the mark
abbrev pub IsCancelled : Filtering → Filtering → Type 0
IsCancelled z y = y ≡ record z { announcement = None; filters = map cancelled z.filters }

-- all accepted it, and take the grown map
abbrev pub IsActivated : Filtering → Filtering → Type 0
IsActivated z y = (a : Announcement) × (z.announcement ≡ Some a) × (length z.filters ≤ a.next)
    × (y ≡ record { map = grown_by a z.map; announcement = None; filters = filters_grown a z.map z.filters })

-- a step of any of the five ways, and steps one after another
abbrev pub GoesOn : Filtering → Filtering → Type 0
GoesOn z y = TakesRecords z y ⊎ (IsAnnouncedFor z y ⊎ (IsAccepted z y ⊎ (IsCancelled z y ⊎ IsActivated z y)))

abbrev pub GoOn : Filtering → List Filtering → Filtering → Type 0
GoOn z [] y = y ≡ z
GoOn z (x ∷ xs) y = GoesOn z x × GoOn x xs y

-- Between two states a filter passed these records: they are what its out list gained, each number of a host is above those
-- before it, and a number is among them once exactly where it was not passed before and is passed after. What it held may
-- have gone to another filter.
pub record HasGained (f g : FilterState) (gained : List Record) : Type 0 where
  pub out : g.out ≡ f.out ++ map External gained
  pub rising : AllPairs (λ q r. q.host ≡ r.host → q.toid < r.toid) gained
  pub counts : (h t : ℕ) → count_by (has_name h t) gained + times_passed h t f ≡ times_passed h t g
  pub new : All (λ q. slice_index f.reached q.host < q.toid) gained
  pub reached : All (λ q. q.toid ≤ slice_index g.reached q.host) gained
  pub grows : (h : ℕ) → slice_index f.reached h ≤ slice_index g.reached h

-- Between two states the filters of a datacentre passed these lists, one for each filter that there is then; a number stands in all
-- of them together at most once, and in none of them where a filter passed it before.
pub record HaveGained (fs gs : List FilterState) (gained : List (List Record)) : Type 0 where
  pub filters : length fs ≤ length gs
  pub lists : length gained ≡ length gs
  pub each : (i : ℕ) → i < length gs → HasGained (filter_at fs i) (filter_at gs i) (slice_index_or gained i [])
  pub once : (h t : ℕ) → sum_by (count_by (has_name h t)) gained + sum_by (times_passed h t) fs ≤ 1
