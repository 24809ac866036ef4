-- Lists of takes, by one filter and by all filters of a datacentre.
use Rattle.std.specs.Prelude.{◌≡◌, ◌⊎◌, ℕ, ◌+◌, ◌<◌, ◌≤◌, true, false, List, [], ◌∷◌, ◌++◌, length, map, slice_index, slice_index_or, slice_set, count_by, sum_by, All}
use Rattle.std.specs.List.{AllPairs}
use Rattle.causal_deps.specs.declared.record.Record.{Record}
use Rattle.causal_deps.specs.declared.record.Item.TheVariants.{External}
use Rattle.toid_filter.specs.declared.champions.Share.{Share}
use Rattle.toid_filter.specs.declared.filter.Verdict.{Verdict}
use Rattle.toid_filter.specs.Champions.{champion}
use Rattle.toid_filter.specs.Filters.{FilterState, owns, is_passed, is_known, is_held_back, has_name, times_passed, IsTaken, FitsFilter, filter_at}

-- a filter takes records of its own one after another
abbrev pub AreTaken : FilterState → List Record → List Verdict → FilterState → Type 0
AreTaken f [] [] g = g ≡ f
AreTaken f [] (v ∷ vs) g = ⊥
AreTaken f (r ∷ rs) [] g = ⊥
AreTaken f (r ∷ rs) (v ∷ vs) g = (next : FilterState) × FitsFilter f r × IsTaken f r v next × AreTaken next rs vs g

-- the filters after one of them was changed
abbrev pub with_filter : List FilterState → ℕ → FilterState → List FilterState
with_filter fs i f = slice_set fs i f

-- the champions of records take them one after another
abbrev pub AreTakenByChampions : List (List Share) → List FilterState → List Record → List FilterState → Type 0
AreTakenByChampions map fs [] gs = gs ≡ fs
AreTakenByChampions map fs (r ∷ rs) gs =
    (v : Verdict) × (next : FilterState) × FitsFilter (filter_at fs (champion map r.host r.toid)) r × IsTaken (filter_at fs (champion map r.host r.toid)) r v next
    × AreTakenByChampions map (with_filter fs (champion map r.host r.toid) next) rs gs

-- Between two states a filter passed these records: they are what its out list gained, each number of a host is above those
-- before it, and a number is among them once exactly where it was not passed before and is passed after.
pub record HasPassed (f g : FilterState) (gained : List Record) : Type 0 where
  pub out : g.out ≡ f.out ++ map External gained
  pub rising : AllPairs (λ q r. q.host ≡ r.host → q.toid < r.toid) gained
  pub counts : (h t : ℕ) → count_by (has_name h t) gained + times_passed h t f ≡ times_passed h t g
  pub new : All (λ q. slice_index f.reached q.host < q.toid) gained
  pub reached : All (λ q. q.toid ≤ slice_index g.reached q.host) gained
  pub grows : (h : ℕ) → slice_index f.reached h ≤ slice_index g.reached h
  pub keeps : (h t : ℕ) → is_known f h t ≡ true → is_known g h t ≡ true

-- Between two states the filters of a datacentre passed these lists, one for each filter; a number stands in all of them together
-- at most once, and in none of them where a filter passed it before.
pub record HavePassed (fs gs : List FilterState) (gained : List (List Record)) : Type 0 where
  pub filters : length gs ≡ length fs
  pub lists : length gained ≡ length fs
  pub each : (i : ℕ) → i < length fs → HasPassed (filter_at fs i) (filter_at gs i) (slice_index_or gained i [])
  pub once : (h t : ℕ) → sum_by (count_by (has_name h t)) gained + sum_by (times_passed h t) fs ≤ 1

-- the champion of the record's number passed it or holds it
abbrev pub IsKnownToChampion : List (List Share) → List FilterState → Record → Type 0
IsKnownToChampion map fs r = is_known (filter_at fs (champion map r.host r.toid)) r.host r.toid ≡ true

-- the record waits for a smaller own number of its host that was not passed, or for a mark
abbrev pub Waits : FilterState → Record → Type 0
Waits f r = ((u : ℕ) × (1 ≤ u) × (u < r.toid) × (owns f r.host u ≡ true) × (is_passed f r.host u ≡ false)) ⊎ (is_held_back f.accepted r.host r.toid ≡ true)
