-- Which filter serves each number of each host.
use Rattle.std.specs.Prelude.{◌≡◌, ℕ, ◌+◌, ◌-◌, ◌%◌, ◌<◌, ◌≤◌, if◌then◌else◌, nat_le, List, [], ◌∷◌, ◌++◌, length, replicate, slice_index_or, slice_set, All}
use Rattle.std.specs.List.{AllPairs}
use Rattle.toid_filter.specs.declared.champions.Share.{Share}
use Rattle.cz_base.specs.declared.limits.TheConstants.{DATACENTRES}

-- where a host has no share, one filter serves all its numbers
abbrev pub sole_share : Share
sole_share = record { start = 1; filters = 1 }

-- the last share that starts at or before a number, else the one found before
abbrev pub share_from : Share → List Share → ℕ → Share
share_from found [] t = found
share_from found (e ∷ es) t = share_from (if nat_le e.start t then e else found) es t

-- the filter that gets a number of host h by a share: the next number goes to the next filter, round and round
abbrev pub dealt_by : Share → ℕ → ℕ → ℕ
dealt_by share h t = ((h + t) - share.start) % share.filters

-- the filter that gets a number of host h by the host's shares
abbrev pub dealt_from : Share → List Share → ℕ → ℕ → ℕ
dealt_from found shares h t = dealt_by (share_from found shares t) h t

-- the champion of number t of host h, by the shares of each host
abbrev pub champion : List (List Share) → ℕ → ℕ → ℕ
champion map h t = dealt_from sole_share (slice_index_or map h []) h t

-- a host's shares: each has a filter, and each starts after those before it
pub record AreShares (shares : List Share) : Type 0 where
  pub filters : All (λ e. 1 ≤ e.filters) shares
  pub rising : AllPairs (λ e f. e.start < f.start) shares

-- a champion map: the shares of 1 to `DATACENTRES` hosts
pub record IsMap (map : List (List Share)) : Type 0 where
  pub some : 1 ≤ length map
  pub few : length map ≤ DATACENTRES
  pub each : All AreShares map

-- for each host one share, of so many filters
abbrev pub first_map : ℕ → ℕ → List (List Share)
first_map dcs filters = replicate dcs ((record { start = 1; filters = filters }) ∷ [])

-- the last share of a host
abbrev pub last_of_shares : Share → List Share → Share
last_of_shares found [] = found
last_of_shares found (e ∷ es) = last_of_shares e es

abbrev pub last_share : List (List Share) → ℕ → Share
last_share map h = last_of_shares sole_share (slice_index_or map h [])

-- the map with one filter more for host h from number t on
abbrev pub grown : List (List Share) → ℕ → ℕ → List (List Share)
grown map h t = slice_set map h (slice_index_or map h [] ++ (record { start = t; filters = (last_share map h).filters + 1 }) ∷ [])

-- a filter gets a number from one on and below another, where numbers are dealt so
abbrev pub IsServedBy : (ℕ → ℕ) → ℕ → ℕ → ℕ → Type 0
IsServedBy dealt filter from until = (t : ℕ) × (from ≤ t) × (t < until) × (dealt t ≡ filter)

-- the filter is the champion of a number of host h from one on and below another
abbrev pub Serves : List (List Share) → ℕ → ℕ → ℕ → ℕ → Type 0
Serves map filter h from until = IsServedBy (champion map h) filter from until
