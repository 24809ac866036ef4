-- What a world leaves at its datacentres: what stands at each position, and the tables.
use Rattle.std.specs.Prelude.{ℕ, ◌+◌, ◌==◌, Bool, if◌then◌else◌, List, [], ◌∷◌, map}
use Rattle.std.specs.List.{list_any, range_with_len}
use Rattle.causal_deps.specs.declared.record.Record.{Record}
use Rattle.abstract_log.specs.declared.left.LeftAt.{LeftAt}
use Rattle.abstract_log.specs.declared.left.Row.{Row}
use Rattle.abstract_log.specs.declared.left.Row.TheVariants.{Kept, Gone}
use Rattle.abstract_log.specs.declared.world.World.{World}
use Rattle.abstract_log.specs.Worlds.{log_of, table_of, gone_of}

-- the position is among those that were collected
abbrev pub is_collected : List ℕ → ℕ → Bool
is_collected gone p = list_any (λ q. q == p) gone

-- what stands at position p of a log that has r there: the record, or its name where it was collected
abbrev pub row_at : List ℕ → ℕ → Record → Row
row_at gone p r = if is_collected gone p then Gone r.host r.toid else Kept r

-- what stands where these records are, from position p on
abbrev pub rows_from : List ℕ → ℕ → List Record → List Row
rows_from gone p [] = []
rows_from gone p (r ∷ rs) = row_at gone p r ∷ rows_from gone (p + 1) rs

-- what stands at each position of a log
abbrev pub rows_of : List Record → List ℕ → List Row
rows_of log gone = rows_from gone 1 log

-- what a world has at datacentre d, and at each
abbrev pub left_at : World → ℕ → LeftAt
left_at w d = record { rows = rows_of (log_of w d) (gone_of w d); table = table_of w d }

abbrev pub left_of : World → List LeftAt
left_of w = map (left_at w) (range_with_len 0 w.workload.dcs)
