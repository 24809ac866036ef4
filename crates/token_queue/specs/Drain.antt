-- Draining a list of items into a log.
use Rattle.std.specs.Prelude.{◌≡◌, ℕ, zero, suc, Bool, List, [], ◌∷◌, ◌++◌, length, slice_set}
use Rattle.std.specs.Option.{option_map_or}
use Rattle.causal_deps.specs.declared.record.Record.{Record}
use Rattle.causal_deps.specs.declared.record.Item.{Item}
use Rattle.causal_deps.specs.Logs.{count_of}
use Rattle.token_queue.specs.Items.{IsItemReadyBy, is_ready_by, is_ready, record_by, record_from, first_out}

-- the items that went into the log, the records that they became, both in order, and what is left
pub record Drained : Type 0 where
  pub stamped : List Item
  pub records : List Record
  pub deferred : List Item

abbrev pub all_deferred : List Item → Drained
all_deferred items = record { stamped = []; records = []; deferred = items }

abbrev pub with_first : Item → Record → Drained → Drained
with_first item r later = record { stamped = item ∷ later.stamped; records = r ∷ later.records; deferred = later.deferred }

-- whether the item may stand next in the log, and the record that it becomes there
abbrev pub is_ready_on : List Record → Item → Bool
is_ready_on log item = is_ready_by (λ h. count_of log h) item

abbrev pub record_on : ℕ → List Record → Item → Record
record_on d log item = record_by d (λ h. count_of log h) item

-- so many times at most: the first ready item in list order leaves the items and goes last in the log
abbrev pub drain_at_most : ℕ → ℕ → List Record → List Item → Drained
drain_at_most zero d log items = all_deferred items
drain_at_most (suc n) d log items =
    option_map_or (λ found. with_first found.0 (record_on d log found.0) (drain_at_most n d (log ++ record_on d log found.0 ∷ []) found.1))
    (first_out (is_ready_on log) items) (all_deferred items)

-- Drain at datacentre d: again and again, until none of the items is ready.
abbrev pub drain : ℕ → List Record → List Item → Drained
drain d log items = drain_at_most (length items) d log items

-- the same where the counts of the log are kept, and not the log
abbrev pub drain_by_at_most : ℕ → ℕ → List ℕ → List Item → Drained
drain_by_at_most zero d counts items = all_deferred items
drain_by_at_most (suc n) d counts items =
    option_map_or (λ found. with_first found.0 (record_from d counts found.0)
    (drain_by_at_most n d (slice_set counts (record_from d counts found.0).host (record_from d counts found.0).toid) found.1))
    (first_out (is_ready counts) items) (all_deferred items)

abbrev pub drain_by : ℕ → List ℕ → List Item → Drained
drain_by d counts items = drain_by_at_most (length items) d counts items

-- the counts where these records are counted too
abbrev pub counts_with : List ℕ → List Record → List ℕ
counts_with counts [] = counts
counts_with counts (r ∷ rs) = counts_with (slice_set counts r.host r.toid) rs

-- Each item is ready on the log so far, and goes last in it as its record.
abbrev pub AreSteps : ℕ → List Record → List Item → List Record → Type 0
AreSteps d log [] [] = Unit {0}
AreSteps d log [] (r ∷ rs) = ⊥
AreSteps d log (item ∷ items) [] = ⊥
AreSteps d log (item ∷ items) (r ∷ rs) =
    IsItemReadyBy (λ h. count_of log h) item × ((r ≡ record_on d log item) × AreSteps d (log ++ r ∷ []) items rs)
