-- What filters have, by any measure of items.
use Rattle.std.specs.Prelude.{◌≡◌, ℕ, ◌+◌, if◌then◌else◌, List, ◌++◌, map, sum_by, All, Contains}
use Rattle.causal_deps.specs.declared.record.Record.{Record}
use Rattle.causal_deps.specs.declared.record.Item.{Item}
use Rattle.causal_deps.specs.declared.record.Item.TheVariants.{Local, External}
use Rattle.toid_filter.specs.declared.filter.Verdict.{Verdict}
use Rattle.toid_filter.specs.declared.filter.Verdict.TheVariants.{Passed, Held, Dropped}
use Rattle.toid_filter.specs.Filters.{FilterState, has_name, times_passed}

-- 1 for the record with this name
abbrev pub is_named : ℕ → ℕ → Item → ℕ
is_named h t (Local draft) = 0
is_named h t (External r) = if has_name h t r then 1 else 0

-- what a filter has: the records that it holds, and what it passed on
abbrev pub items_of : FilterState → List Item
items_of f = map External f.held ++ f.out

-- the sum of a measure over all that filters hold, and over all that they passed on
abbrev pub in_held : (Item → ℕ) → List FilterState → ℕ
in_held measure fs = sum_by (λ f. sum_by (λ r. measure (External r)) f.held) fs

abbrev pub in_out : (Item → ℕ) → List FilterState → ℕ
in_out measure fs = sum_by (λ f. sum_by measure f.out) fs

-- how often the filters passed number t of host h
abbrev pub passed : ℕ → ℕ → List FilterState → ℕ
passed h t fs = sum_by (times_passed h t) fs

-- what is added by a record that was taken: nothing where it was dropped
abbrev pub added_by : Verdict → Record → (Item → ℕ) → ℕ
added_by Dropped r measure = 0
added_by Held r measure = measure (External r)
added_by Passed r measure = measure (External r)

-- Between two states a filter took in what is added, and gave the records `given` away. By every measure it lost nothing and
-- made nothing; of each name it passed as many records on as it passed numbers more; and all that it has and gave is among `known`.
pub record LosesNothing (f : FilterState) (added : (Item → ℕ) → ℕ) (given : List Record) (known : List Item) (g : FilterState) : Type 0 where
  pub sums : (measure : Item → ℕ) → sum_by (λ r. measure (External r)) g.held + sum_by measure g.out + sum_by (λ r. measure (External r)) given ≡ sum_by (λ r. measure (External r)) f.held + sum_by measure f.out + added measure
  pub passing : (h t : ℕ) → sum_by (is_named h t) g.out + times_passed h t f ≡ sum_by (is_named h t) f.out + times_passed h t g
  pub each : All (Contains known) (items_of g ++ map External given)
