-- Items in lists: which of them may stand next in a log, and which record each becomes there.
use Rattle.std.specs.Prelude.{◌≡◌, ℕ, suc, ◌+◌, ◌<◌, ◌==◌, ◌&&◌, ◌⊎◌, Bool, true, if◌then◌else◌, nat_le, List, [], ◌∷◌, length, Option, Some, None, slice_index, slice_set}
use Rattle.causal_deps.specs.declared.record.Record.{Record}
use Rattle.causal_deps.specs.declared.record.Item.{Item}
use Rattle.causal_deps.specs.declared.record.Item.TheVariants.{Local, External}
use Rattle.causal_deps.specs.Logs.{IsReadyBy, IsDraftReadyBy, sealed}

-- Readiness of an item, where so many records of each host are: the record is the next one of its host, and all that
-- the record or the draft depends on is counted.
abbrev pub IsItemReadyBy : (ℕ → ℕ) → Item → Type 0
IsItemReadyBy counts (Local draft) = IsDraftReadyBy counts draft
IsItemReadyBy counts (External r) = IsReadyBy counts r

-- whether each entry is at most the count of its datacentre
abbrev pub covers_by : List ℕ → (ℕ → ℕ) → Bool
covers_by [] counts = true
covers_by (x ∷ xs) counts = nat_le x (counts 0) && covers_by xs (λ g. counts (suc g))

-- whether the item is ready
abbrev pub is_ready_by : (ℕ → ℕ) → Item → Bool
is_ready_by counts (Local draft) = covers_by draft.dep counts
is_ready_by counts (External r) = (r.toid == (counts r.host + 1)) && covers_by (slice_set r.dep r.host 0) counts

-- the record that an item becomes at datacentre d: a draft becomes the next one of d
abbrev pub record_by : ℕ → (ℕ → ℕ) → Item → Record
record_by d counts (Local draft) = sealed draft d (counts d + 1)
record_by d counts (External r) = r

-- the same by a list of counts
abbrev pub is_ready : List ℕ → Item → Bool
is_ready counts item = is_ready_by (λ h. slice_index counts h) item

abbrev pub record_from : ℕ → List ℕ → Item → Record
record_from d counts item = record_by d (λ h. slice_index counts h) item

-- the item is of so many datacentres
abbrev pub FitsItem : ℕ → Item → Type 0
FitsItem dcs (Local draft) = length draft.dep ≡ dcs
FitsItem dcs (External r) = (r.host < dcs) × (length r.dep ≡ dcs)

abbrev pub rest_behind : {X : Type 0} → X → Option (X × List X) → Option (X × List X)
rest_behind x None = None
rest_behind x (Some found) = Some (found.0, x ∷ found.1)

-- the first element that passes, and the list without it
abbrev pub first_out : {X : Type 0} → (X → Bool) → List X → Option (X × List X)
first_out test [] = None
first_out test (x ∷ xs) = if test x then Some (x, xs) else rest_behind x (first_out test xs)

-- xs are some of ys, in their order
abbrev pub AreSomeOf : {X : Type 0} → List X → List X → Type 0
AreSomeOf [] ys = Unit {0}
AreSomeOf (x ∷ xs) [] = ⊥
AreSomeOf (x ∷ xs) (y ∷ ys) = ((x ≡ y) × AreSomeOf xs ys) ⊎ AreSomeOf (x ∷ xs) ys
