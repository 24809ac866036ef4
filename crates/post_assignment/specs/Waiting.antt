-- Values that wait, in order of arrival, and how they are found.
use Rattle.std.specs.Prelude.{◌≡◌, ℕ, ◌+◌, ◌<◌, ◌==◌, Bool, if◌then◌else◌, nat_lt, List, [], ◌∷◌, find, Option, Some, None, count_by, All, refl}
use Rattle.std.specs.Option.{option_map}
use Rattle.std.specs.Coded.{Coded, code_by, coded×, coded_ℕ, coded_list}
use Rattle.std.specs.Map.{keys_of, lookup}
use Rattle.std.specs.BTreeMap.{is_at}
use Rattle.std.specs.BinaryHeap.{IsHeap}
use Rattle.std.specs.Ordering.{nat_cmp}
use Rattle.std.specs.List.Sorted.{IsStrictlySortedBy}
use Rattle.std.specs.declared.cmp.Reverse.{Reverse}
use Rattle.post_assignment.specs.declared.wait_list.Waiting.{Waiting}

-- what contracts see of values that wait: the limit below which those that are ready have their bounds, and all of
-- them in order of arrival
pub record WaitState (T : Type 0) : Type 0 where
  pub limit : ℕ
  pub waiting : List (Waiting T)

abbrev pub waiting_code : {T : Type 0} → Coded T → Coded (Waiting T)
waiting_code {T} code = code_by (ℕ × T) (coded× coded_ℕ code) (λ w. (w.bound, w.value)) (λ p. record { bound = p.0; value = p.1 }) (λ _. refl)

-- a state is stored as the pair of its fields
abbrev pub wait_code : {T : Type 0} → Coded T → Coded (WaitState T)
wait_code {T} code = code_by (ℕ × List (Waiting T)) (coded× coded_ℕ (coded_list (waiting_code code))) (λ s. (s.limit, s.waiting)) (λ p. record { limit = p.0; waiting = p.1 }) (λ _. refl)

-- the bound of an arrival is below the position
pub record IsBoundBelow (lid : ℕ) (bound : Option ℕ) : Type 0 where
  pub value : ℕ
  pub is : bound ≡ Some value
  pub below : value < lid

-- how many arrivals of a number there may be, by its bound
abbrev pub present : Option ℕ → ℕ
present None = 0
present (Some bound) = 1

-- how often an arrival is ready
abbrev pub times_ready : ℕ → List (Reverse ℕ) → ℕ
times_ready a rs = count_by (λ r. r.0 == a) rs

-- how often an arrival stands among the bounds
abbrev pub times_indexed : ℕ → List (ℕ × ℕ) → ℕ
times_indexed a ks = count_by (λ k. k.1 == a) ks

-- each arrival that has a bound is ready or stands under its bound, once, and those that are ready have their bounds
-- below the limit
pub record IsSplit (bounds : ℕ → Option ℕ) (index : List (ℕ × ℕ)) (ready : List (Reverse ℕ)) (limit : ℕ) : Type 0 where
  pub once : (a : ℕ) → times_ready a ready + times_indexed a index ≡ present (bounds a)
  pub indexed : All (λ k. bounds k.1 ≡ Some k.0) index
  pub below : All (λ r. IsBoundBelow limit (bounds r.0)) ready

module _ {T : Type 0} where
  -- the value has its bound below the position
  abbrev pub is_below : ℕ → Waiting T → Bool
  is_below lid w = nat_lt w.bound lid

  -- the first that has its bound below the position
  abbrev pub first_below : ℕ → List (Waiting T) → Option (Waiting T)
  first_below lid ws = find (is_below lid) ws

  -- all but that one
  abbrev pub without_first_below : ℕ → List (Waiting T) → List (Waiting T)
  without_first_below lid [] = []
  without_first_below lid (w ∷ ws) = if is_below lid w then ws else w ∷ without_first_below lid ws

  -- the bound of an arrival
  abbrev pub bound_at : List (ℕ × Waiting T) → ℕ → Option ℕ
  bound_at entries a = option_map (λ (w : Waiting T). w.bound) (lookup (is_at (nat_cmp a)) entries)

  -- what holds of the fields of a list of waiting values: arrivals rise, all before the next one, each is found, and
  -- the first that is ready comes first
  pub record AreTied (entries : List (ℕ × Waiting T)) (index : List (ℕ × ℕ)) (ready : List (Reverse ℕ)) (limit arrived : ℕ) : Type 0 where
    pub sorted : IsStrictlySortedBy nat_cmp (keys_of entries)
    pub early : All (λ a. a < arrived) (keys_of entries)
    pub split : IsSplit (bound_at entries) index ready limit
    pub heap : IsHeap (λ x y. nat_cmp y.0 x.0) ready
