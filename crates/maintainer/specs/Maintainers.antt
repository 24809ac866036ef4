-- Maintainers: each keeps the values at the positions that it owns.
use Rattle.std.specs.Prelude.{◌≡◌, ℕ, zero, suc, ◌+◌, ◌-◌, ◌<◌, ◌≤◌, ◌==◌, ◌&&◌, max, not, Bool, if◌then◌else◌, nat_lt, nat_le, List, [], ◌∷◌, length, filter, find, Option, Some, None, slice_get, slice_index_or, count_by, fold, All, refl}
use Rattle.std.specs.List.{list_any}
use Rattle.std.specs.Coded.{Coded, code_by, coded×, coded_ℕ, coded_list}
use Rattle.flstore_rounds.specs.declared.epochs.Epoch.{Epoch}
use Rattle.flstore_rounds.specs.Epochs.{EpochList, owner, longer, IsPrefix, IsSettled}
use Rattle.causal_deps.specs.declared.answers.Shown.{Shown}
use Rattle.causal_deps.specs.declared.answers.Shown.TheVariants.{Filled, Gone, Empty}
use Rattle.maintainer.specs.declared.slot.Slot.{Slot}
use Rattle.maintainer.specs.Marks.{IsMarkOf}
use Rattle.cz_base.specs.declared.limits.TheConstants.{NUMBERS_END}

-- What contracts see of a maintainer: its number, its epoch list, its values by rising position, the positions of
-- which the value was let go, rising too, and how many more values fit with no allocation.
pub record MaintainerState (T : Type 0) : Type 0 where
  pub number : ℕ
  pub epochs : EpochList
  pub entries : List (Slot T)
  pub gone : List ℕ
  pub spare : ℕ

abbrev epoch_code : Coded Epoch
epoch_code = code_by (ℕ × ℕ) (coded× coded_ℕ coded_ℕ) (λ e. (e.start, e.members)) (λ p. record { start = p.0; members = p.1 }) (λ _. refl)

abbrev epochs_code : Coded EpochList
epochs_code =
    code_by (ℕ × List Epoch) (coded× coded_ℕ (coded_list epoch_code)) (λ e. (e.round, e.list))
    (λ p. record { round = p.0; list = p.1 }) (λ _. refl)

abbrev slot_code : {T : Type 0} → Coded T → Coded (Slot T)
slot_code {T} code = code_by (ℕ × T) (coded× coded_ℕ code) (λ s. (s.lid, s.value)) (λ p. record { lid = p.0; value = p.1 }) (λ _. refl)

-- a state is stored as the tuple of its fields
abbrev pub state_code : {T : Type 0} → Coded T → Coded (MaintainerState T)
state_code {T} code =
    code_by (ℕ × (EpochList × (List (Slot T) × (List ℕ × ℕ)))) (coded× coded_ℕ (coded× epochs_code (coded× (coded_list (slot_code code)) (coded× (coded_list coded_ℕ) coded_ℕ))))
    (λ m. (m.number, (m.epochs, (m.entries, (m.gone, m.spare)))))
    (λ p. record { number = p.0; epochs = p.1.0; entries = p.1.1.0; gone = p.1.1.1.0; spare = p.1.1.1.1 }) (λ _. refl)

-- own position p, of the member of that number by the epoch list
pub record IsOwnedBy (epochs : EpochList) (number p : ℕ) : Type 0 where
  pub first : 1 ≤ p
  pub owner : owner epochs p ≡ number

-- positions rise along the list
pub record AreRisingPositions (ps : List ℕ) : Type 0 where
  pub below : (i j d : ℕ) → i < j → j < length ps → slice_index_or ps i d < slice_index_or ps j d

-- the position in its place
abbrev pub put_position : ℕ → List ℕ → List ℕ
put_position p [] = p ∷ []
put_position p (q ∷ qs) = if nat_lt p q then p ∷ q ∷ qs else q ∷ put_position p qs

-- some position is in the range from low up to but not at top
abbrev pub is_some_within : ℕ → ℕ → List ℕ → Bool
is_some_within low top ps = list_any (λ p. nat_le low p && nat_lt p top) ps

-- how often p is among the positions
abbrev pub times : ℕ → List ℕ → ℕ
times p ps = count_by (λ q. q == p) ps

module _ {T : Type 0} where
  -- how often p is the position of an entry
  abbrev pub times_in : ℕ → List (Slot T) → ℕ
  times_in p es = count_by (λ e. e.lid == p) es

  -- how often the maintainer has p filled, by a value or as gone
  abbrev pub times_filled : ℕ → MaintainerState T → ℕ
  times_filled p m = times_in p m.entries + times p m.gone

  -- p has a value or is gone
  abbrev pub IsFilledBy : List (Slot T) → List ℕ → ℕ → Type 0
  IsFilledBy entries gone p = 1 ≤ times_in p entries + times p gone

  -- the maintainer owns position p
  abbrev pub IsOwn : MaintainerState T → ℕ → Type 0
  IsOwn m p = IsOwnedBy m.epochs m.number p

  -- the maintainer has position p filled
  abbrev pub IsFilled : MaintainerState T → ℕ → Type 0
  IsFilled m p = IsFilledBy m.entries m.gone p

  -- Mark: one more than the greatest own position up to which each own one is filled, or 1.
  abbrev pub IsMark : MaintainerState T → ℕ → Type 0
  IsMark m k = IsMarkOf (IsOwn m) (IsFilled m) k

  -- the value that stands at p
  abbrev pub value_at : ℕ → List (Slot T) → Option T
  value_at p [] = None
  value_at p (e ∷ es) = if e.lid == p then Some e.value else value_at p es

  -- the first entry above p
  abbrev pub entry_after : ℕ → List (Slot T) → Option (Slot T)
  entry_after p es = find (λ e. nat_lt p e.lid) es

  -- next is the least position above p at which a value stands
  pub record IsNextFilled (p : ℕ) (es : List (Slot T)) (next : ℕ) : Type 0 where
    pub past : p < next
    pub there : (value : T) × (value_at next es ≡ Some value)
    pub least : (q : ℕ) (value : T) → p < q → value_at q es ≡ Some value → next ≤ q

  -- the value that is shown
  abbrev pub shown_value : Shown T → Option T
  shown_value (Filled value) = Some value.now
  shown_value Gone = None
  shown_value Empty = None

  -- the entry in its place by position
  abbrev pub put_in : Slot T → List (Slot T) → List (Slot T)
  put_in e [] = e ∷ []
  put_in e (x ∷ xs) = if nat_lt e.lid x.lid then e ∷ x ∷ xs else x ∷ put_in e xs

  -- with no value yet
  abbrev pub empty : ℕ → EpochList → MaintainerState T
  empty number epochs = record { number = number; epochs = epochs; entries = []; gone = []; spare = 0 }

  -- with a value at p, which takes one spare place
  abbrev pub placed : MaintainerState T → ℕ → T → MaintainerState T
  placed m p value = record m { entries = put_in (record { lid = p; value = value }) m.entries; spare = m.spare - 1 }

  -- with the longer list
  abbrev pub learned : MaintainerState T → EpochList → MaintainerState T
  learned m e = record m { epochs = longer m.epochs e }

  -- the value at p is let go, and p is gone
  abbrev pub collected : MaintainerState T → ℕ → MaintainerState T
  collected m p = record m { entries = filter (λ e. not (e.lid == p)) m.entries; gone = put_position p m.gone }

  -- with several values placed, one after another
  abbrev pub moved_in : MaintainerState T → List (Slot T) → MaintainerState T
  moved_in m es = fold (λ n e. placed n e.lid e.value) m es

  -- without the spare places, of which no definition speaks
  abbrev pub plain : MaintainerState T → MaintainerState T
  plain m = record m { spare = 0 }

  -- the entry has what stands in the list at its position
  pub record IsEntryOf (log : List T) (e : Slot T) : Type 0 where
    pub first : 1 ≤ e.lid
    pub stands : slice_get log (e.lid - 1) ≡ Some e.value

  -- positions rise along the entries
  pub record AreRising (es : List (Slot T)) : Type 0 where
    pub below : (i j : ℕ) (d : Slot T) → i < j → j < length es → (slice_index_or es i d).lid < (slice_index_or es j d).lid

  -- a finite map from own positions to values: each has at most one, and all are in their range
  pub record AreKept (epochs : EpochList) (number : ℕ) (es : List (Slot T)) : Type 0 where
    pub rising : AreRising es
    pub own : All (λ e. IsOwnedBy epochs number e.lid) es
    pub small : All (λ e. e.lid < NUMBERS_END) es

  -- positions of which the value was let go: each once, in its range, and with no value
  pub record AreLetGo (es : List (Slot T)) (gone : List ℕ) : Type 0 where
    pub rising : AreRisingPositions gone
    pub small : All (λ p. p < NUMBERS_END) gone
    pub apart : All (λ p. times_in p es ≡ 0) gone

  -- what holds of a maintainer's fields: its slots are such a map, other positions are gone, and its mark is theirs
  pub record IsSound (number : ℕ) (epochs : EpochList) (slots : List (Slot T)) (gone : List ℕ) (k : ℕ) : Type 0 where
    pub kept : AreKept epochs number slots
    pub let_go : AreLetGo slots gone
    pub mark : IsMarkOf (IsOwnedBy epochs number) (IsFilledBy slots gone) k

  -- the maintainer owns position p, by its own list and by the whole one
  pub record Owns (t : EpochList) (m : MaintainerState T) (p : ℕ) : Type 0 where
    pub own : owner m.epochs p ≡ m.number
    pub settled : IsSettled t m.epochs p

  -- each position that it has filled is its own, by every list
  pub record OwnsAll (t : EpochList) (m : MaintainerState T) : Type 0 where
    pub known : IsPrefix m.epochs t
    pub entries : All (λ e. Owns t m e.lid) m.entries
    pub gone : All (Owns t m) m.gone

  -- the greatest position that it has filled
  abbrev pub greatest : MaintainerState T → ℕ
  greatest m = fold (λ a e. max a e.lid) (fold max 0 m.gone) m.entries

  -- from position p on, for so many positions: one more than the last own one before the first own gap
  abbrev pub mark_from : MaintainerState T → ℕ → ℕ → ℕ → ℕ
  mark_from m zero p mark = mark
  mark_from m (suc n) p mark =
      if owner m.epochs p == m.number
      then (if nat_lt 0 (times_filled p m) then mark_from m n (p + 1) (p + 1) else mark)
      else mark_from m n (p + 1) mark

  -- the mark as a number: no mark is above the greatest filled position by more than one
  abbrev pub mark_of : MaintainerState T → ℕ
  mark_of m = mark_from m (greatest m) 1 1
