-- Epochs: from each start on, so many members own the positions in turn, a round at a time.
use Rattle.std.specs.Prelude.{◌≡◌, ◌≢◌, ℕ, ◌-◌, ◌/◌, ◌%◌, ◌^◌, ◌<◌, ◌≤◌, if◌then◌else◌, nat_le, nat_lt, List, [], ◌∷◌, ◌++◌, length, take, drop, slice_index_or, All}
use Rattle.flstore_rounds.specs.declared.epochs.Epoch.{Epoch}
use Rattle.cz_base.specs.declared.limits.TheConstants.{MEMBERS, NUMBERS_END, ROUND}

-- the length of a round, and the epochs by rising starts
pub record EpochList : Type 0 where
  pub round : ℕ
  pub list : List Epoch

-- what stands for an epoch that there is not
abbrev pub first_epoch : Epoch
first_epoch = record { start = 1; members = 1 }

-- the epoch at a place of a list
abbrev pub epoch_at : List Epoch → ℕ → Epoch
epoch_at es i = slice_index_or es i first_epoch

-- the last epoch that starts at or before p
abbrev pub epoch_from : Epoch → List Epoch → ℕ → Epoch
epoch_from found [] p = found
epoch_from found (e ∷ es) p = epoch_from (if nat_le e.start p then e else found) es p

-- the member that owns position p in an epoch
abbrev pub owner_in : ℕ → Epoch → ℕ → ℕ
owner_in round e p = ((p - e.start) / round) % e.members

-- Owner: the member that owns position p
abbrev pub owner : EpochList → ℕ → ℕ
owner t p = owner_in t.round (epoch_from first_epoch t.list p) p

-- q is the least position of member m at or above p
pub record IsNextOwn (t : EpochList) (m p q : ℕ) : Type 0 where
  pub above : p ≤ q
  pub own : owner t q ≡ m
  pub least : (k : ℕ) → p ≤ k → k < q → owner t k ≢ m

-- the epochs that a list has and a shorter one lacks
abbrev pub later_than : EpochList → EpochList → List Epoch
later_than e t = drop (length e.list) t.list

-- e is the beginning of t
pub record IsPrefix (e t : EpochList) : Type 0 where
  pub round : e.round ≡ t.round
  pub shorter : length e.list ≤ length t.list
  pub same : e.list ≡ take (length e.list) t.list

-- position p is dealt alike by e and by t: each epoch that e lacks starts above it
abbrev pub IsSettled : EpochList → EpochList → ℕ → Type 0
IsSettled t e p = All (λ n. p < n.start) (later_than e t)

-- the longer of two lists
abbrev pub longer : EpochList → EpochList → EpochList
longer e f = if nat_lt (length e.list) (length f.list) then f else e

-- one epoch more
abbrev pub with_epoch : EpochList → Epoch → EpochList
with_epoch t e = record t { list = t.list ++ e ∷ [] }

-- the last epoch
abbrev pub last_from : Epoch → List Epoch → Epoch
last_from found [] = found
last_from found (e ∷ es) = last_from e es

abbrev pub last_epoch : EpochList → Epoch
last_epoch t = last_from first_epoch t.list

-- what every list of epochs keeps: the first epoch starts at 1, starts and members rise, and numbers are in their ranges
pub record IsEpochList (t : EpochList) : Type 0 where
  pub round_from : 1 ≤ t.round
  pub round_to : t.round ≤ ROUND
  pub some : 1 ≤ length t.list
  pub first : (epoch_at t.list 0).start ≡ 1
  pub lids : All (λ e. e.start < NUMBERS_END) t.list
  pub some_members : All (λ e. 1 ≤ e.members) t.list
  pub few_members : All (λ e. e.members ≤ MEMBERS) t.list
  pub starts_rise : (i j : ℕ) → i < j → j < length t.list → (epoch_at t.list i).start < (epoch_at t.list j).start
  pub members_rise : (i j : ℕ) → i < j → j < length t.list → (epoch_at t.list i).members < (epoch_at t.list j).members
