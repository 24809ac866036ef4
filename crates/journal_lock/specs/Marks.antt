-- The part of the rule on marks: no mark passes a position of its maintainer that is not placed.
use Rattle.std.specs.Prelude.{◌≡◌, ◌⊎◌, ℕ, zero, suc, ◌+◌, ◌/◌, ◌%◌, ◌<◌, ◌≤◌, List, [], ◌∷◌, slice_index, Option, Some, None}
use Rattle.cz_base.specs.declared.limits.TheConstants.{DATACENTRES, MEMBERS}
use Rattle.flstore_rounds.specs.declared.epochs.Epoch.{Epoch}
use Rattle.flstore_rounds.specs.Epochs.{EpochList, owner}
use Rattle.journal_lock.specs.declared.duty.Position.{Position}
use Rattle.journal_lock.specs.declared.law.Note.{Note}
use Rattle.journal_lock.specs.declared.law.View.{View}
use Rattle.journal_lock.specs.declared.words.TheConstants.{SPAN}
use Rattle.journal_lock.specs.Duties.{place, place_at, has}
use Rattle.journal_lock.specs.Law.{total}
use Rattle.journal_lock.specs.Words.{mark_word, epoch_word}
use Rattle.journal_lock.specs.Finds.{best, ended}

-- the epoch of a word that holds one
abbrev pub epoch_of : ℕ → Epoch
epoch_of value = record { start = value / SPAN; members = value % SPAN }

-- what a word of epochs says
abbrev pub decoded : ℕ → Option Epoch
decoded zero = None
decoded (suc value) = Some (epoch_of (suc value))

-- the epochs of a word and those after it, none where it holds none
abbrev pub then_epochs : ℕ → List Epoch → List Epoch
then_epochs zero es = []
then_epochs (suc value) es = epoch_of (suc value) ∷ es

-- the epochs of n words from w on, up to the first that holds none
abbrev pub epochs_by : (ℕ → ℕ) → ℕ → ℕ → List Epoch
epochs_by f w zero = []
epochs_by f w (suc n) = then_epochs (f w) (epochs_by f (w + 1) n)

-- the epoch list of a datacentre, where f has the words
abbrev pub list_by : ℕ → (ℕ → ℕ) → ℕ → EpochList
list_by round f d = record { round = round; list = epochs_by f (epoch_word d 0) MEMBERS }

-- how often a position is placed
abbrev pub placed_by : ℕ → List (List Position) → ℕ
placed_by x qs = total (λ q. has place x q) qs

pub record Marked (round : ℕ) (words : List ℕ) (qs : List (List Position)) : Type 0 where
  pub filled : (d m p : ℕ) → d < DATACENTRES → m < MEMBERS → 1 ≤ p → p < slice_index words (mark_word d m) → owner (list_by round (slice_index words) d) p ≡ m → 0 < placed_by (place_at d p) qs

abbrev pub placed_of : View → List Position
placed_of v = v.names.placed

-- The mark of maintainer m may rise to this one: the notes tell the first epochs, each later one starts above the positions below the mark, the pass has placed those of them that m owns, and the mark is 1 or one more than such a position.
pub record MayRise (round d m mark : ℕ) (notes : List Note) (placed : List Position) : Type 0 where
  pub count : ℕ
  pub all : (k : ℕ) → k < count → 0 < best (epoch_word d k) notes
  pub later : (count ≡ MEMBERS) ⊎ (mark ≤ ended (epoch_word d count) notes + 1)
  pub own : (p : ℕ) → 1 ≤ p → p < mark → owner (list_by round (λ w. best w notes) d) p ≡ m → 0 < has place (place_at d p) placed
  pub reached : (mark ≤ 1) ⊎ ((p : ℕ) × (1 ≤ p) × (mark ≡ p + 1) × (owner (list_by round (λ w. best w notes) d) p ≡ m))
