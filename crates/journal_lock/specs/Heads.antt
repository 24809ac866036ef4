-- The part of the rule on epoch lists and marks together: what is told of them is true, so that a log has no gap up to its head.
use Rattle.std.specs.Prelude.{◌≡◌, ◌⊎◌, ℕ, zero, suc, ◌+◌, ◌-◌, ◌%◌, ◌<◌, ◌≤◌, ◌==◌, cond, Bool, true, List, [], ◌∷◌, ◌++◌, slice_index, Option}
use Rattle.cz_base.specs.declared.limits.TheConstants.{DATACENTRES, MEMBERS}
use Rattle.flstore_rounds.specs.Epochs.{EpochList, IsEpochList, IsPrefix, owner}
use Rattle.flstore_rounds.specs.Heads.{Pair, IsTruePair, head, joined, single}
use Rattle.atomic_table.specs.Table.{Step}
use Rattle.abstract_log.specs.declared.event.Event.{Event}
use Rattle.abstract_log.specs.declared.command.Workload.{Workload}
use Rattle.journal_lock.specs.declared.duty.Position.{Position}
use Rattle.journal_lock.specs.declared.law.Note.{Note}
use Rattle.journal_lock.specs.declared.law.Note.TheVariants.{Met, Length, Found, Ended, Told}
use Rattle.journal_lock.specs.declared.words.TheConstants.{EPOCHS}
use Rattle.journal_lock.specs.Duties.{number, place_at, datacentre, has, stamped}
use Rattle.journal_lock.specs.Law.{Book, Sat}
use Rattle.journal_lock.specs.Notes.{EachNote, with_notes, noted}
use Rattle.journal_lock.specs.Words.{mark_word, epoch_word, dc_of, guard}
use Rattle.journal_lock.specs.Finds.{best, read_notes}
use Rattle.journal_lock.specs.Marks.{list_by, placed_by}

abbrev pub pair_of : EpochList → List ℕ → Pair
pair_of epochs marks = record { epochs = epochs; marks = marks }

-- what n words from w on hold, where f has the words
abbrev pub marks_by : (ℕ → ℕ) → ℕ → ℕ → List ℕ
marks_by f w zero = []
marks_by f w (suc n) = f w ∷ marks_by f (w + 1) n

-- what notes tell of a datacentre: its epochs, up to the first that none tells of, and its marks
abbrev pub known_list : ℕ → ℕ → List Note → EpochList
known_list round d notes = list_by round (λ w. best w notes) d

abbrev pub known_marks : ℕ → List Note → List ℕ
known_marks d notes = marks_by (λ w. best w notes) (mark_word d 0) MEMBERS

-- Settled pair: all that was told of the epochs and the marks of a datacentre, together.
abbrev pub settle : ℕ → Note → Pair → Pair
settle d (Met count) v = v
settle d (Length e n) v = v
settle d (Found w value) v = v
settle d (Ended w len) v = v
settle d (Told e epochs marks) v = cond (e == d) (joined (pair_of epochs marks) v) v

abbrev pub settled : ℕ → ℕ → List Note → Pair
settled round d [] = pair_of (record { round = round; list = [] }) []
settled round d (x ∷ xs) = settle d x (settled round d xs)

-- position p of datacentre d is placed
abbrev pub IsPlaced : List (List Position) → ℕ → ℕ → Type 0
IsPlaced qs d p = 0 < placed_by (place_at d p) qs

-- a mark of maintainer m is 1 at most, or one more than a placed position that m owns
abbrev pub Reaches : EpochList → (ℕ → Type 0) → ℕ → ℕ → Type 0
Reaches epochs P m mark = (mark ≤ 1) ⊎ ((p : ℕ) × (mark ≡ p + 1) × P p × (owner epochs p ≡ m))

-- the note is true of the words and of what is placed: a mark is reached, and what was told is a true pair
abbrev pub Agrees : ℕ → List ℕ → (ℕ → ℕ → Type 0) → Note → Type 0
Agrees round words P (Met count) = Unit {0}
Agrees round words P (Length d n) = Unit {0}
Agrees round words P (Found w value) = (d m : ℕ) → d < DATACENTRES → m < MEMBERS → w ≡ mark_word d m → Reaches (list_by round (slice_index words) d) (P d) m value
Agrees round words P (Ended w len) = Unit {0}
Agrees round words P (Told d epochs marks) = IsTruePair (list_by round (slice_index words) d) (P d) (pair_of epochs marks)

-- each datacentre has a list of epochs, each mark is reached, and each note of each pass is true of these
pub record Paired (dcs round : ℕ) (words : List ℕ) (qs : List (List Position)) (ns : List (List Note)) : Type 0 where
  pub lists : (d : ℕ) → d < dcs → IsEpochList (list_by round (slice_index words) d)
  pub reached : (d m : ℕ) → d < DATACENTRES → m < MEMBERS → Reaches (list_by round (slice_index words) d) (IsPlaced qs d) m (slice_index words (mark_word d m))
  pub each : EachNote (Agrees round words (IsPlaced qs)) ns

-- the log of each datacentre reaches the head that notes settle
abbrev pub HeadsStand : ℕ → List Note → List Event → Type 0
HeadsStand round notes log = (d : ℕ) → d < DATACENTRES → head (settled round d notes) ≤ has datacentre d (stamped log)

-- Two lists of notes together settle no less than either.
abbrev pub HeadsJoin : ℕ → List Note → Type 0
HeadsJoin round notes = (d : ℕ) (xs ys : List Note) → d < DATACENTRES → notes ≡ xs ++ ys → (head (settled round d xs) ≤ head (settled round d notes)) × (head (settled round d ys) ≤ head (settled round d notes))

-- What is told after these notes is all that they settle, and no less: its list goes on from theirs, and its head is that of all.
pub record Settles (round d : ℕ) (notes : List Note) (epochs : EpochList) (marks : List ℕ) : Type 0 where
  pub later : IsPrefix (settled round d notes).epochs epochs
  pub no_less : head (settled round d notes) ≤ head (pair_of epochs marks)
  pub whole : (settled round d (Told d epochs marks ∷ notes)).epochs ≡ epochs
  pub head_is : head (settled round d (Told d epochs marks ∷ notes)) ≡ head (pair_of epochs marks)

-- what notes tell of a datacentre is its whole list, and all that they settle
pub record IsTold (round dcs d : ℕ) (notes : List Note) : Type 0 where
  pub settles : Settles round d notes (known_list round d notes) (known_marks d notes)
  pub list : d < dcs → IsEpochList (known_list round d notes)

-- whether the list of epochs ends at this word: it holds none, or it is the last that there may be
abbrev pub is_end : ℕ → ℕ → Bool
is_end w zero = true
is_end w (suc value) = (w - EPOCHS) % MEMBERS == MEMBERS - 1

-- what is known of a datacentre is told
abbrev pub told : ℕ → ℕ → List Note → List Note
told round d notes = Told d (known_list round d notes) (known_marks d notes) ∷ notes

-- the notes after a look at the word of an epoch: where the list ends, it is told with the marks that were known
abbrev pub tell_notes : ℕ → ℕ → ℕ → ℕ → List Note → List Note
tell_notes round w len value notes = cond (is_end w value) (told round (dc_of w) (read_notes w len value ++ notes)) (read_notes w len value ++ notes)

abbrev pub Tells : Workload → ℕ → Step (Option Book) → Sat → ℕ → Sat → Type 0
Tells load round st m found m' =
    (EPOCHS ≤ st.word → 0 < best st.word m.0.notes → found ≡ best st.word m.0.notes)
    × (0 < has number (guard st.word) m.0.hold.now.duties → found ≡ best st.word m.0.notes)
    × (is_end st.word found ≡ true → IsTold round load.dcs (dc_of st.word) (read_notes st.word (has datacentre (dc_of st.word) (stamped m.0.hold.now.seen)) found ++ m.0.notes))
    × (m' ≡ (with_notes m.0 (tell_notes round st.word (has datacentre (dc_of st.word) (stamped m.0.hold.now.seen)) found m.0.notes), m.1))

-- the word of an epoch is as the pass knows it, which has the token and so knows the whole list
abbrev pub Sees : ℕ → Step (Option Book) → Sat → ℕ → Sat → Type 0
Sees round st m found m' =
    (0 < has number (guard st.word) m.0.hold.now.duties
    → (found ≡ best st.word m.0.notes) × IsEpochList (known_list round (dc_of st.word) m.0.notes) × (found ≡ 0 → (j : ℕ) → st.word ≤ epoch_word (dc_of st.word) j → j < MEMBERS → best (epoch_word (dc_of st.word) j) m.0.notes ≡ 0))
    × (m' ≡ m)

-- a mark was raised: the pass tells of it with the list that it knows
abbrev pub risen_notes : ℕ → ℕ → ℕ → ℕ → List Note → List Note
risen_notes round d m mark notes = Told d (known_list round d notes) (single (known_list round d notes) m mark).marks ∷ Found (mark_word d m) mark ∷ notes

-- the datacentre and the maintainer of the word of a mark
abbrev pub Raises : ℕ → Step (Option Book) → Sat → ℕ → Sat → Type 0
Raises round st m found m' = (d k : ℕ) → d < DATACENTRES → k < MEMBERS → st.word ≡ mark_word d k → m' ≡ (with_notes m.0 (risen_notes round d k st.first m.0.notes), m.1)
