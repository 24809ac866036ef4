-- The part of the rule on the words of marks and epochs, and what its steps tell.
use Rattle.std.specs.Prelude.{◌≡◌, ◌⊎◌, ℕ, zero, suc, ◌-◌, ◌/◌, ◌+◌, ◌<◌, ◌≤◌, ◌==◌, cond, nat_le, max, List, [], ◌∷◌, ◌++◌, length, slice_index, Option}
use mathlib.Core.Option.{some}
use lib.ListN.{get_elem?}
use Rattle.atomic_table.specs.Table.{Step}
use Rattle.abstract_log.specs.declared.event.Event.{Event}
use Rattle.journal_lock.specs.declared.duty.Duty.{Duty}
use Rattle.journal_lock.specs.declared.law.Note.{Note}
use Rattle.cz_base.specs.declared.limits.TheConstants.{DATACENTRES, MEMBERS}
use Rattle.journal_lock.specs.declared.words.TheConstants.{MARKS, EPOCHS, SPAN}
use Rattle.journal_lock.specs.declared.law.Note.TheVariants.{Met, Length, Found, Ended, Told}
use Rattle.journal_lock.specs.declared.law.View.{View}
use Rattle.journal_lock.specs.Duties.{number, datacentre, has, stamped}
use Rattle.journal_lock.specs.Law.{Book, Sat}
use Rattle.journal_lock.specs.Notes.{AllNotes, with_notes, noted}
use Rattle.journal_lock.specs.Words.{mark_word, epoch_word, dc_of, guard}

-- what a note says of a word
abbrev pub said : ℕ → Note → ℕ
said w (Met count) = 0
said w (Length d n) = 0
said w (Found u value) = cond (u == w) value 0
said w (Ended u len) = 0
said w (Told d epochs marks) = cond (nat_le (mark_word d 0) w) (slice_index marks (w - mark_word d 0)) 0

-- the most that notes say of a word
abbrev pub best : ℕ → List Note → ℕ
best w [] = 0
best w (x ∷ xs) = max (said w x) (best w xs)

-- the length above which epochs start from the word w on, as notes tell
abbrev pub floor : ℕ → Note → ℕ
floor w (Met count) = 0
floor w (Length d n) = 0
floor w (Found u value) = 0
floor w (Ended u len) = cond (u == w) len 0
floor w (Told d epochs marks) = 0

abbrev pub ended : ℕ → List Note → ℕ
ended w [] = 0
ended w (x ∷ xs) = max (floor w x) (ended w xs)

-- no epoch, or one that starts above p
abbrev pub IsLater : ℕ → ℕ → Type 0
IsLater p value = (value ≡ 0) ⊎ (p < value / SPAN)

-- the note is true of the words: a mark has not fallen since, and an epoch is still the same
abbrev pub Stands : List ℕ → Note → Type 0
Stands words (Met count) = Unit {0}
Stands words (Length d n) = Unit {0}
Stands words (Found w value) = (MARKS ≤ w) × (value ≤ slice_index words w) × (EPOCHS ≤ w → 0 < value → slice_index words w ≡ value)
Stands words (Ended w len) = (d k j : ℕ) → w ≡ epoch_word d k → k ≤ j → j < MEMBERS → IsLater len (slice_index words (epoch_word d j))
Stands words (Told d epochs marks) = (length marks ≤ MEMBERS) × (d < DATACENTRES) × ((m : ℕ) → m < MEMBERS → slice_index marks m ≤ slice_index words (mark_word d m))

abbrev pub AllStand : List ℕ → List Note → Type 0
AllStand words xs = AllNotes (Stands words) xs

-- the duties of a view, and its notes
abbrev pub Finding : Type 0
Finding = List Duty × List Note

-- each note is true, and who has the duty for a word knows it
pub record FitsWords (words : List ℕ) (x : Finding) : Type 0 where
  pub stand : AllStand words x.1
  pub own : (w : ℕ) → MARKS ≤ w → 0 < has number (guard w) x.0 → slice_index words w ≡ best w x.1

-- no mark is more than one above the log of its datacentre, epochs fill words in order, and what each pass knows of the words is true
pub record Worded (log : List Event) (words : List ℕ) (xs : List Finding) : Type 0 where
  pub low : (d m : ℕ) → d < DATACENTRES → m < MEMBERS → slice_index words (mark_word d m) ≤ has datacentre d (stamped log) + 1
  pub rows : (d k j : ℕ) → d < DATACENTRES → k ≤ j → j < MEMBERS → slice_index words (epoch_word d k) ≡ 0 → slice_index words (epoch_word d j) ≡ 0
  pub each : (j : ℕ) (x : Finding) → get_elem? xs j ≡ some x → FitsWords words x

abbrev pub finding_of : View → Finding
finding_of v = (v.hold.now.duties, v.notes)

-- a word was loaded: no less than the pass knew, just so much where it has the duty for it, and of an epoch that it knew the same
abbrev pub Looks : Step (Option Book) → Sat → ℕ → Sat → Type 0
Looks st m found m' =
    (best st.word m.0.notes ≤ found) × (EPOCHS ≤ st.word → 0 < best st.word m.0.notes → found ≡ best st.word m.0.notes) × (0 < has number (guard st.word) m.0.hold.now.duties → found ≡ best st.word m.0.notes)
    × (m' ≡ (noted m.0 (Found st.word found), m.1))

-- what a look at the word of an epoch leaves: what it found, and where that is no epoch, how long the log is that was seen
abbrev pub read_notes : ℕ → ℕ → ℕ → List Note
read_notes w len zero = Ended w len ∷ Found w 0 ∷ []
read_notes w len (suc value) = Found w (suc value) ∷ []

abbrev pub reads : View → List Note → View
reads v xs = with_notes v (xs ++ v.notes)

abbrev pub Reads : Step (Option Book) → Sat → ℕ → Sat → Type 0
Reads st m found m' =
    (EPOCHS ≤ st.word → 0 < best st.word m.0.notes → found ≡ best st.word m.0.notes) × (0 < has number (guard st.word) m.0.hold.now.duties → found ≡ best st.word m.0.notes)
    × (m' ≡ (reads m.0 (read_notes st.word (has datacentre (dc_of st.word) (stamped m.0.hold.now.seen)) found), m.1))

-- a word was stored
abbrev pub Writes : Step (Option Book) → Sat → ℕ → Sat → Type 0
Writes st m found m' = m' ≡ (noted m.0 (Found st.word st.first), m.1)
