-- The part of the rule on notes.
use Rattle.std.specs.Prelude.{◌≡◌, ℕ, ◌+◌, ◌<◌, ◌≤◌, List, [], ◌∷◌, length}
use mathlib.Core.Option.{some}
use lib.ListN.{get_elem?}
use Rattle.abstract_log.specs.declared.event.Event.{Event}
use Rattle.journal_lock.specs.declared.law.Note.{Note}
use Rattle.cz_base.specs.declared.limits.TheConstants.{DATACENTRES, MEMBERS}
use Rattle.journal_lock.specs.declared.law.Note.TheVariants.{Met, Length, Found, Ended, Told}
use Rattle.journal_lock.specs.declared.law.View.{View}
use Rattle.journal_lock.specs.Duties.{datacentre, has, stamped}
use Rattle.journal_lock.specs.Words.{mark_word, epoch_word}

-- each note of a list is as T says
abbrev pub AllNotes : (Note → Type 0) → List Note → Type 0
AllNotes T [] = Unit {0}
AllNotes T (x ∷ xs) = T x × AllNotes T xs

-- each note of each pass is as T says
abbrev pub EachNote : (Note → Type 0) → List (List Note) → Type 0
EachNote T ns = (j : ℕ) (xs : List Note) → get_elem? ns j ≡ some xs → AllNotes T xs

-- the note is true of the journal
abbrev pub IsTrue : List Event → Note → Type 0
IsTrue log (Met count) = count ≤ length log
IsTrue log (Length d n) = n ≤ has datacentre d (stamped log)
IsTrue log (Found w value) = (d m : ℕ) → d < DATACENTRES → m < MEMBERS → w ≡ mark_word d m → value ≤ has datacentre d (stamped log) + 1
IsTrue log (Ended w len) = (d k : ℕ) → k < MEMBERS → w ≡ epoch_word d k → len ≤ has datacentre d (stamped log)
IsTrue log (Told d epochs marks) = Unit {0}

abbrev pub AllTrue : List Event → List Note → Type 0
AllTrue log xs = AllNotes (IsTrue log) xs

abbrev pub Noted : List Event → List (List Note) → Type 0
Noted log ns = EachNote (IsTrue log) ns

abbrev pub notes_of : View → List Note
notes_of v = v.notes

abbrev pub with_notes : View → List Note → View
with_notes v xs = record { hold = v.hold; notes = xs; names = v.names; pins = v.pins }

abbrev pub noted : View → Note → View
noted v x = with_notes v (x ∷ v.notes)
