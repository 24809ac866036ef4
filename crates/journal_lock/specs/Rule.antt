-- The whole rule: its parts, each over the words, the slot and what of the views it speaks of.
use Rattle.std.specs.Prelude.{◌≡◌, ℕ, List, map, length, slice_index}
use Rattle.abstract_log.specs.declared.command.Workload.{Workload}
use Rattle.abstract_log.specs.declared.event.Event.{Event}
use Rattle.abstract_log.specs.Shapes.{FitsWorkload}
use Rattle.journal_lock.specs.declared.law.View.{View}
use Rattle.journal_lock.specs.Law.{At, Locked, hold_of}
use Rattle.journal_lock.specs.Notes.{Noted, notes_of}
use Rattle.journal_lock.specs.Finds.{Worded, finding_of}
use Rattle.journal_lock.specs.declared.words.TheConstants.{TURN, COUNT, WORDS}
use Rattle.journal_lock.specs.Marks.{Marked, placed_of}
use Rattle.journal_lock.specs.Heads.{Paired}
use Rattle.journal_lock.specs.Names.{Named, naming_of}
use Rattle.journal_lock.specs.Pins.{Pinned, pinning_of}
use Rattle.journal_lock.specs.Ties.{AllTied, held_by}

-- the parts beside the lock's own
pub record Sides (load : Workload) (round : ℕ) (log : List Event) (words : List ℕ) (views : List View) : Type 0 where
  pub noted : Noted log (map notes_of views)
  pub found : Worded log words (map finding_of views)
  pub marked : Marked round words (map placed_of views)
  pub named : Named log (map naming_of views)
  pub tied : AllTied load (map held_by views)
  pub pinned : Pinned load (map pinning_of views)
  pub paired : Paired load.dcs round words (map placed_of views) (map notes_of views)

pub record Keeps (load : Workload) (round : ℕ) (s : At) : Type 0 where
  pub fits : FitsWorkload load
  pub log : List Event
  pub wide : length s.words ≡ WORDS
  pub lock : Locked load log (slice_index s.words TURN) (slice_index s.words COUNT) s.homes (map hold_of s.views)
  pub sides : Sides load round log s.words s.views
