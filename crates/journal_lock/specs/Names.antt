-- The part of the rule on names, and what the looks at the count tell.
use Rattle.std.specs.Prelude.{◌≡◌, ℕ, ◌+◌, ◌<◌, ◌≤◌, List, ◌++◌, map, length, Option}
use mathlib.Core.Option.{some}
use lib.ListN.{get_elem?}
use Rattle.atomic_table.specs.Table.{Step}
use Rattle.abstract_log.specs.declared.event.Event.{Event}
use Rattle.journal_lock.specs.declared.duty.Duty.{Duty}
use Rattle.journal_lock.specs.declared.duty.Position.{Position}
use Rattle.journal_lock.specs.declared.law.Names.{Names}
use Rattle.journal_lock.specs.declared.law.Pins.{Pins}
use Rattle.journal_lock.specs.declared.law.SessionPin.{SessionPin}
use Rattle.journal_lock.specs.declared.law.Note.{Note}
use Rattle.journal_lock.specs.declared.law.Note.TheVariants.{Met, Length}
use Rattle.journal_lock.specs.declared.law.View.{View}
use Rattle.journal_lock.specs.Duties.{number, place, datacentre, has, minus, stamped, HasDuty}
use Rattle.journal_lock.specs.Ties.{IsTied}
use Rattle.journal_lock.specs.Law.{Book, total, Sat, names}
use Rattle.journal_lock.specs.Notes.{noted}
use Rattle.journal_lock.specs.Joins.{TwoPairs, joins_of}

-- how often a position is named
abbrev pub named : ℕ → Names → ℕ
named p x = has place p x.hand + has place p x.placed

-- no position is named more often than it is stamped in what was seen
abbrev pub IsNamed : List Event → Names → Type 0
IsNamed seen x = (p : ℕ) → named p x ≤ has place p (stamped seen)

-- who names a position has a duty
abbrev pub NamesByDuty : List Duty → Names → Type 0
NamesByDuty ds x = (p : ℕ) → 0 < named p x → HasDuty ds

-- what a view has seen, its duties, and what it names
abbrev pub Naming : Type 0
Naming = List Event × List Duty × Names

pub record FitsNames (x : Naming) : Type 0 where
  pub stamped : IsNamed x.0 x.2
  pub by_duty : NamesByDuty x.1 x.2

-- each position is stamped once at most, over all views it is named no more often, and each pass names what it has seen
pub record Named (log : List Event) (xs : List Naming) : Type 0 where
  pub single : (p : ℕ) → has place p (stamped log) ≤ 1
  pub once : (p : ℕ) → total (λ (x : Naming). named p x.2) xs ≤ has place p (stamped log)
  pub each : (j : ℕ) (x : Naming) → get_elem? xs j ≡ some x → FitsNames x

abbrev pub naming_of : View → Naming
naming_of v = (v.hold.now.seen, v.hold.now.duties, v.names)

-- these positions are placed
abbrev pub put : List Position → Names → Names
put ps x = names (minus place x.hand ps) (ps ++ x.placed)

-- how long the logs of these datacentres are
abbrev pub lengths_of : List ℕ → List Event → List Note
lengths_of ds seen = map (λ d. Length d (has datacentre d (stamped seen))) ds

-- what a pass notes by itself: these pairs as one, and these lengths of what it has seen
abbrev pub own_notes : List TwoPairs → List ℕ → List Event → List Note
own_notes twos ds seen = joins_of twos ++ lengths_of ds seen

-- these pins are set, which stand before those that were
abbrev pub pins_set : List SessionPin → Pins → Pins
pins_set changes p = record { now = changes ++ p.now; left = changes ++ p.left; right = changes ++ p.right }

-- these positions are placed, these lengths are noted, and these pairs as one, and these pins are set
abbrev pub amended : List Position → List ℕ → List TwoPairs → List SessionPin → View → View
amended ps ds twos changes v = record { hold = v.hold; notes = own_notes twos ds v.hold.now.seen ++ v.notes; names = put ps v.names; pins = pins_set changes v.pins }

abbrev pub Amends : List Position → List ℕ → List TwoPairs → List SessionPin → Step (Option Book) → Sat → ℕ → Sat → Type 0
Amends ps ds twos changes st m found m' = m' ≡ (amended ps ds twos changes m.0, m.1)

abbrev pub Meets : Step (Option Book) → Sat → ℕ → Sat → Type 0
Meets st m found m' = (length m.0.hold.now.seen ≤ found) × IsNamed m.0.hold.now.seen m.0.names × IsTied m.0.hold.load m.0.hold.now.duties × ((x : ℕ) → has number x m.0.hold.now.duties ≤ 1) × (m' ≡ (noted m.0 (Met found), m.1))
