-- What taking the turn tells, and what taking in another pass does.
use Rattle.std.specs.Prelude.{◌≡◌, ◌≢◌, ℕ, ◌∷◌, Option, Some}
use Rattle.atomic_table.specs.Table.{Step}
use Rattle.abstract_log.specs.declared.command.Workload.{Workload}
use Rattle.abstract_log.specs.Runs.{IsRun}
use Rattle.journal_lock.specs.declared.law.Stage.TheVariants.{Out}
use Rattle.journal_lock.specs.Law.{Book, Sat, Within, staged, learnt}
use Rattle.journal_lock.specs.Notes.{AllTrue}
use Rattle.journal_lock.specs.Names.{IsNamed}
use Rattle.journal_lock.specs.Heads.{HeadsStand, HeadsJoin}
use Rattle.journal_lock.specs.Pins.{PinsAgree}

-- the turn was free and is taken, with the journal, which has no event of the pass's duties that the pass had not seen, and of which all that the pass noted is true
abbrev pub Took : Workload → ℕ → Sat → Sat → Type 0
Took load round m m' =
    (w : Book) × (m.0.hold.load ≡ load) × IsRun load w.log × Within m.0.hold.now.duties m.0.hold.now.seen w.log × AllTrue w.log m.0.notes × HeadsStand round m.0.notes w.log
    × (m'.0 ≡ staged m.0 w.log Out) × (m'.1 ≡ (0, Some w) ∷ m.1)

abbrev pub Takes : Workload → ℕ → Step (Option Book) → Sat → ℕ → Sat → Type 0
Takes load round st m found m' = (found ≡ 0 → Took load round m m') × (found ≢ 0 → m' ≡ m)

-- two passes that became one knew no more than it does, and the same pins
abbrev pub Learns : Workload → ℕ → Step (Option Book) → Sat → ℕ → Sat → Type 0
Learns load round st m found m' =
    Within m.0.hold.left.duties m.0.hold.left.seen m.0.hold.now.seen × Within m.0.hold.right.duties m.0.hold.right.seen m.0.hold.now.seen
    × IsNamed m.0.hold.now.seen m.0.names × HeadsJoin round m.0.notes × PinsAgree load (m.0.hold.left.duties, m.0.pins.left) (m.0.hold.right.duties, m.0.pins.right) × (m' ≡ (learnt m.0, m.1))
