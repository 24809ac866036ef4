-- What an attempt at the turn gives.
use Rattle.std.specs.Prelude.{◌≡◌, ◌≢◌}
use Rattle.abstract_log.specs.Runs.{IsRun}
use Rattle.journal_lock.specs.declared.lock.Tried.{Tried}
use Rattle.journal_lock.specs.declared.lock.Tried.TheVariants.{Held, Busy}
use Rattle.journal_lock.specs.Law.{Within}
use Rattle.journal_lock.specs.Notes.{AllTrue}
use Rattle.journal_lock.specs.Heads.{HeadsStand}
use Rattle.journal_lock.specs.Passes.{Lock, Ticket, Hand}

-- the holder of what was a pass: it has seen the whole journal, which is a run and has no event of its duties that the pass had not seen, and of which all that the pass noted is true
pub record IsHeld (l : Lock) (p : Ticket) (h : Hand) : Type 0 where
  pub table : h.table ≡ p.table
  pub workload : h.workload ≡ p.workload
  pub plan : h.workload ≡ l.workload
  pub duties : h.duties ≡ p.duties
  pub failed : h.failed ≡ p.failed
  pub notes : h.notes ≡ p.notes
  pub hand : h.hand ≡ p.hand
  pub placed : h.placed ≡ p.placed
  pub pins : h.pins ≡ p.pins
  pub seen : Within p.duties p.seen h.seen
  pub run : IsRun h.workload h.seen
  pub whole : h.log ≡ h.seen
  pub noted : AllTrue h.seen h.notes
  pub heads : HeadsStand l.round h.notes h.seen

abbrev pub IsTried : Lock → Ticket → Tried → Type 0
IsTried l p (Held h) = IsHeld l p h
IsTried l p (Busy word pass) = (word ≢ 0) × (pass ≡ p)
