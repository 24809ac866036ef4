use Rattle.std.proofs.Common.{rules, arith, List, sym, subst, ap}
use Rattle.journal_lock.specs.declared.duty.Position.{Position}
use Rattle.journal_lock.specs.declared.law.Note.{Note}
use Rattle.journal_lock.specs.Duties.{place, Among}
use Rattle.abstract_log.specs.declared.command.Workload.{Workload}
use Rattle.journal_lock.specs.declared.duty.Duty.{Duty}
use Rattle.journal_lock.specs.Joins.{AreTold}
use Rattle.journal_lock.specs.Pins.{MayPin}
use Rattle.journal_lock.proofs.Steps.{amend_step}
use Rattle.journal_lock.proofs.lock.JournalLock.amend.Goals as goal

pub load-requires : goal.load-requires
load-requires g c = (
  search rules,
  omega (arith, c.self.invariant.0),
  amend_step _ _ _ _ _ c.pass.invariant.stage g.C.Change.placed g.C.Change.lengths g.C.Change.pairs g.C.Change.pins (subst (λ (l : List Position). Among place g.C.Change.placed l) (sym (ap (λ t. t.hand) c.pass.view_is)) c.requires.hand)
      (subst (λ (l : List Note). AreTold g.C.Change.pairs l) (sym (ap (λ t. t.notes) c.pass.view_is)) c.requires.told)
      (subst (λ (z : Workload × List Duty). MayPin z.0 z.1 g.C.Change.pins) (λ i. (sym (ap (λ t. t.workload) c.pass.view_is) i, sym (ap (λ t. t.duties) c.pass.view_is) i)) c.requires.pins),
)
