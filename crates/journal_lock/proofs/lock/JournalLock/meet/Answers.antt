use Rattle.std.proofs.Common.{rules, arith, subst, ℕ, ◌≤◌}
use Rattle.journal_lock.specs.Duties.{number, has}
use Rattle.journal_lock.specs.Ties.{IsTied}
use Rattle.journal_lock.specs.Law.{names}
use Rattle.journal_lock.specs.Names.{IsNamed}
use Rattle.journal_lock.specs.Passes.{Ticket}
use Rattle.journal_lock.proofs.Steps.{meet_step}
use Rattle.journal_lock.proofs.lock.JournalLock.meet.Goals as goal

pub load-requires : goal.load-requires
load-requires c = (search rules, omega (arith, c.self.invariant.0), meet_step _ _ _ _ _ c.pass.invariant.stage)

pub returns-clause-named : goal.returns-clause-named
returns-clause-named c = subst (λ (t : Ticket). IsNamed t.seen (names t.hand t.placed)) c.pass.view_is c.load.ensures.2.1

pub returns-clause-tied : goal.returns-clause-tied
returns-clause-tied c = subst (λ (t : Ticket). IsTied t.workload t.duties) c.pass.view_is c.load.ensures.2.2

pub returns-clause-once : goal.returns-clause-once
returns-clause-once c = subst (λ (t : Ticket). (x : ℕ) → has number x t.duties ≤ 1) c.pass.view_is c.load.ensures.2.3
