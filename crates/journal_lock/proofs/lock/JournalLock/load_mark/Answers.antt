use Rattle.std.proofs.Common.{rules, arith, ◌≡◌, ◌<◌, ℕ, List, subst, ap, ◌∙◌}
use Rattle.journal_lock.specs.declared.duty.Duty.{Duty}
use Rattle.journal_lock.specs.declared.law.Note.{Note}
use Rattle.journal_lock.specs.Duties.{number, has}
use Rattle.journal_lock.specs.Words.{guard}
use Rattle.journal_lock.specs.Finds.{best}
use Rattle.journal_lock.proofs.Finds.{guard_mark}
use Rattle.journal_lock.proofs.Steps.{look_step}
use Rattle.journal_lock.proofs.lock.JournalLock.load_mark.Goals as goal

pub load-requires : goal.load-requires
load-requires c = (search rules, omega (arith, c.self.invariant.0), look_step _ _ _ _ _ _ (omega (arith, c.mark_place-word.ensures.within.0)))

pub returns-clause-own : goal.returns-clause-own
returns-clause-own c =
    let d = c.args.dc in let k = c.args.member in let word = c.mark_place-word.ensures.value in
    subst (λ (z : ℕ × ℕ × List Duty × List Note). 0 < has number z.0 z.2 → c.load.result ≡ best z.1 z.3)
    (λ i. ((ap guard word ∙ guard_mark d k c.mark_place-word.ensures.dc c.requires.member) i, word i, ap (λ t. t.duties) c.pass.view_is i, ap (λ t. t.notes) c.pass.view_is i)) c.load.ensures.2.2
