use Rattle.std.proofs.Common.{rules, arith, ◌≡◌, ◌<◌, ℕ, List, subst, ap, ◌∙◌}
use Rattle.journal_lock.specs.declared.duty.Duty.{Duty}
use Rattle.journal_lock.specs.declared.law.Note.{Note}
use Rattle.journal_lock.specs.Duties.{number, has}
use Rattle.journal_lock.specs.Words.{guard}
use Rattle.journal_lock.specs.Finds.{best}
use Rattle.journal_lock.proofs.Finds.{guard_epoch}
use Rattle.journal_lock.proofs.Steps.{read_step}
use Rattle.journal_lock.proofs.lock.JournalLock.load_epoch.Goals as goal

pub load-word-requires : goal.load-word-requires
load-word-requires c = (search rules, omega (arith, c.self.invariant.0, c.epoch_place.ensures.within.1), read_step _ _ _ _ _ _ (omega (arith, c.epoch_place.ensures.within.0)) (omega (arith, c.epoch_place.ensures.within.1)))

pub returns-clause-no_less : goal.returns-clause-no_less
returns-clause-no_less c =
    let word = c.epoch_place.ensures.value in
    λ more. c.from_word.ensures.code
    ∙ subst (λ (z : ℕ × List Note). 0 < best z.0 z.1 → c.load-word.result ≡ best z.0 z.1) (λ i. (word i, ap (λ t. t.notes) c.pass.view_is i)) (c.load-word.ensures.2.0 (omega (arith, c.epoch_place.ensures.within.0))) more

pub returns-clause-own : goal.returns-clause-own
returns-clause-own c =
    let d = c.args.dc in let k = c.args.at in let word = c.epoch_place.ensures.value in
    λ duty. c.from_word.ensures.code
    ∙ subst (λ (z : ℕ × ℕ × List Duty × List Note). 0 < has number z.0 z.2 → c.load-word.result ≡ best z.1 z.3)
    (λ i. ((ap guard word ∙ guard_epoch d k c.requires.at) i, word i, ap (λ t. t.duties) c.pass.view_is i, ap (λ t. t.notes) c.pass.view_is i)) c.load-word.ensures.2.1 duty
