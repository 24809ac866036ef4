use Rattle.std.proofs.Common.{rules, arith, ◌≡◌, ◌<◌, ℕ, List, sym, subst, ap, ◌∙◌}
use Rattle.flstore_rounds.specs.Epochs.{IsEpochList}
use Rattle.journal_lock.specs.declared.duty.Duty.{Duty}
use Rattle.journal_lock.specs.declared.law.Note.{Note}
use Rattle.journal_lock.specs.declared.law.Plan.{Plan}
use Rattle.journal_lock.specs.Duties.{number, has}
use Rattle.journal_lock.specs.Words.{epoch_word, dc_of, guard}
use Rattle.journal_lock.specs.Finds.{best}
use Rattle.journal_lock.specs.Heads.{known_list}
use Rattle.journal_lock.proofs.Finds.{guard_epoch, dc_epoch, none_tested}
use Rattle.journal_lock.proofs.Steps.{see_by}
use Rattle.journal_lock.proofs.lock.JournalLock.holds_none.Goals as goal

pub load-requires : goal.load-requires
load-requires g c =
    let round = sym (c.requires.plan ∙ (sym (ap (λ l. l.round) c.self.view_is) ∙ ap (λ (k : Plan). k.round) c.self.invariant.2)) in let place = c.epoch_place.ensures in
    (search rules, omega (arith, c.self.invariant.0, place.within.1), see_by _ _ _ _ _ g.C.Planned.round round _ (omega (arith, place.within.0)) (omega (arith, place.within.1)))

pub returns-clause-none : goal.returns-clause-none
returns-clause-none g c =
    let word = c.epoch_place.ensures.value in let guarded = ap guard word ∙ guard_epoch c.args.dc c.args.at c.requires.at in
    let duty = subst (λ (z : ℕ × List Duty). 0 < has number z.0 z.1) (λ i. (sym guarded i, sym (ap (λ t. t.duties) c.pass.view_is) i)) c.requires.duty in
    let is = subst (λ (z : ℕ × List Note). c.load.result ≡ best z.0 z.1) (λ i. (word i, ap (λ t. t.notes) c.pass.view_is i)) (c.load.ensures.2.0 duty).0 in none_tested _ _ is

pub returns-clause-rounds : goal.returns-clause-rounds
returns-clause-rounds g c =
    let word = c.epoch_place.ensures.value in let guarded = ap guard word ∙ guard_epoch c.args.dc c.args.at c.requires.at in
    let duty = subst (λ (z : ℕ × List Duty). 0 < has number z.0 z.1) (λ i. (sym guarded i, sym (ap (λ t. t.duties) c.pass.view_is) i)) c.requires.duty in
    let of = ap dc_of word ∙ dc_epoch c.args.dc c.args.at c.requires.at in
    subst (λ (z : ℕ × ℕ × List Note). IsEpochList (known_list z.0 z.1 z.2)) (λ i. (c.requires.plan i, of i, ap (λ t. t.notes) c.pass.view_is i)) (c.load.ensures.2.0 duty).1

pub returns-clause-rest : goal.returns-clause-rest
returns-clause-rest g c test k le lt =
    let word = c.epoch_place.ensures.value in let guarded = ap guard word ∙ guard_epoch c.args.dc c.args.at c.requires.at in
    let duty = subst (λ (z : ℕ × List Duty). 0 < has number z.0 z.1) (λ i. (sym guarded i, sym (ap (λ t. t.duties) c.pass.view_is) i)) c.requires.duty in
    let of = ap dc_of word ∙ dc_epoch c.args.dc c.args.at c.requires.at in let told = c.load.ensures.2.0 duty in
    let none = (none_tested _ _ told.0).0 test in
    subst (λ (z : ℕ × List Note). best (epoch_word z.0 k) z.1 ≡ 0) (λ i. (of i, ap (λ t. t.notes) c.pass.view_is i)) (told.2 (told.0 ∙ none) k (omega (arith, word, of)) lt)
