use Rattle.std.proofs.Common.{rules, arith, ◌≡◌, ◌<◌, ◌++◌, true, ℕ, List, sym, subst, ap, ◌∙◌}
use Rattle.abstract_log.specs.declared.command.Workload.{Workload}
use Rattle.abstract_log.specs.declared.event.Event.{Event}
use Rattle.journal_lock.specs.declared.duty.Duty.{Duty}
use Rattle.journal_lock.specs.declared.law.Note.{Note}
use Rattle.journal_lock.specs.declared.law.Plan.{Plan}
use Rattle.journal_lock.specs.Duties.{number, datacentre, has, stamped}
use Rattle.journal_lock.specs.Words.{epoch_word, dc_of, guard}
use Rattle.journal_lock.specs.Finds.{best, read_notes}
use Rattle.journal_lock.specs.Heads.{IsTold, is_end, tell_notes}
use Rattle.journal_lock.proofs.Finds.{guard_epoch, dc_epoch}
use Rattle.journal_lock.proofs.Steps.{tell_by}
use Rattle.journal_lock.proofs.lock.JournalLock.tell_epoch.Goals as goal

pub load-word-requires : goal.load-word-requires
load-word-requires g c =
    let plan = c.self.invariant.2 in let load = sym (c.requires.plan.0 ∙ (sym (ap (λ l. l.workload) c.self.view_is) ∙ ap (λ (k : Plan). k.workload) plan)) in
    let round = sym (c.requires.plan.1 ∙ (sym (ap (λ l. l.round) c.self.view_is) ∙ ap (λ (k : Plan). k.round) plan)) in let place = c.epoch_place.ensures in
    let before = subst (λ (l : List Note). (j : ℕ) → j < c.args.at → 0 < best (epoch_word c.args.dc j) l) (sym (ap (λ t. t.notes) c.pass.view_is)) c.requires.before in
    (search rules, omega (arith, c.self.invariant.0, place.within.1), tell_by _ _ _ _ _ g.C.Planned.load g.C.Planned.round load round _ c.args.dc c.args.at place.dc c.requires.at place.value before)

pub returns-clause-own : goal.returns-clause-own
returns-clause-own g c =
    let d = c.args.dc in let k = c.args.at in let word = c.epoch_place.ensures.value in
    λ duty. c.from_word.ensures.code
    ∙ subst (λ (z : ℕ × ℕ × List Duty × List Note). 0 < has number z.0 z.2 → c.load-word.result ≡ best z.1 z.3)
    (λ i. ((ap guard word ∙ guard_epoch d k c.requires.at) i, word i, ap (λ t. t.duties) c.pass.view_is i, ap (λ t. t.notes) c.pass.view_is i)) c.load-word.ensures.2.1 duty

pub returns-clause-noted : goal.returns-clause-noted
returns-clause-noted g c =
    let word = c.epoch_place.ensures.value in let of = ap dc_of word ∙ dc_epoch c.args.dc c.args.at c.requires.at in let now = c.load-word.ensures.2.3 in let was = c.pass.view_is in
    λ i. record {
      table = (c.load-word.ensures.0 ∙ ap (λ t. t.table) was) i;
      workload = (ap (λ m. m.0.hold.load) now ∙ ap (λ t. t.workload) was) i;
      seen = (ap (λ m. m.0.hold.now.seen) now ∙ ap (λ t. t.seen) was) i;
      duties = (ap (λ m. m.0.hold.now.duties) now ∙ ap (λ t. t.duties) was) i;
      failed = (ap (λ t. t.failed) was) i;
      notes = (ap (λ m. m.0.notes) now ∙ (λ j. tell_notes (c.requires.plan.1 j) (word j) (has datacentre (of j) (stamped (ap (λ t. t.seen) was j))) (sym c.from_word.ensures.code j) (ap (λ t. t.notes) was j))) i;
      hand = (ap (λ m. m.0.names.hand) now ∙ ap (λ t. t.hand) was) i;
      placed = (ap (λ m. m.0.names.placed) now ∙ ap (λ t. t.placed) was) i;
      pins = (ap (λ m. m.0.pins.now) now ∙ ap (λ t. t.pins) was) i;
    }

pub returns-clause-told : goal.returns-clause-told
returns-clause-told g c =
    let word = c.epoch_place.ensures.value in let of = ap dc_of word ∙ dc_epoch c.args.dc c.args.at c.requires.at in let was = c.pass.view_is in
    subst (λ (z : ℕ × Workload × ℕ × ℕ × List Event × ℕ × List Note). is_end z.3 z.5 ≡ true → IsTold z.0 z.1.dcs z.2 (read_notes z.3 (has datacentre z.2 (stamped z.4)) z.5 ++ z.6))
    (λ i. (c.requires.plan.1 i, c.requires.plan.0 i, of i, word i, ap (λ t. t.seen) was i, sym c.from_word.ensures.code i, ap (λ t. t.notes) was i)) c.load-word.ensures.2.2
