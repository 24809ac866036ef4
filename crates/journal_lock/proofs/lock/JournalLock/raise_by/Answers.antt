use Rattle.std.proofs.Common.{rules, arith, ◌<◌, ◌≤◌, ◌+◌, ℕ, List, sym, subst, ap, ◌∙◌}
use Rattle.abstract_log.specs.declared.event.Event.{Event}
use Rattle.journal_lock.specs.declared.duty.Duty.{Duty}
use Rattle.journal_lock.specs.declared.duty.Duty.TheVariants.{Maintainer}
use Rattle.journal_lock.specs.declared.duty.Position.{Position}
use Rattle.journal_lock.specs.declared.law.Note.{Note}
use Rattle.journal_lock.specs.declared.law.Plan.{Plan}
use Rattle.journal_lock.specs.Marks.{MayRise}
use Rattle.journal_lock.specs.Heads.{risen_notes}
use Rattle.journal_lock.specs.Duties.{Has, datacentre, has, stamped}
use Rattle.journal_lock.proofs.Steps.{raise_by}
use Rattle.journal_lock.proofs.lock.JournalLock.raise_by.Goals as goal

pub fetch_max-requires : goal.fetch_max-requires
fetch_max-requires g c =
    let d = c.args.dc in let k = c.args.member in let place = c.mark_place-word.ensures in
    let duty = subst (Has (Maintainer d k)) (sym (ap (λ t. t.duties) c.pass.view_is)) c.requires.duty in
    let round = sym (c.requires.plan ∙ (sym (ap (λ l. l.round) c.self.view_is) ∙ ap (λ (z : Plan). z.round) c.self.invariant.2)) in
    let may = subst (λ (z : ℕ × List Note × List Position). MayRise z.0 d k c.args.mark z.1 z.2) (λ i. (sym c.requires.plan i, sym (ap (λ t. t.notes) c.pass.view_is) i, sym (ap (λ t. t.placed) c.pass.view_is) i)) c.requires.placed in
    let small = subst (λ (l : List Event). c.args.mark ≤ has datacentre d (stamped l) + 1) (sym (ap (λ t. t.seen) c.pass.view_is)) c.requires.within in
    (search rules, omega (arith, c.self.invariant.0, place.within.1), raise_by _ _ _ _ _ g.C.Planned.round round _ d k c.args.mark place.value place.dc c.requires.member duty small may)

pub invariant_of-pass : goal.invariant_of-pass
invariant_of-pass g c = let place = c.mark_place-word.ensures in let now = c.fetch_max.ensures.2 c.args.dc c.args.member place.dc c.requires.member place.value in
    record { stage = ap (λ m. m.0.hold.stage) now ∙ c.pass.invariant.stage; empty = ap (λ m. m.1) now ∙ c.pass.invariant.empty }

pub returns : goal.returns
returns g c =
    let place = c.mark_place-word.ensures in let now = c.fetch_max.ensures.2 c.args.dc c.args.member place.dc c.requires.member place.value in let was = c.pass.view_is in
    λ i. record {
      table = (c.fetch_max.ensures.0 ∙ ap (λ t. t.table) was) i;
      workload = (ap (λ m. m.0.hold.load) now ∙ ap (λ t. t.workload) was) i;
      seen = (ap (λ m. m.0.hold.now.seen) now ∙ ap (λ t. t.seen) was) i;
      duties = (ap (λ m. m.0.hold.now.duties) now ∙ ap (λ t. t.duties) was) i;
      failed = (ap (λ t. t.failed) was) i;
      notes = (ap (λ m. m.0.notes) now ∙ (λ j. risen_notes (c.requires.plan j) c.args.dc c.args.member c.args.mark (ap (λ t. t.notes) was j))) i;
      hand = (ap (λ m. m.0.names.hand) now ∙ ap (λ t. t.hand) was) i;
      placed = (ap (λ m. m.0.names.placed) now ∙ ap (λ t. t.placed) was) i;
      pins = (ap (λ m. m.0.pins.now) now ∙ ap (λ t. t.pins) was) i;
    }
