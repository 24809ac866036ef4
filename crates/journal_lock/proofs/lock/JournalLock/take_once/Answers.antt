use Rattle.std.proofs.Common.{rules, arith, ◌≡◌, ℕ, List, sym, subst, ◌∙◌, ap, Some, [], ◌∷◌}
use Rattle.atomic_table.specs.Table.{rest}
use Rattle.abstract_log.specs.declared.command.Workload.{Workload}
use Rattle.abstract_log.specs.declared.event.Event.{Event}
use Rattle.abstract_log.specs.Runs.{IsRun}
use Rattle.journal_lock.specs.declared.duty.Duty.{Duty}
use Rattle.journal_lock.specs.declared.law.View.{View}
use Rattle.journal_lock.specs.Duties.{HasDuty}
use Rattle.journal_lock.specs.declared.law.Note.{Note}
use Rattle.journal_lock.specs.declared.law.Plan.{Plan}
use Rattle.journal_lock.specs.Law.{Book, Within}
use Rattle.journal_lock.specs.Notes.{AllTrue}
use Rattle.journal_lock.specs.Heads.{HeadsStand}
use Rattle.journal_lock.proofs.Steps.{take_by, book_in, book_at}
use Rattle.journal_lock.proofs.lock.JournalLock.take_once.Goals as goal

pub compare_exchange-word-requires : goal.compare_exchange-word-requires
compare_exchange-word-requires g c =
    let plan = c.self.invariant.2 in let load = sym (c.requires.plan.0 ∙ (sym (ap (λ l. l.workload) c.self.view_is) ∙ ap (λ (k : Plan). k.workload) plan)) in
    let round = sym (c.requires.plan.1 ∙ (sym (ap (λ l. l.round) c.self.view_is) ∙ ap (λ (k : Plan). k.round) plan)) in
    (search rules, omega (arith, c.self.invariant.0), take_by _ _ _ _ _ g.C.Planned.load g.C.Planned.round load round c.pass.invariant.stage (subst HasDuty (sym (ap (λ t. t.duties) c.pass.view_is)) c.requires.duty))

pub exchange-slot-requires : goal.exchange-slot-requires
exchange-slot-requires g c =
    let took = c.compare_exchange-word.ensures.2.0 c.if-word-ne0.false in let w = took.0 in let me = c.compare_exchange-word.new.seat.me in
    let e : me.1 ≡ (0, Some w) ∷ [] = took.7 ∙ ap (λ l. (0, Some w) ∷ l) c.pass.invariant.empty in
    (search rules, (Some w, e ∙ ap (λ l. (0, Some w) ∷ rest l) (sym e)))

pub returns : goal.returns
returns g c =
    let took = c.compare_exchange-word.ensures.2.0 c.if-word-ne0.false in let w = took.0 in let out = c.exchange-slot.ensures in
    let v = ap (λ m. m.0) out.3 ∙ took.6 in let same : w ≡ c.in-Some.journal = ap (book_at w) (sym took.7 ∙ out.2) ∙ ap (book_in w) c.in-Some.is in
    let seen = ap (λ (x : View). x.hold.now.seen) v in let load = ap (λ (x : View). x.hold.load) v in let noted = ap (λ (x : View). x.notes) v in let plan = load ∙ (took.1 ∙ c.requires.plan.0) in record {
      table = search rules;
      workload = load ∙ ap (λ t. t.workload) c.pass.view_is;
      plan = plan;
      duties = ap (λ (x : View). x.hold.now.duties) v ∙ ap (λ t. t.duties) c.pass.view_is;
      failed = search rules;
      notes = noted ∙ ap (λ t. t.notes) c.pass.view_is;
      hand = ap (λ (x : View). x.names.hand) v ∙ ap (λ t. t.hand) c.pass.view_is;
      placed = ap (λ (x : View). x.names.placed) v ∙ ap (λ t. t.placed) c.pass.view_is;
      pins = ap (λ (x : View). x.pins.now) v ∙ ap (λ t. t.pins) c.pass.view_is;
      seen = subst (λ (z : List Duty × List Event × List Event). Within z.0 z.1 z.2) (λ i. (ap (λ t. t.duties) c.pass.view_is i, ap (λ t. t.seen) c.pass.view_is i, sym seen i)) took.3;
      run = subst (λ (z : Workload × List Event). IsRun z.0 z.1) (λ i. (sym (load ∙ took.1) i, sym seen i)) took.2;
      whole = sym (seen ∙ ap (λ (b : Book). b.log) same);
      noted = subst (λ (z : List Event × List Note). AllTrue z.0 z.1) (λ i. (sym seen i, sym noted i)) took.4;
      heads = subst (λ (z : ℕ × List Note × List Event). HeadsStand z.0 z.1 z.2) (λ i. (c.requires.plan.1 i, sym noted i, sym seen i)) took.5;
    }
