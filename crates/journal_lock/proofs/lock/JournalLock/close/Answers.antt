use Rattle.std.proofs.Common.{◌≡◌, List, sym, subst, ap, ◌∙◌}
use Rattle.abstract_log.specs.declared.command.Workload.{Workload}
use Rattle.abstract_log.specs.declared.event.Event.{Event}
use Rattle.abstract_log.specs.Runs.{IsRun}
use Rattle.journal_lock.specs.declared.duty.Duty.{Duty}
use Rattle.journal_lock.specs.Duties.{number, Among, all_duties}
use Rattle.journal_lock.specs.declared.law.Plan.{Plan}
use Rattle.journal_lock.specs.Law.{Book}
use Rattle.journal_lock.proofs.Steps.{closing}
use Rattle.journal_lock.proofs.lock.JournalLock.close.Goals as goal

pub unreachable-requires : goal.unreachable-requires
unreachable-requires c =
    let load = ap (λ (k : Plan). k.workload) c.self.invariant.2 in
    let all = subst (λ (z : Workload × List Duty). Among number (all_duties z.0) z.1) (λ i. ((sym (ap (λ l. l.workload) c.self.view_is) ∙ load) i, sym (ap (λ t. t.duties) c.pass.view_is) i)) c.requires.all in
    let k = closing _ _ _ _ _ _ c.pass.invariant.stage all c.close_with-closed.ensures.values.2 in cc (k.3, c.take-slot.ensures.value, c.in_default.is)

pub returns-clause-events : goal.returns-clause-events
returns-clause-events c =
    let load = ap (λ (k : Plan). k.workload) c.self.invariant.2 in
    let all = subst (λ (z : Workload × List Duty). Among number (all_duties z.0) z.1) (λ i. ((sym (ap (λ l. l.workload) c.self.view_is) ∙ load) i, sym (ap (λ t. t.duties) c.pass.view_is) i)) c.requires.all in
    let k = closing _ _ _ _ _ _ c.pass.invariant.stage all c.close_with-closed.ensures.values.2 in
    let same : c.in-Some.journal ≡ k.0 = cc (k.3, c.take-slot.ensures.value, c.in-Some.is) in
    c.into_events.ensures ∙ (ap (λ (b : Book). b.log) same ∙ (k.1 ∙ ap (λ t. t.seen) c.pass.view_is))

pub returns-clause-run : goal.returns-clause-run
returns-clause-run c =
    let load = ap (λ (k : Plan). k.workload) c.self.invariant.2 in
    let all = subst (λ (z : Workload × List Duty). Among number (all_duties z.0) z.1) (λ i. ((sym (ap (λ l. l.workload) c.self.view_is) ∙ load) i, sym (ap (λ t. t.duties) c.pass.view_is) i)) c.requires.all in
    let k = closing _ _ _ _ _ _ c.pass.invariant.stage all c.close_with-closed.ensures.values.2 in
    let same : c.in-Some.journal ≡ k.0 = cc (k.3, c.take-slot.ensures.value, c.in-Some.is) in
    let is = c.into_events.ensures ∙ ap (λ (b : Book). b.log) same in
    subst (λ (z : Workload × List Event). IsRun z.0 z.1) (λ i. ((sym load ∙ ap (λ l. l.workload) c.self.view_is) i, sym is i)) k.2
