use Rattle.std.proofs.Common.{List, [], ◌∷◌, ◌++◌, refl, sym, subst, ap}
use Rattle.abstract_log.specs.Runs.{world_of}
use Rattle.abstract_log.specs.Steps.{CanHappen}
use Rattle.journal_lock.specs.declared.duty.Duty.{Duty}
use Rattle.journal_lock.specs.Duties.{number, duties_of, Among}
use Rattle.journal_lock.specs.Law.{IsOut}
use Rattle.journal_lock.specs.Passes.{Hand}
use Rattle.journal_lock.proofs.Lists.{prefix_trans, own_more}
use Rattle.journal_lock.proofs.Runs.{run_more}
use Rattle.journal_lock.proofs.lock.Holder.push.Goals as goal

pub invariant_of-self : goal.invariant_of-self
invariant_of-self c =
    let out = c.self.invariant in let e = c.args.event in let log = c.self.inside.journal.log in let me = c.self.inside.seat.me in let is = c.self.view_is in
    let may = subst (λ (ds : List Duty). Among number (duties_of e) ds) (sym (ap (λ h. h.duties) is)) c.requires.duties in
    let can = subst (λ (h : Hand). CanHappen (world_of h.workload h.log) e) (sym is) c.requires.step in
    subst (IsOut me) (sym c.push.ensures.log) record {
      stage = out.stage;
      carries = out.carries;
      run = run_more me.0.hold.load log e out.run can;
      grown = prefix_trans _ log (log ++ e ∷ []) out.grown (e ∷ [], refl);
      own = λ x none. own_more x log me.0.hold.now.seen e me.0.hold.now.duties (out.own x none) none may;
    }
