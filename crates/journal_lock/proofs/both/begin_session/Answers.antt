use Rattle.std.proofs.Common.{◌≡◌, ◌<◌, List, ap, sym, subst, ◌∙◌, le_refl}
use Rattle.abstract_log.specs.declared.command.Workload.{Workload}
use Rattle.journal_lock.specs.declared.duty.Duty.{Duty}
use Rattle.journal_lock.specs.declared.duty.Duty.TheVariants.{Session}
use Rattle.journal_lock.specs.Duties.{number, has, often, Among}
use Rattle.journal_lock.specs.Law.{HasCommands}
use Rattle.journal_lock.specs.Passes.{Hand}
use Rattle.journal_lock.proofs.Pairs.{can_begin, begun_once, has_session, session_of}
use Rattle.journal_lock.proofs.both.begin_session.Goals as goal

pub take-holder-requires-clause-duty : goal.take-holder-requires-clause-duty
take-holder-requires-clause-duty g c = let s = c.args.session in (number (Session s), subst (λ (ds : List Duty). 0 < has number (number (Session s)) ds) (sym c.requires.duties) (has_session s))

pub push-requires-clause-step : goal.push-requires-clause-step
push-requires-clause-step g c =
    let s = c.args.session in let held = c.take-holder.ensures in
    let log = ap (λ (h : Hand). h.log) c.reserve.ensures.same ∙ held.whole in
    let load = ap (λ (h : Hand). h.workload) c.reserve.ensures.same ∙ held.workload in
    let mine = subst (λ (ds : List Duty). 0 < has number (number (Session s)) ds) (sym c.requires.duties) (has_session s) in
    let none : often (number (Session s)) c.reserve.new.self.log ≡ 0 = ap (often (number (Session s))) log ∙ (held.seen.1 (number (Session s)) mine ∙ c.requires.none) in
    can_begin c.reserve.new.self.workload c.reserve.new.self.log s (subst (λ (l : Workload). HasCommands l s) (sym load) c.requires.session) none

pub push-requires-clause-duties : goal.push-requires-clause-duties
push-requires-clause-duties g c =
    let s = c.args.session in let held = c.take-holder.ensures in let is = ap (λ (h : Hand). h.duties) c.reserve.ensures.same ∙ (held.duties ∙ c.requires.duties) in
    subst (λ (ds : List Duty). Among number (session_of s) ds) (sym is) (λ x. le_refl (has number x (session_of s)))

pub returns-clause-begun : goal.returns-clause-begun
returns-clause-begun g c _ =
    let s = c.args.session in let held = c.take-holder.ensures in let log = ap (λ (h : Hand). h.log) c.reserve.ensures.same ∙ held.whole in
    let mine = subst (λ (ds : List Duty). 0 < has number (number (Session s)) ds) (sym c.requires.duties) (has_session s) in
    let none = ap (often (number (Session s))) log ∙ (held.seen.1 (number (Session s)) mine ∙ c.requires.none) in
    ap (often (number (Session s))) (c.give.ensures.seen ∙ ap (λ (h : Hand). h.log) c.push.ensures.log) ∙ begun_once s c.reserve.new.self.log none
