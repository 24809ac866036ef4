use Rattle.std.proofs.Common.{◌≡◌, ◌<◌, ◌∙◌, ℕ, List, [], length, get_or, replicate, ap, sym, subst, arith}
use Rattle.std.proofs.lemmas.List.{length-replicate}
use Rattle.abstract_log.specs.declared.command.Workload.{Workload}
use Rattle.abstract_log.specs.Worlds.{start}
use Rattle.abstract_log.specs.Runs.{world_of}
use Rattle.journal_lock.specs.declared.duty.Duty.{Duty}
use Rattle.journal_lock.specs.declared.duty.Duty.TheVariants.{Table}
use Rattle.journal_lock.specs.Duties.{number, has}
use Rattle.journal_lock.specs.Passes.{Hand}
use Rattle.journal_lock.proofs.Lists.{has_self}
use Rattle.journal_lock.proofs.Finds.{zeros}
use Rattle.journal_lock.proofs.Standing.{same_plan}
use Rattle.test_journal.proofs.learning.learn_one.Goals as goal

pub take-holder-requires-clause-duty : goal.take-holder-requires-clause-duty
take-holder-requires-clause-duty g c = let d = c.args.dc in (number (Table d), subst (λ (ds : List Duty). 0 < has number (number (Table d)) ds) (sym c.requires.duties) (has_self number (Table d) []))

pub push-requires-clause-step : goal.push-requires-clause-step
push-requires-clause-step g c =
    let log = c.reserve.new.self.log in let load = ap (λ (h : Hand). h.workload) c.reserve.ensures.same ∙ c.take-holder.ensures.workload in
    let dcs = (same_plan (start c.reserve.new.self.workload) log).0 in let count : (world_of c.reserve.new.self.workload log).workload.dcs ≡ c.args.dcs = ap (λ (l : Workload). l.dcs) (dcs ∙ load) ∙ c.requires.dcs.0 in
    let row : c.in-Ok.row ≡ replicate c.args.dcs 0 = c.in-Ok.ensures ∙ c.zero.ensures in let long : length c.in-Ok.row ≡ c.args.dcs = ap length row ∙ length-replicate {A = ℕ} c.args.dcs 0 in (
      (omega (arith, c.requires.dcs.3), long ∙ sym count),
      ((λ h. (let none = zeros c.args.dcs h in let at = ap (λ (l : List ℕ). get_or l h 0) row in omega arith)), tt),
    )
