use Rattle.std.proofs.Common.{sym, subst}
use Rattle.abstract_log.specs.Turns.{IsStep}
use Rattle.world.specs.Taking.{HasTaken, StagesState, lines_told}
use Rattle.world.proofs.TakingLemmas.{may_take_some, run_written, some_written, taken_written, wrote_if}
use Rattle.world.proofs.stages.Stages.take.Goals as goal

pub step-requires : goal.step-requires
step-requires c =
    may_take_some _ c.args.step.now (c.self.invariant c.if-self.false) (subst (λ (s : StagesState). IsStep s.workload c.args.step.now) (sym c.self.view_is) c.requires.step)

pub invariant_of-self-2 : goal.invariant_of-self-2
invariant_of-self-2 c well =
    some_written _ c.args.step.now c.args.settling c.step.new.self c.in_ok-done.done (lines_told c.args.step.now c.in_ok-done.done.outcome c.args.settling c.in_ok-done.done.changed) c.append.new.self c.write_line.new.lines c.in_ok-append.ensures.ok c.in_ok-write_line.ensures
    (subst (λ (s : StagesState). IsStep s.workload c.args.step.now) (sym c.self.view_is) c.requires.step) (λ z may. (c.in_ok-done.ensures.moved z may, wrote_if _ z _ _ _ _ (c.in_ok-done.ensures.told z may))) (c.self.invariant c.if-self.false)

pub returns-clause-taken : goal.returns-clause-taken
returns-clause-taken c script ts h =
    taken_written _ c.args.step.now c.args.settling c.step.new.self c.in_ok-done.done (lines_told c.args.step.now c.in_ok-done.done.outcome c.args.settling c.in_ok-done.done.changed) c.append.new.self c.write_line.new.lines c.in_ok-append.ensures.ok c.in_ok-write_line.ensures
    (subst (λ (s : StagesState). IsStep s.workload c.args.step.now) (sym c.self.view_is) c.requires.step) (λ z may. (c.in_ok-done.ensures.moved z may, wrote_if _ z _ _ _ _ (c.in_ok-done.ensures.told z may)))
    script ts (subst (HasTaken script ts) (sym c.self.view_is) h)

pub returns-clause-run : goal.returns-clause-run
returns-clause-run c =
    run_written _ c.args.step.now c.args.settling c.step.new.self c.in_ok-done.done (lines_told c.args.step.now c.in_ok-done.done.outcome c.args.settling c.in_ok-done.done.changed) c.append.new.self c.write_line.new.lines c.in_ok-append.ensures.ok c.in_ok-write_line.ensures
    (subst (λ (s : StagesState). IsStep s.workload c.args.step.now) (sym c.self.view_is) c.requires.step) (λ z may. (c.in_ok-done.ensures.moved z may, wrote_if _ z _ _ _ _ (c.in_ok-done.ensures.told z may))) (c.self.invariant c.if-self.false)
