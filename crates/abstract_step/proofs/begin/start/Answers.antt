use Rattle.std.proofs.Common.{ap, sym, ◌∙◌, subst, map}
use Rattle.abstract_log.specs.Worlds.{start, first_standing}
use Rattle.abstract_log.specs.Shapes.{IsShaped}
use Rattle.abstract_log.proofs.ShapesLemmas.{same_world, shaped_at_start}
use Rattle.abstract_step.proofs.begin.start.Goals as goal

pub returns-clause-start : goal.returns-clause-start
returns-clause-start c = same_world _ (start c.args.workload.now) c.in_ok-copy.ensures c.in_ok-logs.ensures c.in_ok-tables.ensures c.in_ok-pending.ensures c.in_ok-gone.ensures
    (c.in_ok-sessions.ensures ∙ ap (λ plans. map (λ _. first_standing c.args.workload.now.dcs) plans) c.as_slice.ensures)

pub returns-clause-shaped : goal.returns-clause-shaped
returns-clause-shaped c = subst IsShaped (sym (returns-clause-start c)) (shaped_at_start c.args.workload.now c.requires)
