use Rattle.std.proofs.Common.{◌++◌, ◌∷◌, [], ◌∙◌, ap}
use Rattle.flstore_service.specs.declared.script.FlStep.{FlStep}
use Rattle.flstore_service.proofs.ServedLemmas.{running_on}
use Rattle.flstore_service.proofs.run.take_steps.Goals as goal

pub loop-step-preserved : goal.loop-step-preserved
loop-step-preserved c = running_on c.args.service.now c.loop-step.service c.turn.new.self c.args.steps.now c.loop-step.step-index c.loop-step.lines c.push.new.self c.step-item.result c.in_ok-outcome.outcome c.loop-step.invariant c.loop-step-test.true c.step-item.is c.requires.steps c.requires.fits c.in_ok-outcome.ensures
    (c.in_ok-push.ensures.ok ∙ ap (λ (x : FlStep). c.loop-step.lines ++ record { step = x; outcome = c.in_ok-outcome.outcome } ∷ []) c.in_ok-step.ensures)
