-- What the check asks of `steps` beyond what it finds by itself.
use Rattle.std.proofs.Common.{rules}
use Rattle.script_generator.specs.Generated.{step}
use Rattle.script_generator.proofs.DrawLemmas.{many_none, many_more}
use Rattle.script_generator.proofs.script.steps.Goals as goal

pub loop-step-init : goal.loop-step-init
loop-step-init c = many_none (λ _. step) _ _ (search rules)

pub loop-step-preserved : goal.loop-step-preserved
loop-step-preserved c = many_more (λ _. step) _ _ _ _ _ _ _ c.loop-step.invariant c.step.ensures c.in_ok-push.ensures.ok
