-- What the check asks of `plan` beyond what it finds by itself.
use Rattle.std.proofs.Common.{◌+◌, rules}
use Rattle.script_generator.specs.Generated.{command}
use Rattle.script_generator.proofs.DrawLemmas.{many_none, many_more}
use Rattle.script_generator.proofs.commands.plan.Goals as goal

pub loop-before-init : goal.loop-before-init
loop-before-init c = many_none (λ n. command c.args.s (n + 1)) _ _ (search rules)

pub loop-before-preserved : goal.loop-before-preserved
loop-before-preserved c = many_more (λ n. command c.args.s (n + 1)) _ _ _ _ _ _ _ c.loop-before.invariant c.in_ok-command.ensures c.in_ok-push.ensures.ok
