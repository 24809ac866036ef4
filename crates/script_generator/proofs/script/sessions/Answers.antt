-- What the check asks of `sessions` beyond what it finds by itself.
use Rattle.std.proofs.Common.{rules}
use Rattle.script_generator.specs.Generated.{plan}
use Rattle.script_generator.proofs.DrawLemmas.{many_none, many_more}
use Rattle.script_generator.proofs.script.sessions.Goals as goal

pub loop-s-init : goal.loop-s-init
loop-s-init c = many_none plan _ _ (search rules)

pub loop-s-preserved : goal.loop-s-preserved
loop-s-preserved c = many_more plan _ _ _ _ _ _ _ c.loop-s.invariant c.in_ok-plan.ensures c.in_ok-push.ensures.ok
