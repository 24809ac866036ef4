use Rattle.std.proofs.Common.{◌∙◌}
use Rattle.abstract_log.specs.declared.script.Step.TheVariants.{Post}
use Rattle.world.proofs.RoundLemmas.{numbered_more}
use Rattle.world.proofs.rounds.add_posts_of.Goals as goal

pub loop-i-preserved : goal.loop-i-preserved
loop-i-preserved c = c.in_ok-push.ensures.ok ∙ numbered_more (Post c.args.d c.args.m) _ _ _ c.loop-i.invariant
