use Rattle.std.proofs.Common.{◌∙◌}
use Rattle.abstract_log.specs.declared.script.Step.TheVariants.{Post}
use Rattle.stage_world.specs.Opening.{numbered}
use Rattle.world.proofs.RoundLemmas.{flat_more}
use Rattle.world.proofs.rounds.add_posts.Goals as goal

pub loop-m-preserved : goal.loop-m-preserved
loop-m-preserved c = c.in_ok-add_posts_of.ensures ∙ flat_more (λ m. numbered (Post c.args.d m) c.args.indexers) _ _ _ c.loop-m.invariant
