use Rattle.std.proofs.Common.{◌∙◌, ◌∷◌, [], ◌++◌, ap}
use Rattle.abstract_log.specs.declared.script.Step.TheVariants.{Client}
use Rattle.stage_world.specs.Stages.{Session}
use Rattle.world.proofs.RoundLemmas.{map_more}
use Rattle.world.proofs.rounds.add_clients.Goals as goal

pub loop-session-preserved : goal.loop-session-preserved
loop-session-preserved c =
    c.in_ok-push.ensures.ok ∙ ap (λ n. c.loop-session.steps ++ Client n ∷ []) c.number.ensures.value
    ∙ map_more (λ (x : Session). Client x.number) _ _ _ _ _ c.loop-session-test.true c.session-item.is c.loop-session.invariant
