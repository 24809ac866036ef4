use Rattle.std.proofs.Common.{◌∙◌, ◌∷◌, [], ◌++◌, ◌+◌, ◌%◌, ap, append_assoc}
use Rattle.abstract_log.specs.declared.script.Step.TheVariants.{Stamp, Token}
use Rattle.world.proofs.RoundLemmas.{flat_more}
use Rattle.world.proofs.rounds.add_ring.Goals as goal

pub loop-i-preserved : goal.loop-i-preserved
loop-i-preserved c =
    c.in_ok-push-2.ensures.ok ∙ ap (λ ys. ys ++ Token c.args.d ∷ []) c.in_ok-push.ensures.ok
    ∙ append_assoc c.loop-i.steps (Stamp c.args.d ((c.args.holder + c.loop-i.i) % c.args.queues) ∷ []) (Token c.args.d ∷ [])
    ∙ flat_more (λ i. Stamp c.args.d ((c.args.holder + i) % c.args.queues) ∷ Token c.args.d ∷ []) _ _ _ c.loop-i.invariant
