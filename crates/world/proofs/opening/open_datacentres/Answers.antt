use Rattle.std.proofs.Common.{◌∷◌, [], ◌++◌, ap, ◌∙◌}
use Rattle.datacentre.specs.Seen.{DatacentreState}
use Rattle.world.proofs.OpeningLemmas.{opened_next}
use Rattle.world.proofs.opening.open_datacentres.Goals as goal

pub loop-number-preserved : goal.loop-number-preserved
loop-number-preserved c =
    c.in_ok-push.ensures.ok ∙ ap (λ (y : DatacentreState). c.loop-number.datacentres ++ y ∷ []) c.in_ok-open_datacentre.ensures
    ∙ opened_next c.args.script.now c.loop-number.number c.loop-number.datacentres c.loop-number.invariant
