use Rattle.std.proofs.Common.{refl}
use Rattle.maintainer.proofs.PassLemmas.{filled_shown, filled_gone}
use Rattle.maintainer.proofs.slot.is_filled.Goals as goal

pub returns-in-Some : goal.returns-in-Some
returns-in-Some g c = (λ _. filled_shown c.args.slots.now c.args.gone.now c.args.lid _ c.in-Some.ensures, λ _. refl)

pub returns-in-None : goal.returns-in-None
returns-in-None g c = filled_gone c.args.slots.now c.args.gone.now c.args.lid _ c.in-None.ensures c.has_position.ensures
