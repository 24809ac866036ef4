use Rattle.world.proofs.CallLemmas.{taken_ok}
use Rattle.world.proofs.one_datacentre.take.Goals as goal

pub returns : goal.returns
returns c z seen = taken_ok c.args.d c.number.result z c.args.datacentres.now c.item_mut.result.now c.number.ensures.value c.item_mut.ensures.value seen c.args.step.now c.turn.result c.turn.new.self c.turn.ensures.turn
