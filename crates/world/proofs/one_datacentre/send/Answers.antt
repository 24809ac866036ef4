use Rattle.world.proofs.CallLemmas.{sent_ok}
use Rattle.world.proofs.one_datacentre.send.Goals as goal

pub returns : goal.returns
returns c z seen = sent_ok c.args.d c.number.result z c.args.datacentres.now c.item_mut.result.now c.number.ensures.value c.item_mut.ensures.value seen c.args.k c.args.e c.send.result c.send.new.self c.send.ensures.turn
