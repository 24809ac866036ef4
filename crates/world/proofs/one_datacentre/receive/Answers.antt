use Rattle.world.proofs.CallLemmas.{received_ok}
use Rattle.world.proofs.one_datacentre.receive.Goals as goal

pub returns : goal.returns
returns c z m seen spelled =
    received_ok c.args.d c.number.result z c.args.datacentres.now c.item_mut.result.now c.number.ensures.value c.item_mut.ensures.value seen c.args.r c.args.packet.now m c.receive.result c.receive.new.self c.receive.ensures.turn spelled
