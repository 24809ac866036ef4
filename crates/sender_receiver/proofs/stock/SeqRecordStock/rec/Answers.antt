use Rattle.sender_receiver.proofs.Placed.{place_within, read_at, not_missing}
use Rattle.sender_receiver.proofs.stock.SeqRecordStock.rec.Goals as goal

pub overflow_sub-lid : goal.overflow_sub-lid
overflow_sub-lid c = (place_within c.args.self.now c.args.lid c.requires).0

pub unreachable-requires : goal.unreachable-requires
unreachable-requires c = not_missing c.args.self.now c.args.lid c.requires c.in-None.ensures.value

pub returns : goal.returns
returns c = read_at c.args.self.now c.args.lid _ (place_within c.args.self.now c.args.lid c.requires).0 c.in-Some.ensures.value
