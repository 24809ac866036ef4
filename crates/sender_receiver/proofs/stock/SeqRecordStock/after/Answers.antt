use Rattle.std.proofs.Common.{sym, arith}
use Rattle.sender_receiver.proofs.Placed.{after_some, after_none}
use Rattle.sender_receiver.proofs.stock.SeqRecordStock.after.Goals as goal

pub returns-then-lid-len : goal.returns-then-lid-len
returns-then-lid-len c = sym (after_some 1 c.args.self.now c.args.lid (omega arith) (omega (arith, c.if-lid-len.true, c.len.ensures)))

pub returns-else-lid-len : goal.returns-else-lid-len
returns-else-lid-len c = sym (after_none 1 c.args.self.now c.args.lid (omega (arith, c.if-lid-len.false, c.len.ensures)))
