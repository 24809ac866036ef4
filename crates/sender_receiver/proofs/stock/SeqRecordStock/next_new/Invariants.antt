use Rattle.sender_receiver.proofs.Placed.{AreOld}
use Rattle.sender_receiver.proofs.stock.SeqRecordStock.next_new.Given as goal

abbrev pub invariant-loop-at : goal.invariant-loop-at
invariant-loop-at l = AreOld l.host l.known l.lid l.rec-items l.at
