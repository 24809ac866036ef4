use Rattle.std.proofs.Common.{ltb, take}
use Rattle.std.specs.Option.{option_copied}
use Rattle.stage_world.proofs.StockLemmas.{read_by}
use Rattle.stage_turns.proofs.StockLemmas.{IsNearest}
use Rattle.stage_turns.proofs.sender_stock.SenderStock.next.Given as goal

abbrev pub invariant-loop-maintainer : goal.invariant-loop-maintainer
invariant-loop-maintainer l = IsNearest (λ x. ltb l.lid x.lid) (read_by l.self.k l.self.senders (take l.maintainer-index l.maintainer-items)) (option_copied l.nearest)
