use Rattle.std.proofs.Common.{take}
use Rattle.std.specs.Option.{option_copied}
use Rattle.sender_receiver.specs.Choosing.{is_new_above}
use Rattle.stage_world.proofs.StockLemmas.{read_by}
use Rattle.stage_turns.proofs.StockLemmas.{IsNearest}
use Rattle.stage_turns.proofs.sender_stock.SenderStock.next_news.Given as goal

abbrev pub invariant-loop-maintainer : goal.invariant-loop-maintainer
invariant-loop-maintainer l = IsNearest (is_new_above l.host l.known l.lid) (read_by l.self.k l.self.senders (take l.maintainer-index l.maintainer-items)) (option_copied l.nearest)
