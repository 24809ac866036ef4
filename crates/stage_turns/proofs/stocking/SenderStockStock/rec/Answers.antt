use Rattle.std.proofs.Common.{ap}
use Rattle.std.specs.Option.{option_copied}
use Rattle.stage_turns.proofs.StockLemmas.{at_place, not_missing, read_there}
use Rattle.stage_turns.proofs.stocking.SenderStockStock.rec.Goals as goal

pub overflow_sub-lid : goal.overflow_sub-lid
overflow_sub-lid c = (at_place _ 0 c.args.lid c.args.self.now.rising c.requires).past

pub unreachable-requires : goal.unreachable-requires
unreachable-requires c = not_missing _ c.args.lid _ c.args.self.now.rising c.requires c.next.ensures (ap option_copied c.in-None.is)

pub returns : goal.returns
returns c = read_there _ c.args.lid _ _ c.args.self.now.rising c.requires c.next.ensures (ap option_copied c.in-Some.is)
