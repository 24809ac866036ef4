use Rattle.stage_turns.proofs.StockLemmas.{stock_rises}
use Rattle.stage_turns.proofs.sending.has_more.Goals as goal

pub invariant_of-stock : goal.invariant_of-stock
invariant_of-stock c = record { some = c.requires.some; apart = c.requires.apart; rising = stock_rises _ _ _ c.requires.apart }
