use Rattle.stage_turns.proofs.StockLemmas.{stock_rises}
use Rattle.stage_turns.proofs.sending.send.Goals as goal

pub invariant_of-stock : goal.invariant_of-stock
invariant_of-stock c = record { some = c.requires.look.some; apart = c.requires.look.apart; rising = stock_rises _ _ _ c.requires.look.apart }
