use Rattle.stage_turns.proofs.NewsLemmas.{tells}
use Rattle.stage_turns.proofs.sending.has_news.Goals as goal

pub returns : goal.returns
returns g c = tells _ c.args.host c.args.known _ c.next_new.result _ (g.met.T.Stock.rising c.args.stock.now) c.next_new.ensures c.is_some.ensures
