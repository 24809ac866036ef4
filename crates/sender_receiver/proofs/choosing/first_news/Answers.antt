use Rattle.std.proofs.Common.{sym, arith}
use Rattle.sender_receiver.proofs.Walking.{begun, fewer, told, full, ended}
use Rattle.sender_receiver.proofs.choosing.first_news.Goals as goal
use Rattle.sender_receiver.proofs.choosing.first_news.Goals.{else-news-test, then-news-test+in_default}

pub news-init : goal.news-init
news-init g c = begun c.args.host c.args.known _ _ (g.met.T.Stock.rising c.args.stock.now) c.new-records.ensures

pub news-smaller : goal.news-smaller
news-smaller g c = fewer c.args.host c.args.known _ c.news.lid _ (g.met.T.Stock.rising c.args.stock.now) (sym c.in-Some.ensures)

pub news-preserved : goal.news-preserved
news-preserved g c =
    told c.args.host c.args.known _ c.news.lid _ c.news.records c.in_ok-copy.field-0 c.push.new.self (g.met.T.Stock.rising c.args.stock.now) (sym c.in-Some.ensures) c.in_ok-copy.ensures
    (omega (arith, c.news-test.true, c.len.ensures)) c.news.invariant c.in_ok-push.ensures.ok

pub returns : goal.returns
returns g c = elim c.news-test.branch [
  | else-news-test w ↦ full c.args.host c.args.known _ c.news.lid _ (omega (arith, w.news-test.false, c.len.ensures)) c.news.invariant
  | then-news-test+in_default w ↦ ended c.args.host c.args.known _ c.news.lid _ (sym w.in_default.ensures) c.news.invariant
]
