use Rattle.std.proofs.Common.{length}
use Rattle.sender_receiver.proofs.Walking.{IsWalked, news}
use Rattle.sender_receiver.proofs.choosing.first_news.Given as goal

abbrev pub invariant-news : goal.invariant-news
invariant-news g l = IsWalked l.host l.known (g.T.Stock.held l.stock) l.lid l.records

abbrev pub decreases-news : goal.decreases-news
decreases-news g l = length (news l.host l.known l.lid (g.T.Stock.held l.stock))
