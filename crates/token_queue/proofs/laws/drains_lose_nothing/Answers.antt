use Rattle.std.proofs.Common.{length}
use Rattle.token_queue.proofs.DrainLemmas.{drain_permutes, drain_sums, drain_keeps_order}
use Rattle.token_queue.proofs.laws.drains_lose_nothing.Goals as goal

pub returns : goal.returns
returns c = record {
  permutation = λ d log items. drain_permutes d (length items) log items;
  sums = λ d log items f. drain_sums d (length items) log items f;
  order = λ d log items. drain_keeps_order d (length items) log items;
}
