use Rattle.std.proofs.Common.{length}
use Rattle.token_queue.proofs.DrainLemmas.{drain_is_causal}
use Rattle.token_queue.proofs.laws.drained_logs_are_causal.Goals as goal

pub returns : goal.returns
returns c = λ d log items causal. drain_is_causal d (length items) log items causal
