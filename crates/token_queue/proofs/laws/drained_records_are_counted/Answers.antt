use Rattle.std.proofs.Common.{length, refl}
use Rattle.token_queue.proofs.DrainLemmas.{drain_counts}
use Rattle.token_queue.proofs.laws.drained_records_are_counted.Goals as goal

pub returns : goal.returns
returns c = λ d log counts items there are fit. drain_counts (length counts) d (length items) log items there fit counts refl are
