use Rattle.std.proofs.Common.{length, refl}
use Rattle.token_queue.proofs.DrainLemmas.{counts_suffice}
use Rattle.token_queue.proofs.laws.counts_are_enough.Goals as goal

pub returns : goal.returns
returns c = λ d log counts items there are fit. counts_suffice (length counts) d (length items) log counts items there refl are fit
