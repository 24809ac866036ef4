use Rattle.std.proofs.Common.{refl}
use Rattle.journal_lock.proofs.TieLemmas.{none_tied}
use Rattle.journal_lock.proofs.parts.split_bare.Goals as goal

pub split-requires-clause-tied : goal.split-requires-clause-tied
split-requires-clause-tied c = (c.requires.tied, none_tied c.args.pass.now.workload _ (λ x. refl))
