use Rattle.std.proofs.Common.{[], ◌∷◌}
use Rattle.journal_lock.specs.declared.duty.Duty.TheVariants.{Token, Queue}
use Rattle.journal_lock.specs.Duties.{number}
use Rattle.journal_lock.proofs.Lists.{has_self}
use Rattle.journal_lock.proofs.splits.split_token.Goals as goal

pub split_with_names-requires-clause-right : goal.split_with_names-requires-clause-right
split_with_names-requires-clause-right c = let queue = Queue c.args.dc c.args.member in λ p more. (number queue, has_self number queue (Token c.args.dc ∷ []))
