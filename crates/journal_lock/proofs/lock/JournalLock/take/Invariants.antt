-- What holds in the loop of `take`.
use Rattle.std.proofs.Common.{◌≡◌}
use Rattle.journal_lock.proofs.lock.JournalLock.take.Given as goal

abbrev pub invariant-loop : goal.invariant-loop
invariant-loop g l = l.pass ≡ l.fn.pass
