-- What holds in the loop of `load_epochs`.
use Rattle.std.proofs.Common.{◌≡◌, ◌≤◌, take, length, vec_capacity}
use Rattle.journal_lock.proofs.lock.JournalLock.load_epochs.Given as goal

abbrev pub invariant-loop-epoch : goal.invariant-loop-epoch
invariant-loop-epoch l = (l.list.items ≡ take l.epoch-index l.epoch-items) × (16 ≤ vec_capacity l.list)
