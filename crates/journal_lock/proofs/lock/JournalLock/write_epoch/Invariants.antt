-- What holds in the loop of `write_epoch`, and what this lock is made for.
use Rattle.std.proofs.Common.{◌≡◌, ◌<◌, ◌≤◌, length}
use Rattle.flstore_rounds.specs.Epochs.{IsEpochList}
use Rattle.journal_lock.specs.Heads.{known_list}
use Rattle.journal_lock.proofs.lock.JournalLock.write_epoch.Given as goal

abbrev pub ghosts-holds_none : goal.ghosts-holds_none
ghosts-holds_none a = record { load = a.self.now.workload; round = a.self.now.round }

abbrev pub invariant-loop-at : goal.invariant-loop-at
invariant-loop-at l = (l.pass ≡ l.fn.pass) × (l.at ≤ length (known_list l.fn.self.round l.fn.dc l.fn.pass.notes).list) × (0 < l.at → IsEpochList (known_list l.fn.self.round l.fn.dc l.fn.pass.notes))
