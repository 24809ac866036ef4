-- What holds in the loop of `learn_often`.
use Rattle.std.proofs.Common.{◌≡◌, ◌+◌, false}
use Rattle.journal_lock.specs.declared.duty.Duty.TheVariants.{Table}
use Rattle.journal_lock.specs.Duties.{number, often}
use Rattle.test_journal.proofs.learning.learn_often.Given as goal

abbrev pub invariant-loop : goal.invariant-loop
invariant-loop g l =
    (l.pass.table ≡ l.fn.pass.table) × (l.pass.workload ≡ l.fn.pass.workload) × (l.pass.duties ≡ l.fn.pass.duties)
    × (l.pass.failed ≡ false → often (number (Table l.fn.dc)) l.pass.seen ≡ often (number (Table l.fn.dc)) l.fn.pass.seen + l.counter)
