use Rattle.std.proofs.Common.{List, sym, subst, ap, arith}
use Rattle.journal_lock.specs.Passes.{Ticket}
use Rattle.journal_lock.specs.Ties.{IsTied}
use Rattle.journal_lock.proofs.TieLemmas.{rest_of_table, table_tied}
use Rattle.journal_lock.proofs.splits.split_table.Goals as goal

pub split_duty-requires-clause-tied : goal.split_duty-requires-clause-tied
split_duty-requires-clause-tied c =
    let t = c.args.pass.now in (rest_of_table t.workload t.duties c.args.dc (omega (arith, c.number-number.ensures.value, c.number-number.ensures.within)) c.requires.tied c.requires.duty, table_tied t.workload c.args.dc (omega (arith, c.number-number.ensures.value, c.number-number.ensures.within)))

pub returns-clause-tied : goal.returns-clause-tied
returns-clause-tied c =
    let t = c.args.pass.now in subst (λ (p : Ticket). IsTied p.workload p.duties) (sym c.split_duty.ensures.kept) (rest_of_table t.workload t.duties c.args.dc (omega (arith, c.number-number.ensures.value, c.number-number.ensures.within)) c.requires.tied c.requires.duty)
