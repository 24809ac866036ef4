use Rattle.post_assignment.proofs.AppendLemmas.{next_is_own, next_lid_is, next_vacant}
use Rattle.std.proofs.Common.{arith}
use Rattle.maintainer.proofs.LawLemmas.{mark_ends}
use Rattle.post_assignment.proofs.appender.next_lid.Goals as goal

pub returns-clause-value : goal.returns-clause-value
returns-clause-value g c = next_lid_is {T = g.row.T.Denot} c.args.maintainer.now c.epochs.result.now c.number.result c.filled.result c.next_own.result c.epochs.ensures.value c.number.ensures c.filled.ensures.value c.next_own.ensures.least c.next_own.ensures.within

pub returns-clause-next : goal.returns-clause-next
returns-clause-next g c = next_vacant {T = g.row.T.Denot} c.args.maintainer.now c.epochs.result.now c.number.result c.filled.result c.next_own.result c.epochs.ensures.value c.number.ensures c.filled.ensures.value c.next_own.ensures.least

pub returns-clause-own : goal.returns-clause-own
returns-clause-own g c =
    let next = next_vacant {T = g.row.T.Denot} c.args.maintainer.now c.epochs.result.now c.number.result c.filled.result c.next_own.result c.epochs.ensures.value c.number.ensures c.filled.ensures.value c.next_own.ensures.least in
    next_is_own c.args.maintainer.now c.next_own.result (omega (arith, c.filled.ensures.value, c.filled.ensures.within.0)) next

pub returns-clause-vacant : goal.returns-clause-vacant
returns-clause-vacant g c =
    let next = next_vacant {T = g.row.T.Denot} c.args.maintainer.now c.epochs.result.now c.number.result c.filled.result c.next_own.result c.epochs.ensures.value c.number.ensures c.filled.ensures.value c.next_own.ensures.least in
    mark_ends c.args.maintainer.now c.next_own.result next
