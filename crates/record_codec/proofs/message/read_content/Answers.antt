use Rattle.std.proofs.Common.{arith}
use Rattle.record_codec.proofs.Messages.{from_fails, number_fails, table_fails, records_fails, message_of_parts, content_took}
use Rattle.record_codec.proofs.Places.{exits}
use Rattle.record_codec.proofs.message.read_content.Goals as goal

pub returns-in_err-from-clause-fault : goal.returns-in_err-from-clause-fault
returns-in_err-from-clause-fault c = exits c.from_residual.result _ c.from_residual.ensures.1 c.in_err-from.ensures.fault (from_fails _ _ _ c.requires.0)

pub returns-in_err-small-clause-fault : goal.returns-in_err-small-clause-fault
returns-in_err-small-clause-fault c =
    exits c.from_residual-in_err-small.result _ c.from_residual-in_err-small.ensures.1 c.in_err-small.ensures.fault
    (number_fails _ _ c.requires.0 c.requires.1 c.in_ok-from.ensures.ok c.in_ok-from.ensures.took)

pub returns-in_err-table-clause-fault : goal.returns-in_err-table-clause-fault
returns-in_err-table-clause-fault c =
    exits c.from_residual-in_err-table.result _ c.from_residual-in_err-table.ensures.1 c.in_err-table.ensures.fault
    (table_fails _ _ c.requires.0 c.requires.1 c.in_ok-from.ensures.ok c.in_ok-from.ensures.took c.in_ok-small.ensures.ok c.in_ok-small.ensures.took)

pub returns-in_err-records-clause-fault : goal.returns-in_err-records-clause-fault
returns-in_err-records-clause-fault c =
    exits c.from_residual-in_err-records.result _ c.from_residual-in_err-records.ensures.1 c.in_err-records.ensures.fault
    (records_fails _ _ _ c.requires.0 c.requires.1 c.in_ok-from.ensures.ok c.in_ok-from.ensures.took c.in_ok-small.ensures.ok c.in_ok-small.ensures.took
    c.in_ok-table.ensures.ok c.in_ok-table.ensures.took)

pub returns-clause-ok : goal.returns-clause-ok
returns-clause-ok c = message_of_parts _ _ _ (omega (arith, c.in_ok-from.ensures.ok.greatest, c.requires.0)) c.in_ok-table.ensures.ok c.in_ok-records.ensures.ok

pub returns-clause-took : goal.returns-clause-took
returns-clause-took c =
    content_took _ _ _ (record { from = c.in_ok-from.from; table = c.in_ok-table.table; records = c.in_ok-records.records }) c.in_ok-from.ensures.took
    c.in_ok-small.ensures.ok c.in_ok-small.ensures.took c.in_ok-table.ensures.took c.in_ok-records.ensures.took
