use Rattle.record_codec.proofs.Messages.{count_fails, each_fails, records_sized, records_took}
use Rattle.record_codec.proofs.Places.{both_ok, exits, weaker}
use Rattle.record_codec.proofs.message.read_records.Goals as goal

pub returns-in_err-count-clause-fault : goal.returns-in_err-count-clause-fault
returns-in_err-count-clause-fault c = exits c.from_residual.result _ c.from_residual.ensures.1 c.in_err-count.ensures.fault (count_fails _ _ _ _ c.requires.host)

pub returns-clause-fault : goal.returns-clause-fault
returns-clause-fault c = weaker c.read_each.result c.read_each.ensures.fault (each_fails _ _ _ c.in_ok-count.ensures.ok c.in_ok-count.ensures.took)

pub returns-clause-ok : goal.returns-clause-ok
returns-clause-ok c = both_ok c.read_each.result c.read_each.ensures.ok c.read_each.ensures.ok (λ records each same. records_sized _ _ _ _ records c.in_ok-count.ensures.ok each)

pub returns-clause-took : goal.returns-clause-took
returns-clause-took c = both_ok c.read_each.result c.read_each.ensures.ok c.read_each.ensures.took (λ records each took. records_took _ _ _ _ records each c.in_ok-count.ensures.took took)
