use Rattle.record_codec.proofs.Fields.{names_count_fails, names_each_fails, names_sized, names_took}
use Rattle.record_codec.proofs.Places.{both_ok, exits, weaker}
use Rattle.record_codec.proofs.reader.Reader.names.Goals as goal

pub returns-in_err-count-clause-fault : goal.returns-in_err-count-clause-fault
returns-in_err-count-clause-fault c = exits c.from_residual.result _ c.from_residual.ensures.1 c.in_err-count.ensures.fault (names_count_fails _ _ _)

pub returns-clause-fault : goal.returns-clause-fault
returns-clause-fault c = weaker c.names_of.result c.names_of.ensures.fault (names_each_fails _ _ c.requires.fits c.in_ok-count.ensures.ok c.in_ok-count.ensures.took)

pub returns-clause-ok : goal.returns-clause-ok
returns-clause-ok c = both_ok c.names_of.result c.names_of.ensures.ok c.names_of.ensures.ok (λ names each same. names_sized _ _ _ names c.in_ok-count.ensures.ok each)

pub returns-clause-took : goal.returns-clause-took
returns-clause-took c = both_ok c.names_of.result c.names_of.ensures.ok c.names_of.ensures.took (λ names each took. names_took _ names each c.in_ok-count.ensures.took took)
