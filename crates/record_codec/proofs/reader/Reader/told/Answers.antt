use Rattle.record_codec.proofs.Places.{both_ok, exits, weaker}
use Rattle.record_codec.proofs.Told.{sparse_took, told_count_fails, told_each_fails}
use Rattle.record_codec.proofs.reader.Reader.told.Goals as goal

pub returns-in_err-count-clause-fault : goal.returns-in_err-count-clause-fault
returns-in_err-count-clause-fault c = exits c.from_residual.result _ c.from_residual.ensures.1 c.in_err-count.ensures.fault (told_count_fails _ _ _ c.requires.own c.requires.host)

pub returns-clause-fault : goal.returns-clause-fault
returns-clause-fault c = weaker c.told_of.result c.told_of.ensures.fault (told_each_fails _ _ c.requires.host c.requires.dcs.1 c.in_ok-count.ensures.ok c.in_ok-count.ensures.took)

pub returns-clause-ok : goal.returns-clause-ok
returns-clause-ok c = both_ok c.told_of.result c.told_of.ensures.ok c.told_of.ensures.ok (λ dep told same. told.entries)

pub returns-clause-took : goal.returns-clause-took
returns-clause-took c = both_ok c.told_of.result c.told_of.ensures.ok c.told_of.ensures.took (λ dep told took. sparse_took _ _ _ dep told c.in_ok-count.ensures.took took)
