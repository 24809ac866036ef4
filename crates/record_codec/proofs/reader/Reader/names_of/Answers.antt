use Rattle.record_codec.proofs.Fields.{name_fails, names_more}
use Rattle.record_codec.proofs.Places.{exits}
use Rattle.record_codec.proofs.reader.Reader.names_of.Goals as goal

pub loop-done-preserved : goal.loop-done-preserved
loop-done-preserved c =
    names_more _ _ _ _ c.in_ok-push.ensures.ok c.loop-done.invariant.0 c.in_ok-name.ensures.ok c.loop-done.invariant.1 c.in_ok-name.ensures.took

pub returns-in_err-name-clause-fault : goal.returns-in_err-name-clause-fault
returns-in_err-name-clause-fault c =
    exits c.from_residual.result _ c.from_residual.ensures.1 c.in_err-name.ensures.fault
    (name_fails _ _ _ c.loop-done.invariant.0 c.loop-done-test.true c.loop-done.invariant.1)
