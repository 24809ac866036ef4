use Rattle.record_codec.proofs.Messages.{record_fails, records_more}
use Rattle.record_codec.proofs.Places.{exits}
use Rattle.record_codec.proofs.message.read_each.Goals as goal

pub loop-done-preserved : goal.loop-done-preserved
loop-done-preserved c =
    records_more _ _ _ _ _ _ _ _ c.number-number.ensures.value c.in_ok-push.ensures.ok c.loop-done.invariant.0 c.in_ok-rec.ensures.ok c.loop-done.invariant.1 c.in_ok-rec.ensures.took

pub returns-in_err-rec-clause-fault : goal.returns-in_err-rec-clause-fault
returns-in_err-rec-clause-fault c =
    exits c.from_residual.result _ c.from_residual.ensures.1 c.in_err-rec.ensures.fault
    (record_fails _ _ _ _ _ _ _ c.requires.dcs.1 c.requires.host c.number-number.ensures.value c.loop-done.invariant.0 c.loop-done-test.true c.loop-done.invariant.1)
