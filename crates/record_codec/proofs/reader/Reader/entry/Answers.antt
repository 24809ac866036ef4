use Rattle.record_codec.proofs.Places.{exits}
use Rattle.record_codec.proofs.Rising.{count_fails, host_fails}
use Rattle.record_codec.proofs.reader.Reader.entry.Goals as goal

pub returns-in_err-host-clause-fault : goal.returns-in_err-host-clause-fault
returns-in_err-host-clause-fault c = exits c.from_residual.result _ c.from_residual.ensures.1 c.in_err-host.ensures.fault (host_fails _ _ _ _ _)

pub returns-in_err-count-clause-fault : goal.returns-in_err-count-clause-fault
returns-in_err-count-clause-fault c =
    exits c.from_residual-in_err-count.result _ c.from_residual-in_err-count.ensures.1 c.in_err-count.ensures.fault
    (count_fails c.requires.dcs c.in_ok-host.ensures.ok c.in_ok-host.ensures.took)
