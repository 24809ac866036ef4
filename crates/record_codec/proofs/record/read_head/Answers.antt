use Rattle.std.proofs.Common.{arith}
use Rattle.record_codec.proofs.Heads.{dcs_fails, host_fails, toid_fails, session_fails, index_fails, last_fails}
use Rattle.record_codec.proofs.Places.{exits}
use Rattle.record_codec.proofs.record.read_head.Goals as goal

pub returns-in_err-small-clause-fault : goal.returns-in_err-small-clause-fault
returns-in_err-small-clause-fault c =
    exits c.from_residual.result _ c.from_residual.ensures.1 c.in_err-small.ensures.fault (dcs_fails _ _ _ _ c.requires.order)

pub returns-in_err-host-clause-fault : goal.returns-in_err-host-clause-fault
returns-in_err-host-clause-fault c =
    exits c.from_residual-in_err-host.result _ c.from_residual-in_err-host.ensures.1 c.in_err-host.ensures.fault
    (host_fails _ _ (omega arith) c.in_ok-small.ensures.ok c.in_ok-small.ensures.took)

pub returns-in_err-toid-clause-fault : goal.returns-in_err-toid-clause-fault
returns-in_err-toid-clause-fault c =
    exits c.from_residual-in_err-toid.result _ c.from_residual-in_err-toid.ensures.1 c.in_err-toid.ensures.fault
    (toid_fails _ _ (omega arith) (omega arith) c.in_ok-small.ensures.ok c.in_ok-small.ensures.took c.in_ok-host.ensures.ok c.in_ok-host.ensures.took)

pub returns-in_err-session-clause-fault : goal.returns-in_err-session-clause-fault
returns-in_err-session-clause-fault c =
    exits c.from_residual-in_err-session.result _ c.from_residual-in_err-session.ensures.1 c.in_err-session.ensures.fault
    (session_fails _ _ (omega arith) (omega arith) c.in_ok-small.ensures.ok c.in_ok-small.ensures.took c.in_ok-host.ensures.ok c.in_ok-host.ensures.took
    c.in_ok-toid.ensures.ok c.in_ok-toid.ensures.took)

pub returns-in_err-index-clause-fault : goal.returns-in_err-index-clause-fault
returns-in_err-index-clause-fault c =
    exits c.from_residual-in_err-index.result _ c.from_residual-in_err-index.ensures.1 c.in_err-index.ensures.fault
    (index_fails _ _ (omega arith) (omega arith) c.in_ok-small.ensures.ok c.in_ok-small.ensures.took c.in_ok-host.ensures.ok c.in_ok-host.ensures.took
    c.in_ok-toid.ensures.ok c.in_ok-toid.ensures.took c.in_ok-session.ensures.ok c.in_ok-session.ensures.took)

pub returns-in_err-kind-clause-fault : goal.returns-in_err-kind-clause-fault
returns-in_err-kind-clause-fault c =
    exits c.from_residual-in_err-kind.result _ c.from_residual-in_err-kind.ensures.1 c.in_err-kind.ensures.fault
    (last_fails _ _ (omega arith) (omega arith) c.in_ok-small.ensures.ok c.in_ok-small.ensures.took c.in_ok-host.ensures.ok c.in_ok-host.ensures.took
    c.in_ok-toid.ensures.ok c.in_ok-toid.ensures.took c.in_ok-session.ensures.ok c.in_ok-session.ensures.took c.in_ok-index.ensures.ok c.in_ok-index.ensures.took)
