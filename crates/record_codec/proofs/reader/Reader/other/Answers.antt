use Rattle.record_codec.proofs.Places.{exits}
use Rattle.record_codec.proofs.Rising.{low_le_last, other_of, own_fails, range_fails}
use Rattle.record_codec.proofs.reader.Reader.other.Goals as goal

pub small-requires-clause-order : goal.small-requires-clause-order
small-requires-clause-order c = low_le_last _ _ _ _ _ (c.last_other.ensures.below, c.last_other.ensures.above) c.requires.room

pub returns-in_err-host-clause-fault : goal.returns-in_err-host-clause-fault
returns-in_err-host-clause-fault c =
    exits c.from_residual.result _ c.from_residual.ensures.1 c.in_err-host.ensures.fault
    (range_fails _ _ _ _ _ _ (c.last_other.ensures.below, c.last_other.ensures.above) c.requires.room)

pub returns-then-host-own-clause-fault : goal.returns-then-host-own-clause-fault
returns-then-host-own-clause-fault c =
    own_fails _ _ _ _ _ _ _ c.requires.own c.requires.dcs c.requires.room c.if-host-own.true c.in_ok-host.ensures.took _ c.malformed-here.ensures

pub returns-clause-ok : goal.returns-clause-ok
returns-clause-ok c = other_of _ _ _ _ _ _ (c.last_other.ensures.below, c.last_other.ensures.above) c.in_ok-host.ensures.ok c.if-host-own.false
