use Rattle.record_codec.proofs.Places.{exits}
use Rattle.record_codec.proofs.Told.{telling_all, telling_fails, telling_inside, telling_more, telling_room, telling_start}
use Rattle.std.proofs.Common.{refl}
use Rattle.record_codec.proofs.reader.Reader.told_of.Goals as goal

pub loop-told-init : goal.loop-told-init
loop-told-init c = telling_start _ _ _ _ _ c.requires.own c.own_alone-dep.ensures

pub loop-told-preserved : goal.loop-told-preserved
loop-told-preserved c =
    telling_more _ _ _ _ _ _ _ _ _ _ c.loop-told-test.true refl c.datacentre.ensures c.put.ensures c.loop-told.invariant c.in_ok-entry.ensures.ok c.in_ok-entry.ensures.took

pub entry-requires-clause-room : goal.entry-requires-clause-room
entry-requires-clause-room c = telling_room _ _ _ _ _ _ _ c.requires.count c.loop-told-test.true refl c.loop-told.invariant

pub returns-in_err-entry-clause-fault : goal.returns-in_err-entry-clause-fault
returns-in_err-entry-clause-fault c =
    exits c.from_residual.result _ c.from_residual.ensures.1 c.in_err-entry.ensures.fault
    (telling_fails _ _ _ _ _ _ _ c.requires.own c.requires.host c.requires.dcs.1 c.loop-told-test.true refl c.loop-told.invariant)

pub put-requires : goal.put-requires
put-requires c = telling_inside _ _ _ _ _ _ _ _ _ c.loop-told.invariant c.in_ok-entry.ensures.ok c.datacentre.ensures

pub returns-clause-ok : goal.returns-clause-ok
returns-clause-ok c = telling_all _ _ _ _ _ _ c.loop-told-test.false c.loop-told.invariant
