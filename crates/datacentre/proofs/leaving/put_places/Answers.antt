use Rattle.datacentre.proofs.LeftLemmas.{one_place}
use Rattle.datacentre.proofs.leaving.put_places.Goals as goal

pub loop-place-preserved : goal.loop-place-preserved
loop-place-preserved c = one_place _ _ _ _ _ _ c.loop-place.invariant c.put_row.ensures c.loop-place-test.true c.place-item.is
