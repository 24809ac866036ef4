use Rattle.std.proofs.Common.{arith, refl}
use Rattle.record_codec.proofs.Numbers.{begins_fewer, number_misses, spelled_as}
use Rattle.record_codec.proofs.reader.number_at.Goals as goal

pub returns-in-Some-clause-spelled : goal.returns-in-Some-clause-spelled
returns-in-Some-clause-spelled c = spelled_as _ _ _ (λ i. omega (arith, c.type_inv.bytes i)) c.in-Some.ensures.some.1 c.in-Some.ensures.some.2

pub returns-in-None-clause-err : goal.returns-in-None-clause-err
returns-in-None-clause-err c =
    let begun = c.begun_bytes.ensures in
    number_misses _ _ _ _ _ (λ i. omega (arith, c.type_inv.bytes i)) c.requires.order c.requires.fits
    (begins_fewer _ _ _ _ _ begun.width begun.within (c.in-None.ensures.none refl) begun.begins) begun.within begun.begins begun.longest
