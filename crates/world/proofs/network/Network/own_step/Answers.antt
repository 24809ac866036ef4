use Rattle.std.proofs.Common.{refl, arith}
use Rattle.std.proofs.lemmas.Result.{IfOk-weaker}
use Rattle.world.proofs.IdleLemmas.{own_told}
use Rattle.world.proofs.MovingLemmas.{homes_within, may_turn, own_moves, seen_at}
use Rattle.world.proofs.network.Network.own_step.Goals as goal

pub take-requires : goal.take-requires
take-requires c = may_turn _ _ _ _ c.requires.may.1 c.place_of-d.result c.requires.own c.place_of-d.ensures

pub returns-clause-moved : goal.returns-clause-moved
returns-clause-moved c z may =
    let within = homes_within _ _ _ _ may in
    IfOk-weaker c.take.result _ _ (λ done turned. own_moves _ z _ _ _ c.place_of-d.result done may.shown c.requires.own c.place_of-d.ensures refl turned)
    (c.take.ensures _ (seen_at _ z _ c.place_of-d.result may.shown (omega (arith, c.place_of-d.ensures, within))))

pub returns-clause-told : goal.returns-clause-told
returns-clause-told c z may =
    let within = homes_within _ _ _ _ may in
    IfOk-weaker c.take.result _ _ (λ done turned. own_told c.args.workload.now z c.args.step.now c.place_of-d.result c.requires.own c.place_of-d.ensures (omega (arith, c.place_of-d.ensures, within, may.shown.count)) done.changed turned.changed)
    (c.take.ensures _ (seen_at _ z _ c.place_of-d.result may.shown (omega (arith, c.place_of-d.ensures, within))))
