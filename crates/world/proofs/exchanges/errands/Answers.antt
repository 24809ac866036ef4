use Rattle.std.proofs.Common.{arith}
use Rattle.stage_world.specs.Whole.{datacentre_at}
use Rattle.world.specs.Settled.{errands_from}
use Rattle.world.proofs.RoundLemmas.{flat_next}
use Rattle.world.proofs.KnownLemmas.{errands_all_are, errands_are}
use Rattle.world.proofs.exchanges.errands.Goals as goal

pub loop-number-preserved : goal.loop-number-preserved
loop-number-preserved c z known =
    flat_next (λ d. errands_from d c.args.dcs (datacentre_at z d).senders) _ _ _ _ c.in_ok-add_errands.ensures (errands_are z _ _ c.args.dcs _ c.in-Some.ensures.value (c.members.ensures z known)) (c.loop-number.invariant z known)

pub returns : goal.returns
returns c z known = errands_all_are z c.args.datacentres.now c.loop-number.them c.args.dcs c.loop-number.number known c.requires.all (omega (arith, c.loop-number-test.false, c.loop-number.auto.number-end)) (c.loop-number.invariant z known)
