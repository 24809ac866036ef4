use Rattle.std.proofs.Common.{arith}
use Rattle.stage_world.specs.Settling.{has_unanswered}
use Rattle.stage_world.specs.Whole.{datacentre_at}
use Rattle.world.proofs.KnownLemmas.{answering_all}
use Rattle.world.proofs.RoundLemmas.{filter_next}
use Rattle.world.proofs.settling_state.answering.Goals as goal

pub loop-number-preserved : goal.loop-number-preserved
loop-number-preserved c z known = filter_next (λ d. has_unanswered (datacentre_at z d)) _ _ _ _ _ c.in_ok-add_if.ensures (c.has_unanswered.ensures z known) c.in-Some.ensures.value (c.loop-number.invariant z known)

pub returns : goal.returns
returns c z known = answering_all z c.args.datacentres.now c.loop-number.ds c.args.dcs c.loop-number.number known c.requires.all (omega (arith, c.loop-number-test.false, c.loop-number.auto.number-end)) (c.loop-number.invariant z known)
