use Rattle.std.proofs.Common.{◌∙◌, ap, arith, get_or}
use Rattle.stage_world.specs.Settling.{local_round, rounds}
use Rattle.stage_world.specs.Whole.{datacentre_at}
use Rattle.world.proofs.KnownLemmas.{item_within, lettered}
use Rattle.world.proofs.RoundLemmas.{flat_taken, take_all}
use Rattle.world.proofs.settling_state.rounds.Goals as goal

pub add_round-requires : goal.add_round-requires
add_round-requires c = (datacentre_at c.requires.known.0 c.d-item.result, lettered _ _ c.requires.known.1 c.d-item.result c.number.result c.index-as_slice-number.result c.number.ensures.value (item_within _ _ _ _ c.requires.there c.loop-d-test.true c.d-item.is) (c.index-as_slice-number.is ∙ ap (λ xs. get_or xs c.number.result c.index-as_slice-number.result) c.as_slice.ensures))

pub loop-d-preserved : goal.loop-d-preserved
loop-d-preserved c z known =
    c.in_ok-add_round.ensures (datacentre_at z c.d-item.result) (lettered _ _ known c.d-item.result c.number.result c.index-as_slice-number.result c.number.ensures.value (item_within _ _ _ _ c.requires.there c.loop-d-test.true c.d-item.is) (c.index-as_slice-number.is ∙ ap (λ xs. get_or xs c.number.result c.index-as_slice-number.result) c.as_slice.ensures))
    ∙ flat_taken (λ d. local_round d (datacentre_at z d)) _ _ _ _ c.loop-d-test.true c.d-item.is (c.loop-d.invariant z known)

pub returns : goal.returns
returns c z known = c.loop-d.invariant z known ∙ ap (rounds z) (take_all c.args.ds.now c.loop-d.d-index (omega (arith, c.loop-d-test.false)))
