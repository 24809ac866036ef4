use Rattle.std.proofs.Common.{◌∙◌}
use Rattle.stage_turns.proofs.AckLemmas.{can_at, can_first, can_next, fold_at}
use Rattle.stage_turns.proofs.stamping.acknowledge_all.Goals as goal

pub acknowledge-requires : goal.acknowledge-requires
acknowledge-requires c = can_first _ _ _ _ (can_at _ _ _ _ _ c.loop-stamp-test.true c.stamp-item.is c.loop-stamp.invariant.can)

pub loop-stamp-preserved : goal.loop-stamp-preserved
loop-stamp-preserved c = record {
  can = can_next _ _ _ _ _ _ c.loop-stamp-test.true c.stamp-item.is c.acknowledge.ensures c.loop-stamp.invariant.can;
  same = fold_at _ _ _ _ _ _ c.loop-stamp-test.true c.stamp-item.is c.acknowledge.ensures ∙ c.loop-stamp.invariant.same;
}
