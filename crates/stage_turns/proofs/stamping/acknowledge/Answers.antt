use Rattle.stage_turns.proofs.AckLemmas.{ack_at, ack_nowhere, may_ack, same_host}
use Rattle.stage_turns.proofs.stamping.acknowledge.Goals as goal

pub ack-requires : goal.ack-requires
ack-requires c = (may_ack _ _ _ _ _ (same_host _ _ c.if-ne.ensures) c.requires c.in-Some.ensures c.item_mut.ensures.value).few

pub returns-in-Some : goal.returns-in-Some
returns-in-Some c = ack_at _ _ _ _ _ _ (same_host _ _ c.if-ne.ensures) c.requires c.in-Some.ensures c.item_mut.ensures.value c.ack.ensures

pub returns-in_default : goal.returns-in_default
returns-in_default c = ack_nowhere _ _ _ (same_host _ _ c.if-ne.ensures) c.requires c.in_default.ensures
