use Rattle.std.proofs.Common.{ap, subst, sym, ◌∙◌}
use Rattle.std.specs.List.{fold}
use Rattle.stage_turns.specs.Stamping.{CanAck, acked_by}
use Rattle.stage_turns.proofs.StampLemmas.{has_stamped, can_ack, sessions_is, events_is, outcome_is}
use Rattle.stage_turns.proofs.stamping.stamp.Goals as goal

pub stamp-requires-clause-fit : goal.stamp-requires-clause-fit
stamp-requires-clause-fit c x has = (c.requires x has).fit

pub acknowledge_all-requires : goal.acknowledge_all-requires
acknowledge_all-requires c =
    subst (λ ss. CanAck c.args.dc ss c.args.sessions.now) (sym c.as_slice.ensures) (can_ack _ _ _ _ _ (has_stamped _ _ _ _ _ c.requires c.in-Ok.ensures.ok))

pub returns-after-has_items-clause-sessions : goal.returns-after-has_items-clause-sessions
returns-after-has_items-clause-sessions c =
    sessions_is _ _ _ _ _ (has_stamped _ _ _ _ _ c.requires c.in-Ok.ensures.ok) _ (c.acknowledge_all.ensures ∙ ap (fold (acked_by c.args.dc) c.args.sessions.now) c.as_slice.ensures)

pub returns-after-has_items-clause-outcome : goal.returns-after-has_items-clause-outcome
returns-after-has_items-clause-outcome c =
    outcome_is _ _ _ _ _ (has_stamped _ _ _ _ _ c.requires c.in-Ok.ensures.ok) _ _ _ c.is_idle-idle.ensures c.deferred_at.ensures c.in_ok-outcome-in-Ok.ensures

pub returns-after-has_items-clause-events : goal.returns-after-has_items-clause-events
returns-after-has_items-clause-events c = events_is _ _ _ _ _ (has_stamped _ _ _ _ _ c.requires c.in-Ok.ensures.ok) _ c.in_ok-events-in-Ok.ensures
