use Rattle.stage_turns.proofs.StampLemmas.{not_idle}
use Rattle.stage_turns.proofs.stamping.is_idle.Goals as goal

pub returns-else-deferred-eq0 : goal.returns-else-deferred-eq0
returns-else-deferred-eq0 c = not_idle c.args.queue.now _ _ c.deferred.ensures.value c.in-Some.ensures c.if-deferred-eq0.false
