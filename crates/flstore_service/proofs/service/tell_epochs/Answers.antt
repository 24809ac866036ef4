use Rattle.std.proofs.Common.{arith}
use Rattle.flstore_service.specs.Running.{told_epochs}
use Rattle.flstore_service.proofs.TurnLemmas.{told_next}
use Rattle.flstore_service.proofs.service.tell_epochs.Goals as goal

pub loop-m-preserved : goal.loop-m-preserved
loop-m-preserved c = told_next (told_epochs c.args.epochs.now) c.args.members.now c.loop-m.members c.loop-m.m c.item_mut.result.now c.learn.new.self c.loop-m.invariant (omega arith) c.item_mut.ensures.value c.in_ok-learn.ensures
