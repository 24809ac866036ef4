use Rattle.std.proofs.Common.{ap, sym, subst, ◌∙◌}
use Rattle.flstore_rounds.specs.Epochs.{IsSettled}
use Rattle.maintainer.specs.Maintainers.{learned}
use Rattle.token_queue.specs.Queues.{outbox_for}
use Rattle.stage_turns.proofs.PlacingLemmas.{may_with_room, placed_plain}
use Rattle.stage_turns.proofs.placing.place.Goals as goal

pub learn-requires-clause-settled : goal.learn-requires-clause-settled
learn-requires-clause-settled c p full = subst (λ e. IsSettled e c.args.maintainer.now.epochs p) (sym c.epochs.ensures.value) (c.requires.may.settled p full)

pub place_each-requires-clause-may : goal.place_each-requires-clause-may
place_each-requires-clause-may c =
    may_with_room (learned c.args.maintainer.now c.args.queue.now.epochs) c.learn.new.self c.reserve.new.self c.reserve.new.self.spare (outbox_for c.args.queue.now c.args.m) c.take_out-entries.result
    (c.in_ok-learn.ensures.ok ∙ ap (learned c.args.maintainer.now) c.epochs.ensures.value) c.in_ok-reserve.ensures.rest c.take_out-entries.ensures.entries c.requires.may.entries

pub returns-clause-maintainer : goal.returns-clause-maintainer
returns-clause-maintainer c =
    placed_plain c.args.maintainer.now c.learn.new.self c.reserve.new.self c.place_each.new.maintainer c.reserve.new.self.spare c.args.queue.now.epochs (outbox_for c.args.queue.now c.args.m) c.take_out-entries.result
    (c.in_ok-learn.ensures.ok ∙ ap (learned c.args.maintainer.now) c.epochs.ensures.value) c.in_ok-reserve.ensures.rest c.take_out-entries.ensures.entries c.place_each.ensures
