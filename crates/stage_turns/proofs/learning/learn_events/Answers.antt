use Rattle.std.proofs.Common.{List, [], ◌∷◌, ◌++◌, ℕ, ◌∙◌, ap}
use Rattle.abstract_log.specs.declared.event.Event.TheVariants.{Learn}
use Rattle.stage_turns.proofs.LearningLemmas.{none_if_same, one_if_changed}
use Rattle.stage_turns.proofs.learning.learn_events.Goals as goal
use Rattle.stage_turns.proofs.learning.learn_events.Goals.{then-not-same_row+in_ok-new+in_ok-push, else-not-same_row}

pub returns : goal.returns
returns c = elim c.if-not-same_row.branch [
  | then-not-same_row+in_ok-new+in_ok-push w ↦
      one_if_changed c.args.dc c.args.before.now c.args.row.now c.same_row.result c.new-events.result c.if-not-same_row.events c.same_row.ensures w.if-not-same_row.true c.new-events.ensures
      (w.events-is ∙ w.in_ok-push.ensures.ok ∙ ap (λ (row : List ℕ). c.new-events.result ++ Learn c.args.dc row ∷ []) w.in_ok-new.ensures)
  | else-not-same_row w ↦
      none_if_same c.args.dc c.args.before.now c.args.row.now c.same_row.result c.if-not-same_row.events c.same_row.ensures w.if-not-same_row.false (w.events-is ∙ c.new-events.ensures)
]
