use Rattle.std.proofs.Common.{not, ap}
use Rattle.stage_turns.proofs.ChangeLemmas.{or_first, or_second}
use Rattle.stage_turns.proofs.TellingLemmas.{marks_tell}
use Rattle.stage_turns.proofs.telling.gossip.Goals as goal
use Rattle.stage_turns.proofs.telling.gossip.Goals.{then-teller_rose, else-teller_rose}

pub returns-clause-changed : goal.returns-clause-changed
returns-clause-changed c =
    marks_tell c.args.vectors.now c.args.from c.args.to c.own.new.self c.hear.new.self _ _ _ _ c.is_same-teller_rose.result c.is_same-hearer_rose.result c.if-teller_rose.result
    c.requires.may.teller c.requires.may.hearer c.marks_at-told_before.ensures c.marks_at.ensures c.marks_at-heard_before.ensures c.marks_at-2.ensures
    c.is_same-teller_rose.ensures c.is_same-hearer_rose.ensures
    (elim c.if-teller_rose.branch [
      | then-teller_rose w ↦ or_first (not c.is_same-teller_rose.result) (not c.is_same-hearer_rose.result) c.if-teller_rose.result (ap not w.if-teller_rose.true) w.result-is
      | else-teller_rose w ↦ or_second (not c.is_same-teller_rose.result) (not c.is_same-hearer_rose.result) c.if-teller_rose.result (ap not w.if-teller_rose.false) w.result-is
    ])
