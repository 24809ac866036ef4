use Rattle.std.proofs.Common.{arith, ap}
use Rattle.flstore_rounds.specs.Heads.{Pair}
use Rattle.stage_turns.proofs.LearningLemmas.{at_owner_told}
use Rattle.stage_turns.proofs.learning.learn.Goals as goal

pub counted-row-requires : goal.counted-row-requires
counted-row-requires c p low high =
    at_owner_told _ _ _ _ _ _ p c.own_row-before.ensures.len (ap (λ (v : Pair). v.epochs) c.in_ok-note.ensures.note) c.as_slice.ensures
    (c.requires.may p low (omega (arith, low, high, c.head.ensures.value, c.max-upto.ensures)))
