use Rattle.std.proofs.lemmas.Result.{on_ok_weaker}
use Rattle.world.proofs.SettledLemmas.{plays_settling, still_taken}
use Rattle.world.proofs.stages.Stages.play_all.Goals as goal

pub play_until_answered-requires-clause-taken : goal.play_until_answered-requires-clause-taken
play_until_answered-requires-clause-taken c = still_taken _ _ _ c.in_ok-play_marks.ensures.turns c.requires

pub play_until_told-requires-clause-taken : goal.play_until_told-requires-clause-taken
play_until_told-requires-clause-taken c = still_taken _ _ _ c.in_ok-play_until_answered.ensures.turns (still_taken _ _ _ c.in_ok-play_marks.ensures.turns c.requires)

pub play_everywhere-requires : goal.play_everywhere-requires
play_everywhere-requires c = still_taken _ _ _ c.in_ok-play_until_told.ensures (still_taken _ _ _ c.in_ok-play_until_answered.ensures.turns (still_taken _ _ _ c.in_ok-play_marks.ensures.turns c.requires))

pub returns : goal.returns
returns c =
    on_ok_weaker _ (plays_settling _ _ _ _ _ c.in_ok-play_marks.ensures.turns c.in_ok-play_until_answered.ensures.turns c.in_ok-play_until_told.ensures) c.play_everywhere.ensures
