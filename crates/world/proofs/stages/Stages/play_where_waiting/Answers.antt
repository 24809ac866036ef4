use Rattle.std.proofs.Common.{◌∙◌, ap, sym, subst}
use Rattle.std.proofs.lemmas.Result.{on_ok_weaker}
use Rattle.stage_world.specs.Settling.{answering_rounds, rounds}
use Rattle.world.specs.Taking.{HasTaken, HaveTakenTurns, stages_after}
use Rattle.world.proofs.KnownLemmas.{count_there, few_dcs, known_of}
use Rattle.world.proofs.SettledLemmas.{answering_within, plays_rounds}
use Rattle.world.proofs.stages.Stages.play_where_waiting.Goals as goal

pub answering-requires-clause-few : goal.answering-requires-clause-few
answering-requires-clause-few c = few_dcs _ (subst HaveTakenTurns (sym c.self.view_is) c.requires)

pub answering-requires-clause-all : goal.answering-requires-clause-all
answering-requires-clause-all c = sym (count_there _ (subst HaveTakenTurns (sym c.self.view_is) c.requires))

pub play_rounds-requires-clause-there : goal.play_rounds-requires-clause-there
play_rounds-requires-clause-there c = answering_within _ _ c.requires (c.as_slice.ensures ∙ c.in_ok-ds.ensures _ (known_of c.requires.script c.requires.turns _ (subst (HasTaken c.requires.script c.requires.turns) (sym c.self.view_is) c.requires.taken)))

pub returns : goal.returns
returns c =
    on_ok_weaker _ (plays_rounds _ answering_rounds _ _ (λ script ts h. ap (rounds (stages_after script ts)) (c.as_slice.ensures ∙ c.in_ok-ds.ensures _ (known_of script ts _ (subst (HasTaken script ts) (sym c.self.view_is) h))))) c.play_rounds.ensures
