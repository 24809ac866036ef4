use Rattle.std.proofs.Common.{◌∙◌, ap, sym, subst}
use Rattle.std.specs.List.{All, flat_map}
use Rattle.std.proofs.lemmas.Result.{on_ok_weaker}
use Rattle.abstract_log.specs.Turns.{IsStep}
use Rattle.stage_world.specs.Settling.{all_marks, below, marks}
use Rattle.world.specs.Taking.{HasTaken, HaveTakenTurns, StagesState}
use Rattle.world.proofs.KnownLemmas.{few_dcs}
use Rattle.world.proofs.NearerLemmas.{marks_calm}
use Rattle.world.proofs.SettledLemmas.{marks_are, plays_these}
use Rattle.world.proofs.SettlingLemmas.{marks_may}
use Rattle.world.proofs.stages.Stages.play_marks.Goals as goal

pub marks-requires : goal.marks-requires
marks-requires c = few_dcs _ (subst HaveTakenTurns (sym c.self.view_is) c.requires)

pub play-requires-clause-may : goal.play-requires-clause-may
play-requires-clause-may c = marks_may _ _ (c.as_slice.ensures ∙ c.in_ok-steps.ensures ∙ ap (λ (s : StagesState). flat_map marks (below s.workload.dcs)) c.self.view_is)

pub returns-clause-turns : goal.returns-clause-turns
returns-clause-turns c =
    on_ok_weaker _ (plays_these _ all_marks _ _ (λ script ts h. marks_are script ts _ _ h (c.as_slice.ensures ∙ c.in_ok-steps.ensures ∙ ap (λ (s : StagesState). flat_map marks (below s.workload.dcs)) c.self.view_is))) c.play.ensures

pub returns-clause-calm : goal.returns-clause-calm
returns-clause-calm c =
    on_ok_weaker _ (λ plays. marks_calm _ _ c.marks_end_announcements.ensures c.requires
    (plays_these _ all_marks _ _ (λ script ts h. marks_are script ts _ _ h (c.as_slice.ensures ∙ c.in_ok-steps.ensures ∙ ap (λ (s : StagesState). flat_map marks (below s.workload.dcs)) c.self.view_is)) plays)) c.play.ensures
