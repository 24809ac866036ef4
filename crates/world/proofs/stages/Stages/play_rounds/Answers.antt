use Rattle.std.proofs.Common.{◌<◌, ◌∙◌, ap, sym, subst}
use Rattle.std.specs.List.{All}
use Rattle.std.proofs.lemmas.Result.{on_ok_weaker}
use Rattle.stage_world.specs.Settling.{rounds}
use Rattle.world.specs.Taking.{HasTaken, HaveTakenTurns, StagesState}
use Rattle.world.proofs.KnownLemmas.{count_there, known_of, known_some}
use Rattle.world.proofs.SettledLemmas.{decided_may, plays_these}
use Rattle.world.proofs.stages.Stages.play_rounds.Goals as goal

pub rounds-requires-clause-known : goal.rounds-requires-clause-known
rounds-requires-clause-known c = known_some _ (subst HaveTakenTurns (sym c.self.view_is) c.requires.taken)

pub rounds-requires-clause-there : goal.rounds-requires-clause-there
rounds-requires-clause-there c =
    subst (λ n. All (λ d. d < n) c.args.ds.now) (ap (λ (s : StagesState). s.workload.dcs) (sym c.self.view_is) ∙ sym (count_there _ (subst HaveTakenTurns (sym c.self.view_is) c.requires.taken))) c.requires.there

pub play-requires-clause-may : goal.play-requires-clause-may
play-requires-clause-may c = decided_may _ _ _ c.requires.taken c.requires.there (c.as_slice.ensures ∙ c.in_ok-steps.ensures _ (known_of c.requires.taken.script c.requires.taken.turns _ (subst (HasTaken c.requires.taken.script c.requires.taken.turns) (sym c.self.view_is) c.requires.taken.taken)))

pub returns : goal.returns
returns c = on_ok_weaker _ (plays_these _ (λ z. rounds z c.args.ds.now) _ _ (λ script ts h. c.as_slice.ensures ∙ c.in_ok-steps.ensures _ (known_of script ts _ (subst (HasTaken script ts) (sym c.self.view_is) h)))) c.play.ensures
