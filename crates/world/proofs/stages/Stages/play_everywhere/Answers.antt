use Rattle.std.proofs.Common.{◌∙◌, ap, sym, subst}
use Rattle.std.proofs.lemmas.Result.{on_ok_weaker}
use Rattle.stage_world.specs.Settling.{all_rounds, below}
use Rattle.world.specs.Taking.{HaveTakenTurns, StagesState}
use Rattle.world.proofs.KnownLemmas.{few_dcs}
use Rattle.world.proofs.SettledLemmas.{all_are, all_within, plays_rounds}
use Rattle.world.proofs.stages.Stages.play_everywhere.Goals as goal

pub all_of-requires : goal.all_of-requires
all_of-requires c = few_dcs _ (subst HaveTakenTurns (sym c.self.view_is) c.requires)

pub play_rounds-requires-clause-there : goal.play_rounds-requires-clause-there
play_rounds-requires-clause-there c = all_within c.args.self.now _ (c.as_slice.ensures ∙ c.in_ok-ds.ensures ∙ ap (λ (s : StagesState). below s.workload.dcs) c.self.view_is)

pub returns : goal.returns
returns c =
    on_ok_weaker _ (plays_rounds _ (λ load z. all_rounds z) _ _ (λ script ts h. all_are script ts c.args.self.now _ h (c.as_slice.ensures ∙ c.in_ok-ds.ensures ∙ ap (λ (s : StagesState). below s.workload.dcs) c.self.view_is))) c.play_rounds.ensures
