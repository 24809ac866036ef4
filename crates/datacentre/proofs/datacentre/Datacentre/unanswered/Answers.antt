use Rattle.std.proofs.Common.{ap, ◌∙◌}
use Rattle.std.specs.List.{list_any}
use Rattle.stage_world.specs.Stages.{Datacentre}
use Rattle.stage_turns.specs.Clients.{is_unanswered}
use Rattle.datacentre.proofs.LiveLemmas.{some_is}
use Rattle.datacentre.proofs.datacentre.Datacentre.unanswered.Goals as goal

pub returns : goal.returns
returns c = λ x is. c.any_unanswered.ensures ∙ ap (list_any is_unanswered) c.as_slice.ensures ∙ ap (λ (z : Datacentre). list_any is_unanswered z.sessions) (some_is c.self.inside.failed c.self.inside.parts c.args.self.now c.self.view_is x is)
