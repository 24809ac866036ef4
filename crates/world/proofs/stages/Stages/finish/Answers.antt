use Rattle.std.proofs.Common.{ap, subst}
use Rattle.std.specs.List.{AllZip}
use Rattle.datacentre.specs.Leaving.{IsLeftBy}
use Rattle.world.specs.Taking.{StagesState}
use Rattle.world.proofs.TakingLemmas.{played}
use Rattle.world.proofs.stages.Stages.finish.Goals as goal

pub returns : goal.returns
returns c script ts h =
    played script ts c.args.self _ h (ap (λ (s : StagesState). s.workload) c.self.view_is) (ap (λ (s : StagesState). s.events) c.self.view_is) (ap (λ (s : StagesState). s.lines) c.self.view_is)
    (subst (λ (s : StagesState). AllZip IsLeftBy s.network.datacentres c.in_ok-left.left) c.self.view_is c.in_ok-left.ensures)
