use Rattle.std.proofs.Common.{sym, ap}
use Rattle.maintainer.specs.Maintainers.{MaintainerState}
use Rattle.flstore_service.specs.declared.service.Submission.{Submission}
use Rattle.flstore_service.proofs.TurnLemmas.{keeper_owns}
use Rattle.flstore_service.proofs.service.Service.read.Goals as goal

pub read-requires : goal.read-requires
read-requires c = record {
  own = keeper_owns c.args.self.now c.args.p c.owner.result c.in-Some-get.keeper.now c.maintainer.result.now.epochs c.maintainer.result.now.number c.requires.can c.requires.first c.owner.ensures.value (sym c.in-Some-get.ensures.value)
      (ap (λ (m : MaintainerState Submission). m.epochs) c.maintainer.ensures) (ap (λ (m : MaintainerState Submission). m.number) c.maintainer.ensures);
}
