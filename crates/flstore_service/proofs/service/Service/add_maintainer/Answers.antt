use Rattle.std.proofs.Common.{Err, ap, arith}
use Rattle.flstore_rounds.specs.declared.epochs.Epoch.{Epoch}
use Rattle.flstore_service.proofs.TurnLemmas.{can_learn}
use Rattle.flstore_service.proofs.service.Service.add_maintainer.Goals as goal

pub unreachable-requires : goal.unreachable-requires
unreachable-requires c =
    let late = (c.in-Err-Late.ensures.late c.in-Err-Late.field-0-0).0 (ap Err c.in-Err-Late.field-0-is) in
    omega (arith, late.0, late.1, c.if-p-bound.false, c.max-bound.ensures, ap (λ (e : Epoch). e.start) c.last.ensures.value)

pub tell_epochs-requires : goal.tell_epochs-requires
tell_epochs-requires c = can_learn c.args.self.now c.args.p _ c.add_epoch.new.self c.requires.can c.in-Ok.ensures.ok (omega (arith, c.if-p-bound.false, c.max-bound.ensures))
