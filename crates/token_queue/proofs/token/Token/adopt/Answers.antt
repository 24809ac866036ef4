use Rattle.std.proofs.Common.{arith, ap}
use Rattle.flstore_rounds.specs.declared.epochs.Epoch.{Epoch}
use Rattle.token_queue.proofs.token.Token.adopt.Goals as goal

-- the mark is above the last epoch's start
pub unreachable-requires : goal.unreachable-requires
unreachable-requires c =
    let late = (c.add_epoch.ensures.late c.in-Err-Late.field-0-0).0 (cc) in
    omega (arith, late.0, late.1, c.if-mark-bound.false, c.max-bound.ensures, ap (λ (e : Epoch). e.start) c.last-last.ensures.value)
