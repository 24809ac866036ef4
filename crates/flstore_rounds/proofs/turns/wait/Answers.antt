use Rattle.std.proofs.Common.{◌-◌, ◌/◌, ◌%◌, ap, ◌∙◌, arith}
use Rattle.flstore_rounds.proofs.TurnLemmas.{wait_for}
use Rattle.flstore_rounds.proofs.turns.wait.Goals as goal

pub returns-clause-own : goal.returns-clause-own
returns-clause-own c =
    let at = wait_for c.args.round c.args.epoch.members c.args.m (c.args.from - c.args.epoch.start) (omega arith) (omega arith) in
    ap (λ y. y / c.args.round % c.args.epoch.members) (omega arith) ∙ at.own

pub returns-clause-least : goal.returns-clause-least
returns-clause-least c = λ k less is.
    let at = wait_for c.args.round c.args.epoch.members c.args.m (c.args.from - c.args.epoch.start) (omega arith) (omega arith) in
    at.least k (omega arith) (ap (λ y. y / c.args.round % c.args.epoch.members) (omega arith) ∙ is)
