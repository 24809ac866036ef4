use Rattle.std.proofs.Common.{List, sym, subst, arith}
use Rattle.journal_lock.specs.declared.duty.Position.{Position}
use Rattle.journal_lock.specs.Duties.{number, place, minus}
use Rattle.journal_lock.specs.Law.{names}
use Rattle.journal_lock.specs.Names.{NamesByDuty}
use Rattle.journal_lock.proofs.Lists.{nothing_left}
use Rattle.journal_lock.specs.declared.duty.Duty.{Duty}
use Rattle.journal_lock.specs.Ties.{IsTied}
use Rattle.journal_lock.proofs.TieLemmas.{none_tied}
use Rattle.journal_lock.proofs.parts.split_all.Goals as goal

pub split-requires-clause-left : goal.split-requires-clause-left
split-requires-clause-left g c =
    let t = c.args.pass.now in
    let none : NamesByDuty (minus number t.duties g.P.Part.duties) (names (minus place t.hand t.hand) (minus place t.placed t.placed)) = λ p more. absurd (omega (arith, nothing_left place t.hand p, nothing_left place t.placed p)) in
    subst (λ (z : List Position × List Position). NamesByDuty (minus number t.duties g.P.Part.duties) (names (minus place t.hand z.0) (minus place t.placed z.1))) (λ i. (sym c.requires.part.1 i, sym c.requires.part.2 i)) none

pub split-requires-clause-tied : goal.split-requires-clause-tied
split-requires-clause-tied g c =
    let t = c.args.pass.now in
    let none : IsTied t.workload (minus number t.duties t.duties) = none_tied t.workload (minus number t.duties t.duties) (nothing_left number t.duties) in
    subst (λ (ds : List Duty). IsTied t.workload (minus number t.duties ds) × IsTied t.workload ds) (sym c.requires.part.0) (none, c.requires.tied)
