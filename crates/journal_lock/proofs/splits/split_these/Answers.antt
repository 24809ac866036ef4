use Rattle.std.proofs.Common.{List, sym, subst, arith}
use Rattle.journal_lock.specs.declared.duty.Duty.{Duty}
use Rattle.journal_lock.specs.declared.duty.Position.{Position}
use Rattle.journal_lock.specs.Duties.{number, place, minus, Among}
use Rattle.journal_lock.specs.Law.{names}
use Rattle.journal_lock.specs.Names.{NamesByDuty}
use Rattle.journal_lock.specs.Ties.{IsTied}
use Rattle.journal_lock.proofs.splits.split_these.Goals as goal

pub split-requires-clause-part : goal.split-requires-clause-part
split-requires-clause-part g c =
    let t = c.args.pass.now in let is = c.requires.part in (
      subst (λ (ds : List Duty). Among number ds t.duties) (sym is.0) c.requires.duties,
      subst (λ (ps : List Position). Among place ps t.hand) (sym is.1) (λ x. omega arith),
      subst (λ (ps : List Position). Among place ps t.placed) (sym is.2) (λ x. omega arith),
    )

pub split-requires-clause-left : goal.split-requires-clause-left
split-requires-clause-left g c =
    let t = c.args.pass.now in
    subst (λ (z : List Duty × List Position × List Position). NamesByDuty (minus number t.duties z.0) (names (minus place t.hand z.1) (minus place t.placed z.2)))
    (λ i. (sym c.requires.part.0 i, sym c.requires.part.1 i, sym c.requires.part.2 i)) c.requires.left

pub split-requires-clause-right : goal.split-requires-clause-right
split-requires-clause-right g c =
    subst (λ (z : List Position × List Position). NamesByDuty g.P.Part.duties (names z.0 z.1)) (λ i. (sym c.requires.part.1 i, sym c.requires.part.2 i)) (λ p more. absurd (omega arith))

pub split-requires-clause-tied : goal.split-requires-clause-tied
split-requires-clause-tied g c =
    let t = c.args.pass.now in
    subst (λ (ds : List Duty). IsTied t.workload (minus number t.duties ds) × IsTied t.workload ds) (sym c.requires.part.0) c.requires.tied
