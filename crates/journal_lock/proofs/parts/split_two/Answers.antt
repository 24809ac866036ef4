use Rattle.std.proofs.Common.{List, sym, subst}
use Rattle.journal_lock.specs.declared.duty.Duty.{Duty}
use Rattle.journal_lock.specs.declared.duty.Position.{Position}
use Rattle.journal_lock.specs.Duties.{number, place, minus}
use Rattle.journal_lock.specs.Law.{names}
use Rattle.journal_lock.specs.Names.{NamesByDuty}
use Rattle.journal_lock.specs.Ties.{IsTied}
use Rattle.journal_lock.proofs.TieLemmas.{session_tied}
use Rattle.journal_lock.proofs.parts.split_two.Goals as goal

pub split-requires-clause-left : goal.split-requires-clause-left
split-requires-clause-left g c =
    let t = c.args.pass.now in
    subst (λ (z : List Duty × List Position × List Position). NamesByDuty (minus number t.duties z.0) (names (minus place t.hand z.1) (minus place t.placed z.2)))
    (λ i. (sym c.requires.part.0 i, sym c.requires.part.1 i, sym c.requires.part.2 i)) c.requires.left

pub split-requires-clause-tied : goal.split-requires-clause-tied
split-requires-clause-tied g c =
    let t = c.args.pass.now in
    subst (λ (ds : List Duty). IsTied t.workload (minus number t.duties ds) × IsTied t.workload ds) (sym c.requires.part.0) (c.requires.tied, session_tied t.workload c.args.session)
