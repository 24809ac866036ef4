use Rattle.std.proofs.Common.{◌≡◌, List, [], ap, sym, ◌∙◌, subst, arith, le_refl}
use Rattle.journal_lock.specs.declared.duty.Duty.{Duty}
use Rattle.journal_lock.specs.declared.duty.Position.{Position}
use Rattle.journal_lock.specs.Duties.{number, place, has, minus, Among}
use Rattle.journal_lock.specs.Law.{names}
use Rattle.journal_lock.specs.Names.{NamesByDuty}
use Rattle.journal_lock.specs.Ties.{IsTied}
use Rattle.journal_lock.specs.Passes.{Ticket}
use Rattle.journal_lock.proofs.Lists.{nothing_left, minus_self}
use Rattle.journal_lock.proofs.splits.split_named.Goals as goal

pub split-requires-clause-part : goal.split-requires-clause-part
split-requires-clause-part g c =
    let t = c.args.pass.now in let is = c.requires.part in (
      subst (λ (ds : List Duty). Among number ds t.duties) (sym is.0) c.requires.duties,
      subst (λ (ps : List Position). Among place ps t.hand) (sym is.1) (λ x. le_refl (has place x t.hand)),
      subst (λ (ps : List Position). Among place ps t.placed) (sym is.2) (λ x. le_refl (has place x t.placed)),
    )

pub split-requires-clause-left : goal.split-requires-clause-left
split-requires-clause-left g c =
    let t = c.args.pass.now in
    let none : NamesByDuty (minus number t.duties g.P.Part.duties) (names (minus place t.hand t.hand) (minus place t.placed t.placed)) = λ p more. absurd (omega (arith, nothing_left place t.hand p, nothing_left place t.placed p)) in
    subst (λ (z : List Position × List Position). NamesByDuty (minus number t.duties g.P.Part.duties) (names (minus place t.hand z.0) (minus place t.placed z.1))) (λ i. (sym c.requires.part.1 i, sym c.requires.part.2 i)) none

pub split-requires-clause-right : goal.split-requires-clause-right
split-requires-clause-right g c =
    subst (λ (z : List Duty × List Position × List Position). NamesByDuty z.0 (names z.1 z.2)) (λ i. (sym c.requires.part.0 i, sym c.requires.part.1 i, sym c.requires.part.2 i)) c.requires.right

pub returns-clause-kept : goal.returns-clause-kept
returns-clause-kept g c =
    let t : Ticket = c.args.pass.now in
    let hand : minus place t.hand g.P.Part.hand ≡ [] = ap (minus place t.hand) c.requires.part.1 ∙ minus_self place t.hand in
    let placed : minus place t.placed g.P.Part.placed ≡ [] = ap (minus place t.placed) c.requires.part.2 ∙ minus_self place t.placed in
    c.split.ensures.kept ∙ ap (λ (z : List Duty × List Position × List Position). let p : Ticket = record t { duties = minus number t.duties z.0; hand = z.1; placed = z.2 } in p) (λ i. (c.requires.part.0 i, hand i, placed i))

pub split-requires-clause-tied : goal.split-requires-clause-tied
split-requires-clause-tied g c =
    let t = c.args.pass.now in
    subst (λ (ds : List Duty). IsTied t.workload (minus number t.duties ds) × IsTied t.workload ds) (sym c.requires.part.0) c.requires.tied
