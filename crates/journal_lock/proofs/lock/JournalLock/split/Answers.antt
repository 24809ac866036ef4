use Rattle.std.proofs.Common.{rules, arith, sym, subst}
use Rattle.journal_lock.specs.Passes.{Ticket}
use Rattle.journal_lock.specs.Duties.{number, place, minus, Among}
use Rattle.journal_lock.specs.Law.{names}
use Rattle.journal_lock.specs.Names.{NamesByDuty}
use Rattle.journal_lock.specs.Ties.{IsTied}
use Rattle.journal_lock.proofs.Steps.{split_step}
use Rattle.journal_lock.proofs.lock.JournalLock.split.Goals as goal

pub split_seat-seat-requires : goal.split_seat-seat-requires
split_seat-seat-requires g c =
    let ds = g.P.Part.duties in let hand = g.P.Part.hand in let placed = g.P.Part.placed in let is = sym c.pass.view_is in (
      search rules,
      omega (arith, c.self.invariant.0),
      split_step _ _ _ _ c.pass.invariant.stage ds hand placed (subst (λ (t : Ticket). Among number ds t.duties) is c.requires.part.0) (subst (λ (t : Ticket). Among place hand t.hand) is c.requires.part.1)
          (subst (λ (t : Ticket). Among place placed t.placed) is c.requires.part.2) (subst (λ (t : Ticket). NamesByDuty (minus number t.duties ds) (names (minus place t.hand hand) (minus place t.placed placed))) is c.requires.left) c.requires.right
          (subst (λ (t : Ticket). IsTied t.workload (minus number t.duties ds)) is c.requires.tied.0) (subst (λ (t : Ticket). IsTied t.workload ds) is c.requires.tied.1),
    )
