use Rattle.std.proofs.Common.{[], ◌∷◌}
use Rattle.journal_lock.specs.declared.duty.Duty.TheVariants.{Session, Draft}
use Rattle.journal_lock.proofs.parts.split_session.Given as goal

-- the duties of the session
abbrev pub ghosts-split_two : goal.ghosts-split_two
ghosts-split_two a = record { duties = Session a.session ∷ Draft a.session ∷ []; hand = []; placed = [] }
