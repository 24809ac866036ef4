-- What is read as a script may be replayed: its steps are in their ranges.
use Rattle.std.proofs.Common.{List, [], ◌∷◌, All}
use Rattle.std.proofs.lemmas.List.Elements.{All-nil, All-cons, All-head, All-tail}
use Rattle.abstract_log.specs.declared.command.Workload.{Workload}
use Rattle.abstract_log.specs.declared.script.Step.{Step}
use Rattle.abstract_log.specs.Turns.{FitsStep, IsStep}

pub all_fit_are_steps : (load : Workload) (steps : List Step) → All (FitsStep load) steps → All (IsStep load) steps
all_fit_are_steps load [] fits = All-nil (IsStep load)
all_fit_are_steps load (t ∷ more) fits =
    All-cons (IsStep load) t more (All-head (FitsStep load) t more fits).0 (all_fit_are_steps load more (All-tail (FitsStep load) t more fits))
