use Rattle.std.proofs.Common.{All, take}
use Rattle.causal_deps.specs.Logs.{HasName}
use Rattle.abstract_step.proofs.names.know_all.Given as goal

abbrev pub invariant-loop-name : goal.invariant-loop-name
invariant-loop-name l = All (λ n. HasName l.log n.0 n.1) (take l.name-index l.names)
