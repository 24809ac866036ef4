use Rattle.std.proofs.Common.{◌≡◌, ℕ, ◌<◌, ◌≤◌, true, Some, slice_get}
use Rattle.causal_deps.specs.declared.record.Record.{Record}
use Rattle.causal_deps.specs.Kinds.{is_update}
use Rattle.abstract_step.proofs.collecting.is_replaced.Given as goal

abbrev pub invariant-loop-at : goal.invariant-loop-at
invariant-loop-at l = (k : ℕ) (by : Record) → l.p ≤ k → k < l.at → slice_get l.log k ≡ Some by → is_update by.kind ≡ true → by.tags ≡ l.rec.tags → ⊥
