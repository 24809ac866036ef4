-- The loops of `Progress::into_script`: what holds at each turn, and why they end.
use Rattle.std.proofs.Common.{◌≡◌}
use Rattle.script_text.specs.Meaning.{sizes_upto}
use Rattle.script_text.proofs.progress.Progress.into_script.Given as goal

abbrev pub invariant-loop-number : goal.invariant-loop-number
invariant-loop-number l = l.sizes ≡ sizes_upto l.self.stages l.number
