use Rattle.std.proofs.Common.{◌≡◌, ◌++◌, take}
use Rattle.flstore_service.specs.Text.{kept_lines}
use Rattle.flstore_service.proofs.text.put_kept.Given as goal

-- those so far are written
abbrev pub invariant-loop-value : goal.invariant-loop-value
invariant-loop-value l = l.text ≡ l.initial.text ++ kept_lines (take l.value-index l.kept)
