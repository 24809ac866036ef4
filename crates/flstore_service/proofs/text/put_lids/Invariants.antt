use Rattle.std.proofs.Common.{◌≡◌, ◌++◌, take}
use Rattle.flstore_service.specs.Text.{lid_texts}
use Rattle.flstore_service.proofs.text.put_lids.Given as goal

-- those so far are written
abbrev pub invariant-loop-lid : goal.invariant-loop-lid
invariant-loop-lid l = l.text ≡ l.initial.text ++ lid_texts (take l.lid-index l.lids)
