use Rattle.std.proofs.Common.{◌≡◌, take}
use Rattle.std.specs.List.{list_all}
use Rattle.cz_base.specs.Text.{is_body_byte}
use Rattle.cz_base.proofs.body.are_allowed.Given as goal

abbrev pub invariant-loop-b : goal.invariant-loop-b
invariant-loop-b l = l.good ≡ list_all is_body_byte (take l.b-index l.bytes)
