use Rattle.std.proofs.Common.{All}
use Rattle.record_codec.specs.Wire.{FitsRecord}
use Rattle.test_links.proofs.sender_rows.log_of.Given as goal

abbrev pub invariant-loop-host : goal.invariant-loop-host
invariant-loop-host l = All (λ r. FitsRecord 2 r) l.log
