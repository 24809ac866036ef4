use Rattle.std.proofs.Common.{length}
use Rattle.test_links.proofs.SenderRows.{tellable}
use Rattle.test_links.proofs.sender_rows.writes.Goals as goal

pub build-requires-clause-stock : goal.build-requires-clause-stock
build-requires-clause-stock g c =
    tellable 1 c.in_ok-sender.sender.dc (length c.aware_of-aware.result.table) c.in_ok-log.log c.aware_of-aware.ensures.dcs c.in_ok-log.ensures
