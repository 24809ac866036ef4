use Rattle.top_calls.proofs.Complete.{flstore_asks, flstore_refused, flstore_read_failed, flstore_write_failed, flstore_complete}
use Rattle.top_calls.proofs.Counts.{flstore_untold, flstore_kept, flstore_at_fault, still_shows_none}
use Rattle.top_calls.proofs.ItsLine.{flstore_line}
use Rattle.top_calls.proofs.storing.flstore_run.Goals as goal

pub returns-clause-words : goal.returns-clause-words
returns-clause-words g c = flstore_asks _ _ _ _ _ _ _ _ _ c.store_and_report.ensures

pub returns-clause-refused : goal.returns-clause-refused
returns-clause-refused g c = flstore_refused _ _ _ _ _ _ _ _ _ c.store_and_report.ensures

pub returns-clause-read_fault : goal.returns-clause-read_fault
returns-clause-read_fault g c = flstore_read_failed _ _ _ _ _ _ _ _ _ c.store_and_report.ensures

pub returns-clause-write_fault : goal.returns-clause-write_fault
returns-clause-write_fault g c = flstore_write_failed _ _ _ _ _ _ _ _ _ c.store_and_report.ensures

pub returns-clause-line : goal.returns-clause-line
returns-clause-line g c = flstore_line _ _ _ _ _ _ _ _ _ c.store_and_report.ensures

pub returns-clause-run : goal.returns-clause-run
returns-clause-run g c = flstore_untold _ _ _ _ _ _ _ _ _ c.store_and_report.ensures

pub returns-clause-kept : goal.returns-clause-kept
returns-clause-kept g c = flstore_kept _ _ _ _ _ _ _ _ _ c.store_and_report.ensures

pub returns-clause-source_fault : goal.returns-clause-source_fault
returns-clause-source_fault g c = flstore_at_fault _ _ _ _ _ _ _ _ _ c.store_and_report.ensures

pub returns-clause-sure_source : goal.returns-clause-sure_source
returns-clause-sure_source g c still is = still_shows_none _ _ still (flstore_read_failed _ _ _ _ _ _ _ _ _ c.store_and_report.ensures is)

pub returns-clause-sure_sink : goal.returns-clause-sure_sink
returns-clause-sure_sink g c still is = still_shows_none _ _ still (flstore_write_failed _ _ _ _ _ _ _ _ _ c.store_and_report.ensures is)

pub returns-clause-complete : goal.returns-clause-complete
returns-clause-complete g c bytes script told spelled short no_read_fault no_write_fault =
    flstore_complete _ bytes script _ _ _ _ _ _ _ _ c.store_and_report.ensures told spelled short no_read_fault no_write_fault
