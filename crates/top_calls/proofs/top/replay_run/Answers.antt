use Rattle.top_calls.proofs.Complete.{replay_asks, replay_refused, replay_read_failed, replay_write_failed, replay_complete}
use Rattle.top_calls.proofs.Counts.{replay_run_told, replay_stages_told, replay_kept, replay_at_fault, replay_report_fault, still_shows_none}
use Rattle.top_calls.proofs.ItsLine.{replay_line}
use Rattle.top_calls.proofs.top.replay_run.Goals as goal

pub returns-clause-words : goal.returns-clause-words
returns-clause-words g c = replay_asks _ _ _ _ _ _ _ _ _ _ c.replay_and_report.ensures

pub returns-clause-refused : goal.returns-clause-refused
returns-clause-refused g c = replay_refused _ _ _ _ _ _ _ _ _ _ c.replay_and_report.ensures

pub returns-clause-read_fault : goal.returns-clause-read_fault
returns-clause-read_fault g c = replay_read_failed _ _ _ _ _ _ _ _ _ _ c.replay_and_report.ensures

pub returns-clause-write_fault : goal.returns-clause-write_fault
returns-clause-write_fault g c = replay_write_failed _ _ _ _ _ _ _ _ _ _ c.replay_and_report.ensures

pub returns-clause-line : goal.returns-clause-line
returns-clause-line g c = replay_line _ _ _ _ _ _ _ _ _ _ c.replay_and_report.ensures

pub returns-clause-run : goal.returns-clause-run
returns-clause-run g c = replay_run_told _ _ _ _ _ _ _ _ _ _ c.replay_and_report.ensures

pub returns-clause-stages : goal.returns-clause-stages
returns-clause-stages g c = replay_stages_told _ _ _ _ _ _ _ _ _ _ c.replay_and_report.ensures

pub returns-clause-kept : goal.returns-clause-kept
returns-clause-kept g c = replay_kept _ _ _ _ _ _ _ _ _ _ c.replay_and_report.ensures

pub returns-clause-source_fault : goal.returns-clause-source_fault
returns-clause-source_fault g c = replay_at_fault _ _ _ _ _ _ _ _ _ _ c.replay_and_report.ensures

pub returns-clause-report_fault : goal.returns-clause-report_fault
returns-clause-report_fault g c = replay_report_fault _ _ _ _ _ _ _ _ _ _ c.replay_and_report.ensures

pub returns-clause-sure_source : goal.returns-clause-sure_source
returns-clause-sure_source g c still is = still_shows_none _ _ still (replay_read_failed _ _ _ _ _ _ _ _ _ _ c.replay_and_report.ensures is)

pub returns-clause-sure_sink : goal.returns-clause-sure_sink
returns-clause-sure_sink g c still is = still_shows_none _ _ still (replay_write_failed _ _ _ _ _ _ _ _ _ _ c.replay_and_report.ensures is)

pub returns-clause-complete : goal.returns-clause-complete
returns-clause-complete g c bytes script told spelled short no_read_fault no_write_fault =
    replay_complete _ _ bytes script _ _ _ _ _ _ _ _ c.replay_and_report.ensures told spelled short no_read_fault no_write_fault
