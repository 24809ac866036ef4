use Rattle.top_calls.proofs.Complete.{complete, generated_complete, stored_complete, words_asked, unasked, script_refused, read_failed, write_failed}
use Rattle.top_calls.proofs.Counts.{run_told, stages_told, kept, at_fault, report_fault, still_shows_none}
use Rattle.top_calls.proofs.ItsLine.{its_line}
use Rattle.top_calls.proofs.top.plain_run.Goals as goal

pub returns-clause-words : goal.returns-clause-words
returns-clause-words g c = words_asked _ _ _ _ _ _ _ _ _ _ c.do_asked.ensures

pub returns-clause-no_words : goal.returns-clause-no_words
returns-clause-no_words g c = unasked _ _ _ _ _ _ _ _ _ _ c.do_asked.ensures

pub returns-clause-refused : goal.returns-clause-refused
returns-clause-refused g c = script_refused _ _ _ _ _ _ _ _ _ _ c.do_asked.ensures

pub returns-clause-read_fault : goal.returns-clause-read_fault
returns-clause-read_fault g c = read_failed _ _ _ _ _ _ _ _ _ _ c.do_asked.ensures

pub returns-clause-write_fault : goal.returns-clause-write_fault
returns-clause-write_fault g c = write_failed _ _ _ _ _ _ _ _ _ _ c.do_asked.ensures

pub returns-clause-line : goal.returns-clause-line
returns-clause-line g c = its_line _ _ _ _ _ _ _ _ _ _ c.do_asked.ensures

pub returns-clause-run : goal.returns-clause-run
returns-clause-run g c = run_told _ _ _ _ _ _ _ _ _ _ c.do_asked.ensures

pub returns-clause-stages : goal.returns-clause-stages
returns-clause-stages g c = stages_told _ _ _ _ _ _ _ _ _ _ c.do_asked.ensures

pub returns-clause-kept : goal.returns-clause-kept
returns-clause-kept g c = kept _ _ _ _ _ _ _ _ _ _ c.do_asked.ensures

pub returns-clause-source_fault : goal.returns-clause-source_fault
returns-clause-source_fault g c = at_fault _ _ _ _ _ _ _ _ _ _ c.do_asked.ensures

pub returns-clause-report_fault : goal.returns-clause-report_fault
returns-clause-report_fault g c = report_fault _ _ _ _ _ _ _ _ _ _ c.do_asked.ensures

pub returns-clause-sure_source : goal.returns-clause-sure_source
returns-clause-sure_source g c still is = still_shows_none _ _ still (read_failed _ _ _ _ _ _ _ _ _ _ c.do_asked.ensures is)

pub returns-clause-sure_sink : goal.returns-clause-sure_sink
returns-clause-sure_sink g c still is = still_shows_none _ _ still (write_failed _ _ _ _ _ _ _ _ _ _ c.do_asked.ensures is)

pub returns-clause-complete : goal.returns-clause-complete
returns-clause-complete g c bytes script told asked spelled short no_read_fault no_write_fault =
    complete _ asked.0 _ bytes script _ _ _ _ _ _ _ _ c.do_asked.ensures asked.1 told spelled short no_read_fault no_write_fault

pub returns-clause-stored : goal.returns-clause-stored
returns-clause-stored g c bytes script told asked spelled short no_read_fault no_write_fault =
    stored_complete _ _ bytes script _ _ _ _ _ _ _ _ c.do_asked.ensures asked told spelled short no_read_fault no_write_fault

pub returns-clause-generated : goal.returns-clause-generated
returns-clause-generated g c asked no_write_fault =
    generated_complete _ asked.0 _ _ _ _ _ _ _ _ _ c.do_asked.ensures asked.1 no_write_fault
