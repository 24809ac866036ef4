-- What the check asks of `put_commands` beyond what it finds by itself.
use Rattle.report_text.specs.Lines.{line_text}
use Rattle.report_text.specs.Report.{command_words}
use Rattle.report_text.proofs.LineLemmas.{added_one}
use Rattle.report_text.proofs.events.put_commands.Goals as goal

pub loop-command-preserved : goal.loop-command-preserved
loop-command-preserved c = added_one line_text command_words _ _ _ _ _ _ c.loop-command.invariant c.in_ok-put_command_line.ensures c.loop-command-test.true c.command-item.is
