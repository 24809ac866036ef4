-- The loops of `put_commands`: what holds at each turn, and why they end.
use Rattle.std.proofs.Common.{◌≡◌, ◌++◌, take}
use Rattle.std.specs.List.{flat_map}
use Rattle.report_text.specs.Lines.{line_text}
use Rattle.report_text.specs.Report.{command_lines}
use Rattle.report_text.proofs.events.put_commands.Given as goal

abbrev pub invariant-loop-command : goal.invariant-loop-command
invariant-loop-command l = l.text ≡ l.initial.text ++ flat_map line_text (flat_map command_lines (take l.command-index l.command-items))
