-- What the check asks of `read_script` beyond what it finds by itself.
use Rattle.script_text.specs.Lines.{lines}
use Rattle.script_text.proofs.Accepted.{all-only}
use Rattle.script_text.proofs.Laid.{all-written, all-spell, all-fit, all-steps, all-members}
use Rattle.script_text.proofs.script.read_script.Goals as goal

pub returns-clause-fits : goal.returns-clause-fits
returns-clause-fits c = all-fit (lines c.args.bytes.now) c.read_lines.result c.read_lines.ensures.ok

pub returns-clause-spelled : goal.returns-clause-spelled
returns-clause-spelled c = all-spell (lines c.args.bytes.now) c.read_lines.result c.read_lines.ensures.ok

pub returns-clause-steps : goal.returns-clause-steps
returns-clause-steps c = all-steps (lines c.args.bytes.now) c.read_lines.result c.read_lines.ensures.ok

pub returns-clause-members : goal.returns-clause-members
returns-clause-members c = all-members (lines c.args.bytes.now) c.read_lines.result c.read_lines.ensures.ok

pub returns-clause-only : goal.returns-clause-only
returns-clause-only c = all-only (lines c.args.bytes.now) c.read_lines.result c.read_lines.ensures.ok c.read_lines.ensures.bad

pub returns-clause-written : goal.returns-clause-written
returns-clause-written c = all-written (lines c.args.bytes.now) c.read_lines.result c.read_lines.ensures.ok
