-- What the check asks of `Progress::put_command` beyond what it finds by itself.
use Rattle.std.proofs.Common.{arith}
use Rattle.script_text.proofs.MeaningLemmas.{with_command-pushed}
use Rattle.script_text.proofs.progress.Progress.put_command.Goals as goal

pub returns : goal.returns
returns c = with_command-pushed c.args.self.now c.args.command c.pop.new.self c.in-Some.plan c.push.new.self c.push-2.new.self c.in-Some.ensures (omega arith) c.in_ok-push.ensures.ok c.in_ok-push-2.ensures.ok
