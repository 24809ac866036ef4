-- What the check asks of `tasks_are_as_asked` beyond what it finds by itself.
use Rattle.command_line.proofs.AskedLemmas.{task_asked, asked_task}
use Rattle.command_line.proofs.laws.tasks_are_as_asked.Goals as goal

pub returns : goal.returns
returns c = record {
  asked = task_asked;
  task = asked_task;
}
