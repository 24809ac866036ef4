use Rattle.token_queue.proofs.QueueLemmas.{stamps_by_log, log_of_stamped}
use Rattle.token_queue.proofs.queue.Queue.stamp.Goals as goal

pub returns-clause-drains : goal.returns-clause-drains
returns-clause-drains c = λ log. stamps_by_log c.args.self.now c.stamp_by_counts.new.self log c.args.self.now.token c.stamp_by_counts.result c.stamp_by_counts.ensures.token c.requires.fit c.stamp_by_counts.ensures.ok

pub returns-clause-log : goal.returns-clause-log
returns-clause-log c = λ log. log_of_stamped c.args.self.now c.stamp_by_counts.new.self log c.args.self.now.token c.stamp_by_counts.result c.stamp_by_counts.ensures.token c.requires.fit c.stamp_by_counts.ensures.ok
