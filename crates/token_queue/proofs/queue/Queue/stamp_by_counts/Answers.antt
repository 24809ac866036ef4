use Rattle.token_queue.specs.contracts.queue.Queue.{the_view}
use Rattle.token_queue.proofs.QueueLemmas.{fits_held}
use Rattle.token_queue.proofs.queue.Queue.stamp_by_counts.Goals as goal

pub stamp_with-stamps-requires-clause-fit : goal.stamp_with-stamps-requires-clause-fit
stamp_with-stamps-requires-clause-fit c = fits_held (the_view c.self.inside) c.args.self.now c.take.result c.in-Some.token c.self.view_is c.take.ensures.value c.in-Some.is c.requires.fit
