use Rattle.token_queue.proofs.Dealing.{waiting_without, waiting_stamped, entries_once, entries_none}
use Rattle.token_queue.proofs.laws.positions_wait_once.Goals as goal

pub returns : goal.returns
returns c = record {
  taken = λ p m q. waiting_without p m q;
  stamped = λ p q t all below. waiting_stamped p q t all below;
  once = λ p last records above within. entries_once p last records above within;
  other = λ p last records out. entries_none p last records out;
}
