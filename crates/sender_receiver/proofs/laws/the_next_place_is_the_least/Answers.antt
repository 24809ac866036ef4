use Rattle.sender_receiver.proofs.Least.{next_iff, none_iff}
use Rattle.sender_receiver.proofs.laws.the_next_place_is_the_least.Goals as goal

pub returns : goal.returns
returns c = record { next = next_iff; none = none_iff }
