use Rattle.maintainer.proofs.StateLemmas.{plain_placed, plain_collected, plain_learned, plain_mark, plain_filled, plain_value}
use Rattle.maintainer.proofs.laws.spare_places_stand_apart.Goals as goal

pub returns-clause-placed : goal.returns-clause-placed
returns-clause-placed g c = plain_placed

pub returns-clause-collected : goal.returns-clause-collected
returns-clause-collected g c = plain_collected

pub returns-clause-learned : goal.returns-clause-learned
returns-clause-learned g c = plain_learned

pub returns-clause-mark : goal.returns-clause-mark
returns-clause-mark g c = plain_mark

pub returns-clause-filled : goal.returns-clause-filled
returns-clause-filled g c = plain_filled

pub returns-clause-value : goal.returns-clause-value
returns-clause-value g c = plain_value
