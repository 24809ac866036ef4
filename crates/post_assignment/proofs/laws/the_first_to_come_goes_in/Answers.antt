use Rattle.post_assignment.proofs.LawLemmas.{first_is}
use Rattle.post_assignment.proofs.laws.the_first_to_come_goes_in.Goals as goal

pub returns : goal.returns
returns g c = first_is
