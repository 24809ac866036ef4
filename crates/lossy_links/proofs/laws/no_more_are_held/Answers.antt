use Rattle.lossy_links.proofs.Carried.{room_kept}
use Rattle.lossy_links.proofs.laws.no_more_are_held.Goals as goal

pub returns : goal.returns
returns c = room_kept
