use Rattle.lossy_links.proofs.Full.{put_stays}
use Rattle.lossy_links.proofs.laws.equal_packets_change_nothing.Goals as goal

pub returns : goal.returns
returns g c = λ packets new within. put_stays new packets within
