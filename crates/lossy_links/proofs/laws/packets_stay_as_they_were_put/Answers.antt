use Rattle.lossy_links.proofs.Carried.{in_put, in_taken, in_without, in_copied}
use Rattle.lossy_links.proofs.laws.packets_stay_as_they_were_put.Goals as goal

pub returns : goal.returns
returns c = record { put = in_put; taken = in_taken; left = in_without; copied = in_copied }
