use Rattle.world.proofs.OpeningLemmas.{opened_shows}
use Rattle.world.proofs.opening.open_network.Goals as goal

pub returns : goal.returns
returns c = opened_shows c.args.script.now _ c.in_ok-open_datacentres.ensures c.in_ok-open_links.ensures
