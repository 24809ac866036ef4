use Rattle.std.proofs.lemmas.Result.{on_ok_weaker}
use Rattle.world.proofs.SettledLemmas.{plays_telling, still_taken}
use Rattle.world.proofs.stages.Stages.play_and_tell.Goals as goal

pub exchange-requires : goal.exchange-requires
exchange-requires c = still_taken _ _ _ c.in_ok-play_everywhere.ensures c.requires

pub returns : goal.returns
returns c = on_ok_weaker _ (plays_telling _ _ _ c.in_ok-play_everywhere.ensures) c.exchange.ensures
