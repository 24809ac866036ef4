use Rattle.test_world.proofs.Told.{told}
use Rattle.test_world.proofs.playing.play.Goals as goal

pub returns : goal.returns
returns c = told _ _ c.in_ok-script.ensures.fits c.in_ok-replay.ensures
