-- The opening stands for the start, part by part.
use Rattle.stage_world.proofs.OpeningLemmas.{opening_stands_for}
use Rattle.stage_world.proofs.laws.opening_stands_for_the_start.Goals as goal

pub returns : goal.returns
returns c = λ script fits. opening_stands_for script fits
