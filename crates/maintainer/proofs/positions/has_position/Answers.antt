use Rattle.maintainer.proofs.PositionLemmas.{here_first, here_none}
use Rattle.maintainer.proofs.positions.has_position.Goals as goal

pub returns-in-Some : goal.returns-in-Some
returns-in-Some c =
    let found = c.in-Some.ensures.lookup in
    here_first _ _ _ c.positions_below.ensures.below c.positions_below.ensures.above _ c.requires found.3.0 found.1

pub returns-in-None : goal.returns-in-None
returns-in-None c = here_none _ _ _ c.positions_below.ensures.below c.positions_below.ensures.above c.in-None.ensures.lookup.3
