-- What a datacentre leaves.
use Rattle.std.specs.Prelude.{◌≡◌, MatchOption}
use Rattle.abstract_log.specs.declared.left.LeftAt.{LeftAt}
use Rattle.abstract_log.specs.declared.world.World.{World}
use Rattle.abstract_log.specs.Left.{left_at}
use Rattle.stage_world.specs.StandsFor.{StandsAt}
use Rattle.datacentre.specs.declared.parts.Parts.{Parts}
use Rattle.datacentre.specs.Seen.{DatacentreState, seen}

-- whatever world the parts stand for, it leaves this here
abbrev pub IsLeftByParts : Parts → LeftAt → Type 0
IsLeftByParts p left = (w : World) → StandsAt w p.dc (seen p) → left ≡ left_at w p.dc

-- the same of a datacentre, which has not failed
abbrev pub IsLeftBy : DatacentreState → LeftAt → Type 0
IsLeftBy x left = MatchOption x.stages ⊥ (λ z. (w : World) → StandsAt w x.dc z → left ≡ left_at w x.dc)
