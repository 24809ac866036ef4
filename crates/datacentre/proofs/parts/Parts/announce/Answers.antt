use Rattle.std.proofs.Common.{refl}
use Rattle.datacentre.specs.Seen.{seen}
use Rattle.datacentre.proofs.WholeMarks.{announced_is}
use Rattle.datacentre.proofs.parts.Parts.announce.Goals as goal

pub returns : goal.returns
returns c = announced_is c.args.self.now _ _ _ c.requires (c.announce.ensures (seen c.args.self.now) refl refl)
