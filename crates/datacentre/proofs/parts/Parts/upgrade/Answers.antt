use Rattle.std.proofs.Common.{refl}
use Rattle.datacentre.proofs.WholeJoins.{upgrade_is}
use Rattle.datacentre.proofs.parts.Parts.upgrade.Goals as goal

pub returns : goal.returns
returns c = upgrade_is c.args.self.now _ _ c.requires c.upgrade_all.ensures refl c.new.ensures refl
