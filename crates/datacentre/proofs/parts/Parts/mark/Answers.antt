use Rattle.std.proofs.Common.{refl}
use Rattle.datacentre.specs.Seen.{seen}
use Rattle.datacentre.proofs.WholeMarks.{mark_may, marked_is}
use Rattle.datacentre.proofs.WholeTurns.{if_ok}
use Rattle.datacentre.proofs.parts.Parts.mark.Goals as goal

pub mark-requires : goal.mark-requires
mark-requires c = mark_may c.args.self.now c.requires

pub returns : goal.returns
returns c = if_ok c.mark.result _ _ (c.mark.ensures (seen c.args.self.now) (record { map_is = refl; on_is = refl; filters_are = refl })) (λ done is. marked_is c.args.self.now _ _ _ _ done c.requires is)
