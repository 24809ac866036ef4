use Rattle.std.proofs.Common.{subst}
use Rattle.abstract_log.specs.declared.world.World.{World}
use Rattle.abstract_step.specs.Taking.{Takes}
use Rattle.abstract_step.proofs.Taken.{happened, moved, stayed, refused, shaped}
use Rattle.abstract_step.proofs.log.AbstractLog.step.Goals as goal

pub returns : goal.returns
returns c =
    let old = c.args.self.now in
    let e = c.args.event.now in
    let P : World → Type 0 = λ w. Takes w e c.take.result c.take.new.world in
    let took : P old = subst P c.self.view_is c.take.ensures in
    record {
      ok = happened old e c.take.result c.take.new.world took;
      next = moved old e c.take.result c.take.new.world took;
      refused = refused old e c.take.result c.take.new.world took;
      err = stayed old e c.take.result c.take.new.world took;
      shaped = shaped old e c.take.result c.take.new.world took c.requires;
    }
