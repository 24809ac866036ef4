use Rattle.datacentre.proofs.LeftLemmas.{left_by}
use Rattle.datacentre.proofs.datacentre.Datacentre.leave.Goals as goal

pub returns : goal.returns
returns c = left_by c.self.inside.failed c.self.inside.parts c.args.self _ c.self.view_is c.if-failed.false c.leave.ensures
