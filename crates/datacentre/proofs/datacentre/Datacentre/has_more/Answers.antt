use Rattle.std.proofs.Common.{arith}
use Rattle.datacentre.proofs.LiveLemmas.{are_few, live, log_of_live, more_is}
use Rattle.datacentre.proofs.WholeLinks.{look_may}
use Rattle.datacentre.proofs.datacentre.Datacentre.has_more.Goals as goal

pub overflow_cast-len : goal.overflow_cast-len
overflow_cast-len c = omega (arith, c.len.ensures, (are_few c.self.inside.parts (log_of_live c.self.inside.failed c.self.inside.parts c.args.self.now c.self.view_is c.if-self.false c.requires.log)).senders)

pub has_more-requires : goal.has_more-requires
has_more-requires c =
    look_may c.self.inside.parts c.args.k c.args.to c.len.result (log_of_live c.self.inside.failed c.self.inside.parts c.args.self.now c.self.view_is c.if-self.false c.requires.log) (c.requires.to _ (live c.self.inside.failed c.self.inside.parts c.args.self.now c.self.view_is c.if-self.false)) c.len.ensures

pub returns : goal.returns
returns c = λ x is. more_is c.self.inside.failed c.self.inside.parts c.args.self.now c.self.view_is c.args.k c.args.to c.len.result c.has_more.result x c.len.ensures is c.has_more.ensures
