use Rattle.std.proofs.Common.{arith, ◌∙◌}
use Rattle.datacentre.proofs.LiveLemmas.{at_of, few_of}
use Rattle.datacentre.proofs.datacentre.Datacentre.holder.Goals as goal

pub returns : goal.returns
returns c = λ x is log.
    let few = few_of c.self.inside.failed c.self.inside.parts c.args.self.now c.self.view_is x is log in
    c.member_count.ensures (omega (arith, c.holder.ensures, few.holder)) ∙ c.holder.ensures ∙ at_of c.self.inside.failed c.self.inside.parts c.args.self.now c.self.view_is x is
