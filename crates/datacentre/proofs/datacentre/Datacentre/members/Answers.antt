use Rattle.std.proofs.Common.{arith, ◌∙◌}
use Rattle.datacentre.proofs.LiveLemmas.{few_of, members_are}
use Rattle.datacentre.proofs.datacentre.Datacentre.members.Goals as goal

pub returns : goal.returns
returns c = λ x is log.
    let few = few_of c.self.inside.failed c.self.inside.parts c.args.self.now c.self.view_is x is log in
    members_are c.self.inside.failed c.self.inside.parts c.args.self.now c.self.view_is _ _ _ _ _ _ x is
    (c.member_count.ensures (omega (arith, c.len.ensures, few.batchers)) ∙ c.len.ensures)
    (c.member_count-2.ensures (omega (arith, c.len-2.ensures, few.filters)) ∙ c.len-2.ensures)
    (c.member_count-3.ensures (omega (arith, c.len-3.ensures, few.queues)) ∙ c.len-3.ensures)
    (c.member_count-4.ensures (omega (arith, c.len-4.ensures, few.maintainers)) ∙ c.len-4.ensures)
    (c.member_count-5.ensures (omega (arith, c.len-5.ensures, few.indexers)) ∙ c.len-5.ensures)
    (c.member_count-6.ensures (omega (arith, c.len-6.ensures, few.senders)) ∙ c.len-6.ensures)
