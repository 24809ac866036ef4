use Rattle.std.proofs.Common.{arith, length}
use Rattle.stage_turns.specs.Lent.{maintainers_seen}
use Rattle.datacentre.proofs.WholeTurns.{as_many, none_there}
use Rattle.datacentre.proofs.WholeJoins.{if_eight, maintainer_joins, may_add_maintainer}
use Rattle.datacentre.proofs.parts.Parts.add_maintainer.Goals as goal

pub returns-then-len-ge-MEMBERS-clause-turned : goal.returns-then-len-ge-MEMBERS-clause-turned
returns-then-len-ge-MEMBERS-clause-turned c =
    none_there c.args.self.now c.absent.result (length (maintainers_seen c.args.self.now.maintainers)) 16 _ c.requires.may (omega (arith, c.if-len-ge-MEMBERS.true, c.len.ensures, as_many c.args.self.now)) c.absent.ensures

pub add_maintainer-requires-clause-may : goal.add_maintainer-requires-clause-may
add_maintainer-requires-clause-may c = may_add_maintainer c.args.self.now c.len.result c.requires.may c.len.ensures (omega arith)

pub returns-clause-turned : goal.returns-clause-turned
returns-clause-turned c =
    if_eight c.add_maintainer.result _ _ _ _ _ _ _ _ _ c.add_maintainer.ensures.queues c.add_maintainer.ensures.token c.add_maintainer.ensures.holder c.add_maintainer.ensures.maintainers c.add_maintainer.ensures.vectors
    c.add_maintainer.ensures.outcome c.add_maintainer.ensures.events c.add_maintainer.ensures.changed
    (λ done queues token holder maintainers vectors outcome events changed.
    maintainer_joins c.args.self.now c.args.p c.len.result c.add_maintainer.new.queues c.add_maintainer.new.maintainers c.add_maintainer.new.vectors done c.requires.may c.len.ensures (omega arith)
    queues token holder maintainers vectors outcome events changed)
