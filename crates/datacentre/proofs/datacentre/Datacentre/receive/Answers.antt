use Rattle.datacentre.proofs.LiveLemmas.{live, may_turn, received_it, whole_after}
use Rattle.datacentre.proofs.datacentre.Datacentre.receive.Goals as goal

pub receive-received-requires-clause-may : goal.receive-received-requires-clause-may
receive-received-requires-clause-may c = may_turn c.self.inside.failed c.self.inside.parts c.args.self.now c.self.view_is c.if-self.false c.self.invariant c.requires.log

pub receive-received-requires-clause-told : goal.receive-received-requires-clause-told
receive-received-requires-clause-told c = c.requires.told _ (live c.self.inside.failed c.self.inside.parts c.args.self.now c.self.view_is c.if-self.false)

pub invariant_of-self : goal.invariant_of-self
invariant_of-self c =
    let told = c.requires.told _ (live c.self.inside.failed c.self.inside.parts c.args.self.now c.self.view_is c.if-self.false) in
    whole_after c.receive-received.result c.self.inside.parts c.receive-received.new.self _ _ c.is_err-self-inside.ensures.value (c.receive-received.ensures told.message told.spelled)

pub returns-clause-turn : goal.returns-clause-turn
returns-clause-turn c = λ x is m spelled. received_it c.self.inside.failed c.self.inside.parts c.args.self.now c.self.view_is c.receive-received.new.self _ x is c.receive-received.result c.args.r c.args.packet.now m c.is_err-self-inside.ensures.value c.receive-received.ensures spelled
