use Rattle.datacentre.proofs.LiveLemmas.{live, may_turn, sent_it}
use Rattle.datacentre.proofs.datacentre.Datacentre.send.Goals as goal

pub send-sent-requires-clause-may : goal.send-sent-requires-clause-may
send-sent-requires-clause-may c = may_turn c.self.inside.failed c.self.inside.parts c.args.self.now c.self.view_is c.if-self.false c.self.invariant c.requires.log

pub send-sent-requires-clause-to : goal.send-sent-requires-clause-to
send-sent-requires-clause-to c = c.requires.to _ (live c.self.inside.failed c.self.inside.parts c.args.self.now c.self.view_is c.if-self.false)

pub returns-clause-turn : goal.returns-clause-turn
returns-clause-turn c = λ x is. sent_it c.self.inside.failed c.self.inside.parts c.args.self.now c.self.view_is c.send-sent.new.self _ x is c.send-sent.result c.args.k c.args.to c.is_err-self-inside.ensures.value c.send-sent.ensures.turned c.send-sent.ensures.packet
