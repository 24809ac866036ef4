use Rattle.std.proofs.Common.{rules}
use Rattle.datacentre.proofs.WholeLinks.{packet_is, send_is, send_may}
use Rattle.datacentre.proofs.parts.Parts.send.Goals as goal

pub send-requires : goal.send-requires
send-requires c = send_may c.args.self.now c.args.k c.args.to c.len-senders.result _ c.requires.may (search rules) c.len-senders.ensures c.item_mut.ensures.value c.requires.to

pub returns-clause-turned : goal.returns-clause-turned
returns-clause-turned c =
    send_is c.args.self.now c.args.k c.args.to c.len-senders.result c.item_mut.result.now c.requires.may (search rules) c.len-senders.ensures c.item_mut.ensures.value
    c.send.new.sender c.in_ok-sent.sent.done c.send.ensures.sender c.in_ok-sent.ensures.outcome c.in_ok-sent.ensures.events c.in_ok-sent.ensures.changed

pub returns-clause-packet : goal.returns-clause-packet
returns-clause-packet c =
    packet_is c.args.self.now c.args.k c.args.to c.len-senders.result c.item_mut.result.now c.requires.may (search rules) c.len-senders.ensures c.item_mut.ensures.value
    c.in_ok-sent.sent.packet c.in_ok-sent.ensures.packet
