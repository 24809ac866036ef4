use Rattle.std.proofs.Common.{arith}
use Rattle.datacentre.proofs.WholeJoins.{sender_joins}
use Rattle.datacentre.proofs.parts.Parts.add_sender.Goals as goal

pub returns-clause-turned : goal.returns-clause-turned
returns-clause-turned c = sender_joins c.args.self.now _ c.in_ok-sender.sender c.len-number.result c.joined.result c.requires c.len-number.ensures (omega arith) c.in_ok-sender.ensures c.in_ok-push.ensures.ok c.joined.ensures
