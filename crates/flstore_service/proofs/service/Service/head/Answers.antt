use Rattle.flstore_service.proofs.TurnLemmas.{head_turned, there_is, vector_prefix}
use Rattle.flstore_service.proofs.service.Service.head.Goals as goal

pub own-requires-clause-prefix : goal.own-requires-clause-prefix
own-requires-clause-prefix c = vector_prefix c.args.self.now c.args.m c.item_mut-member.result.now c.requires.can (there_is _ _ _ c.if-not-has.ensures c.item_mut-member.ensures.value)

pub returns : goal.returns
returns c = head_turned c.args.self.now c.args.m c.item_mut-member.result.now c.own.new.self c.head.result (there_is _ _ _ c.if-not-has.ensures c.item_mut-member.ensures.value) c.in_ok-own.ensures c.head.ensures.value
