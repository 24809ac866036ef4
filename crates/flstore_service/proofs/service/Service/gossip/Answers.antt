use Rattle.std.proofs.Common.{ap}
use Rattle.flstore_rounds.specs.Heads.{Pair}
use Rattle.flstore_service.proofs.TurnLemmas.{gossip_turned, hearer_there, inside_is, may_hear, there_is, vector_prefix}
use Rattle.flstore_service.proofs.service.Service.gossip.Goals as goal

pub own-requires-clause-prefix : goal.own-requires-clause-prefix
own-requires-clause-prefix c = vector_prefix c.args.self.now c.args.m c.item_mut-teller.result.now c.requires.can (there_is _ _ _ c.if-not-has.ensures c.item_mut-teller.ensures.value)

pub hear-requires : goal.hear-requires
hear-requires c = may_hear c.args.self.now c.args.m c.args.k c.item_mut-teller.result.now c.own.new.self c.item_mut-hearer.result.now c.in_ok-note.note.epochs c.requires.can (there_is _ _ _ c.if-not-has.ensures c.item_mut-teller.ensures.value) c.in_ok-own.ensures
    (ap (λ (v : Pair). v.epochs) c.in_ok-note.ensures.note) (hearer_there c.args.self.now.members c.args.m c.args.k c.own.new.self c.item_mut-hearer.result.now c.if-not-has-2.ensures c.item_mut-hearer.ensures.value)

pub returns : goal.returns
returns c = gossip_turned c.args.self.now c.args.m c.args.k c.item_mut-teller.result.now c.own.new.self c.item_mut-hearer.result.now (record { appender = c.item_mut-hearer.result.now.appender; vector = c.hear.new.self }) _ c.head.result
    (there_is _ _ _ c.if-not-has.ensures c.item_mut-teller.ensures.value) (inside_is _ _ c.if-not-has-2.ensures) c.in_ok-own.ensures c.in_ok-note.ensures.note (hearer_there c.args.self.now.members c.args.m c.args.k c.own.new.self c.item_mut-hearer.result.now c.if-not-has-2.ensures c.item_mut-hearer.ensures.value) (ap (λ (v : Pair). record { appender = c.item_mut-hearer.result.now.appender; vector = v }) c.in_ok-hear.ensures.ok) c.head.ensures.value
