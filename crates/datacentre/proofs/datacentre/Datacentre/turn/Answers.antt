use Rattle.std.proofs.Common.{sym, subst}
use Rattle.datacentre.specs.Turning.{TakesNoMemory}
use Rattle.datacentre.proofs.LiveLemmas.{may_turn, some_is, took}
use Rattle.datacentre.proofs.datacentre.Datacentre.turn.Goals as goal

pub take_turn-turned-requires-clause-may : goal.take_turn-turned-requires-clause-may
take_turn-turned-requires-clause-may c = may_turn c.self.inside.failed c.self.inside.parts c.args.self.now c.self.view_is c.if-self.false c.self.invariant c.requires.log

pub returns-clause-turn : goal.returns-clause-turn
returns-clause-turn c = λ x is. took c.self.inside.failed c.self.inside.parts c.args.self.now c.self.view_is c.take_turn-turned.new.self _ x is c.take_turn-turned.result c.args.step.now c.is_err-self-inside.ensures.value c.take_turn-turned.ensures.turned

pub returns-clause-succeeds : goal.returns-clause-succeeds
returns-clause-succeeds c = λ x is none. c.take_turn-turned.ensures.succeeds (subst (λ z. TakesNoMemory z c.args.step.now) (sym (some_is c.self.inside.failed c.self.inside.parts c.args.self.now c.self.view_is x is)) none)
