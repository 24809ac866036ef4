use Rattle.datacentre.proofs.WholeTurns.{if_five, learn_is, learn_may}
use Rattle.datacentre.proofs.parts.Parts.learn.Goals as goal

pub learn-requires-clause-may : goal.learn-requires-clause-may
learn-requires-clause-may c = learn_may c.args.self.now _ c.requires c.item_mut.ensures.value

pub returns : goal.returns
returns c =
    if_five c.learn.result _ _ _ _ _ _ c.learn.ensures.table c.learn.ensures.learnt c.learn.ensures.outcome c.learn.ensures.events c.learn.ensures.changed
    (λ done table learnt outcome events changed. learn_is c.args.self.now c.item_mut.result.now c.learn.new.vector c.learn.new.maintainers c.learn.new.table c.learn.new.learnt done
    c.requires c.item_mut.ensures.value c.learn.ensures.maintainers c.learn.ensures.vector table learnt outcome events changed)
