use Rattle.stage_turns.proofs.ShelfLemmas.{pin_is}
use Rattle.stage_turns.proofs.shelving.StageShelfShelf.pin.Goals as goal

pub returns-clause-answer : goal.returns-clause-answer
returns-clause-answer c = pin_is c.args.s c.args.self.now.floor.floor c.pin.result c.pin.ensures.pinned c.pin.ensures.below
