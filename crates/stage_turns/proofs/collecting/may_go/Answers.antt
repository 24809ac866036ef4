use Rattle.std.proofs.Common.{ap, ◌∙◌}
use Rattle.stage_turns.specs.Collecting.{newest_of}
use Rattle.stage_turns.proofs.CollectingLemmas.{may_go_is}
use Rattle.stage_turns.proofs.collecting.may_go.Goals as goal

pub returns : goal.returns
returns c =
    c.may_collect.ensures.test
    ∙ may_go_is c.args.indexers.now c.args.floor.now.floor c.args.table.now.table _ c.args.slot.now _ c.requires.record
    (c.newest_of-newer.ensures ∙ ap (newest_of c.args.indexers.now c.args.slot.now.value) c.floor-2.ensures.value)
