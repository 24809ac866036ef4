use Rattle.std.proofs.Common.{List, ◌++◌}
use Rattle.std.proofs.lemmas.Result.{IfOk-weaker}
use Rattle.world.specs.Taking.{TakenTurn, settled, taken_of}
use Rattle.world.proofs.ReplayLemmas.{finished_after, replayed}
use Rattle.world.proofs.replaying.replay.Goals as goal

pub returns : goal.returns
returns c =
    let own : List TakenTurn = taken_of c.args.script.now.steps in
    let settles = c.in_ok-settle.ensures.turns c.args.script.now own c.in_ok-stages.ensures in
    let ts : List TakenTurn = own ++ settled settles.steps in
    IfOk-weaker c.finish.result _ _
    (λ played is. replayed c.args.script.now _ played settles (finished_after c.args.script.now own _ settles.steps c.settled_worlds_are_finished.ensures c.in_ok-stages.ensures settles.are) is)
    (c.finish.ensures c.args.script.now ts settles.taken)
