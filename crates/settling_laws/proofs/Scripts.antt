-- Scripts come to an end.
use Rattle.std.proofs.Common.{◌≡◌, List, [], ◌∷◌, ◌++◌, refl, ap, sym, subst, ◌∙◌}
use Rattle.std.specs.List.{All}
use Rattle.std.proofs.lemmas.List.Elements.{All-append}
use Rattle.abstract_log.specs.declared.command.Workload.{Workload}
use Rattle.abstract_log.specs.declared.event.Event.{Event}
use Rattle.abstract_log.specs.declared.script.Script.{Script}
use Rattle.abstract_log.specs.declared.script.Step.{Step}
use Rattle.abstract_log.specs.declared.world.World.{World}
use Rattle.abstract_log.specs.Fits.{FitsScript}
use Rattle.abstract_log.specs.Runs.{IsFinished, after_all, world_of}
use Rattle.abstract_log.specs.Worlds.{start}
use Rattle.log_laws.proofs.LimitedRuns.{laws_of_run, workload_is}
use Rattle.log_laws.proofs.Runs.{after_all-append}
use Rattle.stage_world.specs.Opening.{opening}
use Rattle.abstract_log.specs.Turns.{IsStep}
use Rattle.stage_world.specs.Schedules.{step_of, after_steps, events_of}
use Rattle.stage_world.specs.Settling.{IsSettling}
use Rattle.stage_world.specs.Stages.{Stages}
use Rattle.stage_world.proofs.AllTurns.{schedule}
use Rattle.stage_world.proofs.OpeningLemmas.{opening_stands_for}
use Rattle.settling_laws.specs.Rounds.{IsStanding}
use Rattle.settling_laws.specs.Ending.{EndsSettling, HasFinishedRun, IsFinishedBy}
use Rattle.settling_laws.proofs.Settled.{events_of-append, settled_is_finished, settling_ends_at}

pub script_ends : (script : Script) → FitsScript script → All (IsStep script.workload) script.steps → HasFinishedRun script
script_ends script fits good =
    let load : Workload = script.workload in
    let z : Stages = after_steps load (opening script) script.steps in
    let es : List Event = events_of load (opening script) script.steps in
    let w : World = world_of load es in
    let before = schedule script script.steps fits good in
    let same : w.workload ≡ load = workload_is load es in
    let h : IsStanding load z = record { world = w; workload = same; lawful = laws_of_run load es fits.limits before.0; stands = before.1 } in
    let ends : EndsSettling load z = settling_ends_at load z h in
    let all = schedule script (script.steps ++ ends.turns) fits (All-append (IsStep load) script.steps ends.turns good ends.steps) in
    let by : IsFinishedBy w z ends.turns = settled_is_finished w z ends.turns h.lawful h.stands (subst (λ l. IsSettling l z ends.turns) (sym same) ends.settling) in
    let split : events_of load (opening script) (script.steps ++ ends.turns) ≡ es ++ events_of load z ends.turns = events_of-append load script.steps ends.turns (opening script) in
    let world_is : world_of load (events_of load (opening script) (script.steps ++ ends.turns)) ≡ after_all w (events_of load z ends.turns) = ap (world_of load) split ∙ after_all-append (start load) es (events_of load z ends.turns) in
    record {
      settling = ends.turns;
      settles = ends.settling;
      run = all.0;
      finished = subst IsFinished (sym world_is) (subst (λ l. IsFinished (after_all w (events_of l z ends.turns))) same by.finished);
    }
