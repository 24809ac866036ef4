-- Turns one after another.
use Rattle.std.proofs.Common.{◌≡◌, inl, inr, Bool, true, false, List, [], ◌∷◌, ◌++◌, refl, ap, ap₂, sym, ◌∙◌, subst}
use Rattle.std.specs.List.{All, AllZip}
use Rattle.std.proofs.lemmas.List.{map_push, append_assoc, append-nil}
use Rattle.std.proofs.lemmas.List.Elements.{All-push}
use Rattle.abstract_log.specs.declared.command.Workload.{Workload}
use Rattle.abstract_log.specs.declared.event.Event.{Event}
use Rattle.abstract_log.specs.declared.script.Outcome.{Outcome}
use Rattle.abstract_log.specs.declared.script.Script.{Script}
use Rattle.abstract_log.specs.declared.script.StageLine.{StageLine}
use Rattle.abstract_log.specs.declared.script.Step.{Step}
use Rattle.abstract_log.specs.declared.world.World.{World}
use Rattle.abstract_log.specs.Fits.{FitsLimits}
use Rattle.abstract_log.specs.Runs.{IsRun, world_of}
use Rattle.log_laws.proofs.LimitedRuns.{laws_of_run, workload_is}
use Rattle.stage_world.specs.Stages.{Stages}
use Rattle.stage_world.specs.Opening.{opening}
use Rattle.abstract_log.specs.Turns.{IsStep}
use Rattle.stage_world.specs.Schedules.{after_steps, events_of, step_of}
use Rattle.stage_world.specs.Idle.{IsIdleTurn}
use Rattle.stage_world.specs.Whole.{StandsFor}
use Rattle.stage_world.proofs.AllTurns.{schedule}
use Rattle.stage_turns.specs.declared.done.TurnDone.{TurnDone}
use Rattle.datacentre.specs.Leaving.{IsLeftBy}
use Rattle.world.specs.declared.network.Network.{Network}
use Rattle.world.specs.declared.stages.Played.{Played}
use Rattle.world.specs.Showing.{HasMoved, MayStep, Shows, TellsIdle}
use Rattle.world.specs.Taking.{AreLines, HasTaken, IsBefore, IsPlayed, HaveTakenTurns, StagesState, TakenTurn, events_after, line_of, lines_told, stages_after, steps_of}
use Rattle.world.proofs.LeftLemmas.{left_of_all}

pub after_push : (load : Workload) (z : Stages) (ts : List Step) (t : Step) → after_steps load z (ts ++ t ∷ []) ≡ (step_of load (after_steps load z ts) t).after
after_push load z [] t = refl
after_push load z (s ∷ ts) t = after_push load (step_of load z s).after ts t

pub events_push : (load : Workload) (z : Stages) (ts : List Step) (t : Step) → events_of load z (ts ++ t ∷ []) ≡ events_of load z ts ++ (step_of load (after_steps load z ts) t).events
events_push load z [] t = append-nil (step_of load z t).events
events_push load z (s ∷ ts) t = ap (λ es. (step_of load z s).events ++ es) (events_push load (step_of load z s).after ts t)
    ∙ sym (append_assoc (step_of load z s).events (events_of load (step_of load z s).after ts) (step_of load (after_steps load (step_of load z s).after ts) t).events)

-- more lines behind
before_push : (idle : Type 0) (line : StageLine) (rest lines more : List StageLine) → IsBefore idle line rest lines → IsBefore idle line (rest ++ more) (lines ++ more)
before_push idle line rest lines more before = elim before [
  | inl written ↦ inl (ap (λ ls. ls ++ more) written.0, written.1)
  | inr left ↦ inr (ap (λ ls. ls ++ more) left.0, left.1, left.2)
]

pub lines_push : (load : Workload) (z : Stages) (ts : List TakenTurn) (t : TakenTurn) (lines more : List StageLine) → AreLines load z ts lines
    → IsBefore (IsIdleTurn load (after_steps load z (steps_of ts)) t.step) (line_of load (after_steps load z (steps_of ts)) t) [] more → AreLines load z (ts ++ t ∷ []) (lines ++ more)
lines_push load z [] t lines more are before = ([], subst (λ ls. IsBefore (IsIdleTurn load z t.step) (line_of load z t) [] (ls ++ more)) (sym are) before, refl)
lines_push load z (s ∷ ts) t lines more are before =
    (are.0 ++ more, before_push (IsIdleTurn load z s.step) (line_of load z s) are.0 lines more are.1, lines_push load (step_of load z s.step).after ts t are.0 more are.2 before)

-- what a turn writes: its line, or none where it is left out
abbrev pub Wrote : Workload → Stages → Step → Bool → Outcome → List StageLine → Type 0
Wrote load z step settling outcome more = IsBefore (IsIdleTurn load z step) (record { step = step; outcome = outcome; settling = settling }) [] more

-- the line is left out exactly where the turn is one of settling and changed nothing
pub wrote_if : (load : Workload) (z : Stages) (step : Step) (settling changed : Bool) (outcome : Outcome) → TellsIdle load z step changed
    → Wrote load z step settling outcome (lines_told step outcome settling changed)
wrote_if load z step false false outcome tells = inl (refl, λ s i. absurd (cc))
wrote_if load z step false true outcome tells = inl (refl, λ s i. absurd (cc))
wrote_if load z step true true outcome tells = inl (refl, λ s i. tells.other refl i)
wrote_if load z step true false outcome tells = inr (refl, refl, tells.idle refl)

-- Stages that have taken turns stand for the world of their run.

pub run_of : (script : Script) (ts : List TakenTurn) (s : StagesState) → HasTaken script ts s → IsRun s.workload s.events × StandsFor (world_of s.workload s.events) (stages_after script ts)
run_of script ts s h =
    let run = schedule script (steps_of ts) h.fits h.steps in (
      subst (λ l. IsRun l s.events) (sym h.workload) (subst (IsRun script.workload) (sym h.events) run.0),
      subst (λ l. StandsFor (world_of l s.events) (stages_after script ts)) (sym h.workload) (subst (λ es. StandsFor (world_of script.workload es) (stages_after script ts)) (sym h.events) run.1),
    )

pub may_take : (script : Script) (ts : List TakenTurn) (s : StagesState) (step : Step) → HasTaken script ts s → IsStep s.workload step → MayStep s.workload step (stages_after script ts) s.network
may_take script ts s step h good =
    let run = run_of script ts s h in
    record {
      world = world_of s.workload s.events;
      same = workload_is s.workload s.events;
      lawful = laws_of_run s.workload s.events (subst FitsLimits (sym h.workload) h.fits.limits) run.0;
      stands = run.1;
      shown = subst (λ (l : Workload). Shows l.dcs (stages_after script ts) s.network) (sym h.workload) h.shown;
      fits = good;
    }

-- some turns were taken, so one more may be
pub may_take_some : (s : StagesState) (step : Step) → HaveTakenTurns s → IsStep s.workload step → (z : Stages) × MayStep s.workload step z s.network
may_take_some s step h good = (stages_after h.script h.turns, may_take h.script h.turns s step h.taken good)

-- the state after one more turn
abbrev pub state_with : StagesState → Network → List Event → List StageLine → StagesState
state_with s network events more = record {
  workload = s.workload;
  network = network;
  events = s.events ++ events;
  lines = s.lines ++ more;
  failed = false;
}

module _ (s : StagesState) (step : Step) (settling : Bool) (network : Network) (done : TurnDone) (more : List StageLine) (good : IsStep s.workload step) where
  -- what one more turn does to all, and what it writes
  abbrev Moves : Stages → Type 0
  Moves z = HasMoved s.workload.dcs (step_of s.workload z step) network done × Wrote s.workload z step settling done.outcome more

  pub taken_next : (script : Script) (ts : List TakenTurn) → HasTaken script ts s → Moves (stages_after script ts) → HasTaken script (ts ++ record { step = step; settling = settling } ∷ []) (state_with s network done.events more)
  taken_next script ts h does =
      let load : Workload = script.workload in
      let z : Stages = opening script in
      let now : Stages = stages_after script ts in
      let t : TakenTurn = record { step = step; settling = settling } in
      let steps : steps_of (ts ++ t ∷ []) ≡ steps_of ts ++ step ∷ [] = map_push (λ (x : TakenTurn). x.step) ts t in
      let here : HasMoved load.dcs (step_of load now step) network done = subst (λ (l : Workload). HasMoved l.dcs (step_of l now step) network done) h.workload does.0 in
      let wrote : Wrote load now step settling done.outcome more = subst (λ (l : Workload). Wrote l now step settling done.outcome more) h.workload does.1 in
      record {
        fits = h.fits;
        steps = subst (All (IsStep load)) (sym steps) (All-push (IsStep load) (steps_of ts) step h.steps (subst (λ l. IsStep l step) h.workload good));
        well = refl;
        workload = h.workload;
        shown = subst (λ y. Shows load.dcs y network) (sym (ap (after_steps load z) steps ∙ after_push load z (steps_of ts) step)) here.shown;
        events = ap₂ (λ (a : List Event) (b : List Event). a ++ b) h.events here.events ∙ sym (ap (events_of load z) steps ∙ events_push load z (steps_of ts) step);
        lines =
            lines_push load z ts t s.lines more h.lines
            (subst (λ (o : Outcome). Wrote load now step settling o more) here.outcome wrote);
      }

  pub some_next : ((z : Stages) → MayStep s.workload step z s.network → Moves z) → HaveTakenTurns s → HaveTakenTurns (state_with s network done.events more)
  some_next moves h = record {
    script = h.script;
    turns = h.turns ++ record { step = step; settling = settling } ∷ [];
    taken = taken_next h.script h.turns h.taken (moves (stages_after h.script h.turns) (may_take h.script h.turns s step h.taken good));
  }

pub played : (script : Script) (ts : List TakenTurn) (s : StagesState) (result : Played) → HasTaken script ts s → result.run.workload ≡ s.workload → result.run.events ≡ s.events → result.stages ≡ s.lines
    → AllZip IsLeftBy s.network.datacentres result.left → IsPlayed script ts result
played script ts s result h workload events lines left =
    let run = schedule script (steps_of ts) h.fits h.steps in
    let is : result.run.events ≡ events_after script ts = events ∙ h.events in
    let w : World = world_of script.workload result.run.events in
    let stands : StandsFor w (stages_after script ts) = subst (λ es. StandsFor (world_of script.workload es) (stages_after script ts)) (sym is) run.1 in
    record {
      workload = workload ∙ h.workload;
      events = is;
      lines = subst (AreLines script.workload (opening script) ts) (sym lines) h.lines;
      is_run = subst (IsRun script.workload) (sym is) run.0;
      stands = stands;
      left = left_of_all w (stages_after script ts) s.network result.left
          (subst (λ n. Shows n (stages_after script ts) s.network) (sym (ap (λ (l : Workload). l.dcs) (workload_is script.workload result.run.events))) h.shown) stands left;
    }

-- What was written is as the code has it.
module _ (s : StagesState) (step : Step) (settling : Bool) (network : Network) (done : TurnDone) (more : List StageLine) (es : List Event) (ls : List StageLine) (events : es ≡ s.events ++ done.events)
    (lines : ls ≡ s.lines ++ more) (good : IsStep s.workload step)
    (moves : (z : Stages) → MayStep s.workload step z s.network → HasMoved s.workload.dcs (step_of s.workload z step) network done × Wrote s.workload z step settling done.outcome more) where
  abbrev new : StagesState
  new = record { workload = s.workload; network = network; events = es; lines = ls; failed = false }

  written : state_with s network done.events more ≡ new
  written = ap₂ (λ (a : List Event) (b : List StageLine). record { workload = s.workload; network = network; events = a; lines = b; failed = false }) (sym events) (sym lines)

  pub some_written : HaveTakenTurns s → HaveTakenTurns new
  some_written h = subst HaveTakenTurns written (some_next s step settling network done more good moves h)

  pub taken_written : (script : Script) (ts : List TakenTurn) → HasTaken script ts s → HasTaken script (ts ++ record { step = step; settling = settling } ∷ []) new
  taken_written script ts h =
      subst (HasTaken script (ts ++ record { step = step; settling = settling } ∷ [])) written
      (taken_next s step settling network done more good script ts h (moves (stages_after script ts) (may_take script ts s step h good)))

  pub run_written : HaveTakenTurns s → IsRun s.workload es
  run_written h = let is : HaveTakenTurns new = some_written h in (run_of is.script is.turns new is.taken).0
