-- A script from its first step to its end.
use Rattle.std.proofs.Common.{◌≡◌, false, ℕ, ◌+◌, ◌<◌, ◌≤◌, List, [], ◌∷◌, ◌++◌, length, take, get_or, refl, ap, sym, ◌∙◌, subst, add-one, append_assoc}
use Rattle.std.specs.List.{All}
use Rattle.std.proofs.lemmas.List.Elements.{All-get_or}
use Rattle.std.proofs.lemmas.List.{map_push}
use Rattle.std.proofs.Math.Seq.{take-suc}
use Rattle.abstract_log.specs.declared.script.Script.{Script}
use Rattle.abstract_log.specs.declared.script.Step.{Step}
use Rattle.abstract_log.specs.declared.command.Workload.{Workload}
use Rattle.abstract_log.specs.declared.event.Event.{Event}
use Rattle.abstract_log.specs.declared.world.World.{World}
use Rattle.abstract_log.specs.Worlds.{start}
use Rattle.abstract_log.specs.Runs.{IsFinished, IsRun, after_all, world_of}
use Rattle.log_laws.proofs.Runs.{after_all-append}
use Rattle.log_laws.specs.Lawful.{IsLawful}
use Rattle.log_laws.proofs.LimitedRuns.{laws_of_run, workload_is}
use Rattle.stage_world.specs.Stages.{Stages}
use Rattle.stage_world.specs.Opening.{opening}
use Rattle.abstract_log.specs.Turns.{IsStep}
use Rattle.stage_world.specs.Schedules.{after_steps, events_of, step_of}
use Rattle.stage_world.specs.Settling.{IsSettling}
use Rattle.stage_world.specs.Whole.{StandsFor}
use Rattle.stage_world.proofs.AllTurns.{schedule}
use Rattle.settling_laws.specs.Ending.{IsFinishedBy}
use Rattle.world.specs.declared.stages.Played.{Played}
use Rattle.world.specs.Replays.{IsReplayed}
use Rattle.world.specs.Settled.{HasPlayed, Plays}
use Rattle.world.specs.Taking.{HasTaken, IsPlayed, HaveTakenTurns, StagesState, TakenTurn, events_after, settled as settled_steps, stages_after, steps_of, taken_of}
use Rattle.world.proofs.RoundLemmas.{take_all}
use Rattle.world.proofs.SettledLemmas.{steps_played}
use Rattle.world.proofs.TakingLemmas.{run_of}

events_append : (load : Workload) (z : Stages) (xs ys : List Step) → events_of load z (xs ++ ys) ≡ events_of load z xs ++ events_of load (after_steps load z xs) ys
events_append load z [] ys = refl
events_append load z (x ∷ xs) ys =
    ap (λ es. (step_of load z x).events ++ es) (events_append load (step_of load z x).after xs ys)
    ∙ sym (append_assoc (step_of load z x).events (events_of load (step_of load z x).after xs) (events_of load (after_steps load (step_of load z x).after xs) ys))

-- what the laws of settling say of all turns of settling
abbrev Finishes : Type 0
Finishes = (w : World) (z : Stages) (steps : List Step) → IsLawful w → StandsFor w z → IsSettling w.workload z steps → IsFinishedBy w z steps

pub finished_after : (script : Script) (ts : List TakenTurn) (s : StagesState) (steps : List Step) → Finishes → HasTaken script ts s → IsSettling script.workload (stages_after script ts) steps
    → IsFinished (world_of script.workload (events_after script (ts ++ settled_steps steps)))
finished_after script ts s steps law h settling =
    let load : Workload = script.workload in
    let z : Stages = stages_after script ts in
    let run = schedule script (steps_of ts) h.fits h.steps in
    let w : World = world_of load (events_after script ts) in
    let same : w.workload ≡ load = workload_is load (events_after script ts) in
    let lawful : IsLawful w = laws_of_run load (events_after script ts) h.fits.limits run.0 in
    let by : IsFinishedBy w z steps = law w z steps lawful run.1 (subst (λ l. IsSettling l z steps) (sym same) settling) in
    let events : events_after script (ts ++ settled_steps steps) ≡ events_after script ts ++ events_of load z steps =
    ap (events_of load (opening script)) (steps_played ts steps) ∙ events_append load (opening script) (steps_of ts) steps in
    let world : world_of load (events_after script (ts ++ settled_steps steps)) ≡ after_all w (events_of load z steps) =
    ap (world_of load) events ∙ after_all-append (start load) (events_after script ts) (events_of load z steps) in
    subst IsFinished (sym world) (subst (λ l. IsFinished (after_all w (events_of l z steps))) same by.finished)

-- the stages after settling
pub record AreSettled (old new : StagesState) : Type 0 where
  pub run : IsRun new.workload new.events
  pub finished : IsFinished (world_of new.workload new.events)
  pub workload : new.workload ≡ old.workload

pub settled_stages : (old new : StagesState) → Finishes → HaveTakenTurns old → Plays IsSettling old new → AreSettled old new
settled_stages old new law taken plays =
    let played : HasPlayed IsSettling taken.script taken.turns new = plays taken.script taken.turns taken.taken in
    let ts : List TakenTurn = taken.turns ++ settled_steps played.steps in
    let finished : IsFinished (world_of taken.script.workload (events_after taken.script ts)) = finished_after taken.script taken.turns old played.steps law taken.taken played.are in
    record {
      run = (run_of taken.script ts new played.taken).0;
      finished = subst (λ (l : Workload). IsFinished (world_of l new.events)) (sym played.taken.workload) (subst (λ es. IsFinished (world_of taken.script.workload es)) (sym played.taken.events) finished);
      workload = played.taken.workload ∙ sym taken.taken.workload;
    }

own_steps : (steps : List Step) → steps_of (taken_of steps) ≡ steps
own_steps [] = refl
own_steps (x ∷ steps) = ap (λ xs. x ∷ xs) (own_steps steps)

pub replayed : (script : Script) (s : StagesState) (result : Played) → (settles : HasPlayed IsSettling script (taken_of script.steps) s)
    → IsFinished (world_of script.workload (events_after script (taken_of script.steps ++ settled_steps settles.steps))) → IsPlayed script (taken_of script.steps ++ settled_steps settles.steps) result → IsReplayed script result
replayed script s result settles finished is = record {
  settling = settles.steps;
  settles = subst (λ xs. IsSettling script.workload (after_steps script.workload (opening script) xs) settles.steps) (own_steps script.steps) settles.are;
  workload = is.workload;
  events = is.events;
  lines = is.lines;
  is_run = is.is_run;
  finished = subst (λ (es : List Event). IsFinished (world_of script.workload es)) (sym is.events) finished;
  left = is.left;
}

pub step_fits : (script : Script) (ts : List TakenTurn) (s : StagesState) (items : List Step) (i : ℕ) (x : Step) → items ≡ script.steps → HasTaken script ts s → All (IsStep script.workload) script.steps → i < length items → x ≡ get_or items i x → IsStep s.workload x
step_fits script ts s items i x same h all within is =
    subst (λ l. IsStep l x) (sym h.workload) (subst (IsStep script.workload) (sym is) (All-get_or (IsStep script.workload) items i x within (subst (All (IsStep script.workload)) (sym same) all)))

taken_next_step : (xs : List Step) (i : ℕ) (x : Step) → i < length xs → x ≡ get_or xs i x → taken_of (take i xs) ++ record { step = x; settling = false } ∷ [] ≡ taken_of (take (i + 1) xs)
taken_next_step xs i x within is =
    sym (ap taken_of (ap (λ n. take n xs) (add-one i) ∙ take-suc xs i x within ∙ ap (λ y. take i xs ++ y ∷ []) (sym is)) ∙ map_push (λ (s : Step). record { step = s; settling = false }) (take i xs) x)

pub one_more : (script : Script) (s : StagesState) (xs : List Step) (i : ℕ) (x : Step) → i < length xs → x ≡ get_or xs i x → HasTaken script (taken_of (take i xs) ++ record { step = x; settling = false } ∷ []) s
    → HasTaken script (taken_of (take (i + 1) xs)) s
one_more script s xs i x within is h = subst (λ ts. HasTaken script ts s) (taken_next_step xs i x within is) h

pub steps_done : (script : Script) (s : StagesState) (items : List Step) (i : ℕ) → items ≡ script.steps → length items ≤ i → HasTaken script (taken_of (take i items)) s → HasTaken script (taken_of script.steps) s
steps_done script s items i same past h = subst (λ xs. HasTaken script (taken_of xs) s) (take_all items i past ∙ same) h
