-- Each pass of a loop of settling comes nearer to its end.
use Rattle.std.proofs.Common.{◌≡◌, ℕ, suc, ◌+◌, ◌<◌, ◌≤◌, Bool, true, false, List, [], ◌∷◌, ◌++◌, map, get_or, refl, ap, ap₂, sym, ◌∙◌, subst, arith, Option, Some, None}
use Rattle.abstract_log.specs.declared.command.Workload.{Workload}
use Rattle.abstract_log.specs.declared.script.Script.{Script}
use Rattle.abstract_log.specs.declared.script.Step.{Step}
use Rattle.abstract_log.specs.declared.world.World.{World}
use Rattle.abstract_log.specs.Fits.{FitsLimits}
use Rattle.abstract_log.specs.Runs.{world_of}
use Rattle.log_laws.specs.Lawful.{IsLawful}
use Rattle.log_laws.proofs.LimitedRuns.{laws_of_run, workload_is}
use Rattle.stage_world.specs.Stages.{Datacentre, Stages}
use Rattle.stage_world.specs.Schedules.{after_steps}
use Rattle.stage_world.specs.Settling.{after_passes, all_marks, answering_rounds, is_answering, is_unfinished, telling_rounds}
use Rattle.stage_world.specs.Whole.{StandsFor, nowhere_at}
use Rattle.settling_laws.specs.Ending.{AreQuiet, EndsTelling, most_passes}
use Rattle.settling_laws.specs.Rounds.{EndsAnswering, IsStanding, left_in}
use Rattle.settling_laws.proofs.Loop.{answering_stays_quiet}
use Rattle.settling_laws.proofs.Passes.{EndsAfter, IsBlind, answering_is_blind, as_many, comes_nearer, loop_ends, passes_left, stands_unlinked, telling_is_blind, unlinked}
use Rattle.datacentre.specs.Seen.{DatacentreState}
use Rattle.world.specs.Settled.{AreAnswered, AreCalm, Plays}
use Rattle.world.specs.Showing.{states_from}
use Rattle.world.specs.Taking.{HasTaken, HaveTakenTurns, StagesState, TakenTurn, settled, stages_after}
use Rattle.world.proofs.KnownLemmas.{known_of}
use Rattle.world.proofs.SettledLemmas.{IsSoFar, after_so_far, stages_played}
use Rattle.world.proofs.TakingLemmas.{run_of}

-- the stages of a datacentre that has not failed
abbrev or_nowhere : Option Datacentre → Datacentre
or_nowhere None = nowhere_at
or_nowhere (Some z) = z

abbrev pub seen_in : StagesState → List Datacentre
seen_in s = map (λ (x : DatacentreState). or_nowhere x.stages) s.network.datacentres

seen_all : (n : ℕ) (zs : List Datacentre) → map (λ (x : DatacentreState). or_nowhere x.stages) (states_from n zs) ≡ zs
seen_all n [] = refl
seen_all n (z ∷ zs) = ap (λ ys. z ∷ ys) (seen_all (n + 1) zs)

-- the stages that the state shows, with nothing in their links
abbrev pub shown_in : StagesState → Stages
shown_in s = unlinked s.workload (seen_in s)

module _ (script : Script) (ts : List TakenTurn) (s : StagesState) (h : HasTaken script ts s) where
  pub stands_after : IsStanding script.workload (stages_after script ts)
  stands_after =
      let run = run_of script ts s h in
      record {
        world = world_of s.workload s.events;
        workload = workload_is s.workload s.events ∙ h.workload;
        lawful = laws_of_run s.workload s.events (subst FitsLimits (sym h.workload) h.fits.limits) run.0;
        stands = run.1;
      }

  pub shown_is : shown_in s ≡ unlinked script.workload (stages_after script ts).datacentres
  shown_is = ap₂ unlinked h.workload (ap (map (λ (x : DatacentreState). or_nowhere x.stages)) h.shown.datacentres ∙ seen_all 0 (stages_after script ts).datacentres)

module _ (goes_on : Stages → Bool) (pass : Workload → Stages → List Step) where
  -- how many passes the loop still makes from this state on, if no more than the fuel
  abbrev pub passes_from : ℕ → StagesState → ℕ
  passes_from fuel s = passes_left goes_on pass s.workload fuel (shown_in s)

  passes_are : (fuel : ℕ) (script : Script) (ts : List TakenTurn) (s : StagesState) → IsBlind goes_on pass script.workload → HasTaken script ts s → passes_from fuel s ≡ passes_left goes_on pass script.workload fuel (stages_after script ts)
  passes_are fuel script ts s blind h =
      let load : Workload = script.workload in
      let z : Stages = stages_after script ts in
      let stands : IsStanding load z = stands_after script ts s h in
      ap₂ (λ l y. passes_left goes_on pass l fuel y) h.workload (shown_is script ts s h)
      ∙ as_many goes_on pass load blind fuel (unlinked load z.datacentres) z (stands_unlinked load z stands) stands refl

  -- The loop ends from state a on, within the fuel.
  pub record Ends (fuel : ℕ) (a : StagesState) : Type 0 where
    pub taken : HaveTakenTurns a
    pub blind : IsBlind goes_on pass taken.script.workload
    pub passes : ℕ
    pub after : EndsAfter goes_on pass taken.script.workload (stages_after taken.script taken.turns) passes
    pub few : passes ≤ fuel

  pub pass_nearer : (fuel : ℕ) (a b c : StagesState) → Ends fuel a → Plays (IsSoFar goes_on pass) a b → ((script : Script) (ts : List TakenTurn) → HasTaken script ts b → goes_on (stages_after script ts) ≡ true)
      → Plays (λ load z xs. xs ≡ pass load z) b c → passes_from fuel c < passes_from fuel b
  pass_nearer fuel a b c e so going next =
      let script : Script = e.taken.script in
      let load : Workload = script.workload in
      let z : Stages = stages_after script e.taken.turns in
      let one = so script e.taken.turns e.taken.taken in
      let m : ℕ = one.are.passes in
      let to_b : List TakenTurn = e.taken.turns ++ settled one.steps in
      let at_b : stages_after script to_b ≡ after_passes load pass z m = stages_played script e.taken.turns one.steps ∙ after_so_far goes_on pass load z one.steps one.are in
      let two = next script to_b one.taken in
      let to_c : List TakenTurn = to_b ++ settled two.steps in
      let at_c : stages_after script to_c ≡ after_passes load pass z (suc m) =
      stages_played script to_b two.steps ∙ ap (after_steps load (stages_after script to_b)) two.are ∙ ap (λ y. after_steps load y (pass load y)) at_b in
      omega (
        arith,
        comes_nearer goes_on pass load fuel e.passes m z e.after e.few one.are.before (sym (ap goes_on at_b) ∙ going script to_b one.taken),
        passes_are fuel script to_b b e.blind one.taken,
        ap (passes_left goes_on pass load fuel) at_b,
        passes_are fuel script to_c c e.blind two.taken,
        ap (passes_left goes_on pass load fuel) at_c,
      )

-- Answering ends, within a pass more than there is work left.
abbrev pub work_left : StagesState → ℕ
work_left s = left_in (shown_in s) + 1

pub answers_end : (s : StagesState) → ((w : World) (z : Stages) → IsLawful w → StandsFor w z → EndsAnswering w.workload z) → HaveTakenTurns s → Ends is_answering answering_rounds (work_left s) s
answers_end s law h =
    let load : Workload = h.script.workload in
    let z : Stages = stages_after h.script h.turns in
    let at : IsStanding load z = stands_after h.script h.turns s h.taken in
    let ends : EndsAnswering load z = subst (λ l. EndsAnswering l z) at.workload (law at.world z at.lawful at.stands) in
    record {
      taken = h;
      blind = answering_is_blind load;
      passes = ends.passes;
      after = loop_ends is_answering answering_rounds load z ends.passes ends.turns ends.loop;
      few = let same : left_in (shown_in s) ≡ left_in z = ap left_in (shown_is h.script h.turns s h.taken) in omega (arith, ends.few, same);
    }

-- Telling ends, within two passes for each record that a log may get.
pub tells_end : (s : StagesState) → ((w : World) (z : Stages) → IsLawful w → StandsFor w z → AreQuiet w.workload z → is_answering z ≡ false → EndsTelling w.workload z) → HaveTakenTurns s → AreCalm s.workload s.network.datacentres → AreAnswered s.network.datacentres
    → Ends is_unfinished telling_rounds (most_passes s.workload) s
tells_end s law h calm answered =
    let load : Workload = h.script.workload in
    let z : Stages = stages_after h.script h.turns in
    let at : IsStanding load z = stands_after h.script h.turns s h.taken in
    let quiet : AreQuiet load z = subst (λ l. AreQuiet l z) h.taken.workload (calm z (known_of h.script h.turns s h.taken)) in
    let ends : EndsTelling load z = subst (λ l. EndsTelling l z) at.workload (law at.world z at.lawful at.stands (subst (λ l. AreQuiet l z) (sym at.workload) quiet) (answered z (known_of h.script h.turns s h.taken))) in
    record {
      taken = h;
      blind = telling_is_blind load;
      passes = ends.passes;
      after = loop_ends is_unfinished telling_rounds load z ends.passes ends.turns ends.loop;
      few = omega (arith, ends.few, ap most_passes h.taken.workload);
    }

-- The marks leave no announcement, and the rounds of answering bring none.

-- stages that the same datacentres show are the same
same_shown : (z y : Stages) (xs : List DatacentreState) → xs ≡ states_from 0 z.datacentres → xs ≡ states_from 0 y.datacentres → z.datacentres ≡ y.datacentres
same_shown z y xs of_z of_y =
    sym (seen_all 0 z.datacentres) ∙ ap (map (λ (x : DatacentreState). or_nowhere x.stages)) (sym of_z ∙ of_y) ∙ seen_all 0 y.datacentres

-- what is quiet is so for all that may be known of the datacentres
calm_by : (script : Script) (ts : List TakenTurn) (s : StagesState) → HasTaken script ts s → AreQuiet script.workload (stages_after script ts) → AreCalm s.workload s.network.datacentres
calm_by script ts s h quiet z known d within =
    ap (λ zs. (get_or zs d nowhere_at).announcement) (same_shown z (stages_after script ts) s.network.datacentres known.shown h.shown.datacentres)
    ∙ quiet d (omega (arith, within, ap (λ (l : Workload). l.dcs) h.workload))

pub marks_calm : (a b : StagesState) → ((w : World) (z : Stages) → IsLawful w → StandsFor w z → AreQuiet w.workload (after_steps w.workload z (all_marks z))) → HaveTakenTurns a → Plays (λ load z xs. xs ≡ all_marks z) a b → AreCalm b.workload b.network.datacentres
marks_calm a b law h plays =
    let load : Workload = h.script.workload in
    let z : Stages = stages_after h.script h.turns in
    let at : IsStanding load z = stands_after h.script h.turns a h.taken in
    let one = plays h.script h.turns h.taken in
    let quiet : AreQuiet load (after_steps load z (all_marks z)) = subst (λ l. AreQuiet l (after_steps l z (all_marks z))) at.workload (law at.world z at.lawful at.stands) in
    calm_by h.script (h.turns ++ settled one.steps) b one.taken
    (subst (AreQuiet load) (sym (stages_played h.script h.turns one.steps ∙ ap (after_steps load z) one.are)) quiet)

pub answering_calm : (a b : StagesState) → HaveTakenTurns a → AreCalm a.workload a.network.datacentres → Plays (IsSoFar is_answering answering_rounds) a b → AreCalm b.workload b.network.datacentres
answering_calm a b h calm plays =
    let load : Workload = h.script.workload in
    let z : Stages = stages_after h.script h.turns in
    let at : IsStanding load z = stands_after h.script h.turns a h.taken in
    let one = plays h.script h.turns h.taken in
    let quiet : AreQuiet load z = subst (λ l. AreQuiet l z) h.taken.workload (calm z (known_of h.script h.turns a h.taken)) in
    calm_by h.script (h.turns ++ settled one.steps) b one.taken
    (subst (AreQuiet load) (sym (stages_played h.script h.turns one.steps ∙ after_so_far is_answering answering_rounds load z one.steps one.are)) (answering_stays_quiet load z at one.are.passes quiet))
