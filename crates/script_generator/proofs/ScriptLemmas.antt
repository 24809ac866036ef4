-- A generated script keeps the ranges of scripts.
use Rattle.std.proofs.Common.{◌≡◌, ℕ, List, [], ◌∷◌, length, All, refl, ap, sym, subst, arith}
use Rattle.std.proofs.lemmas.List.Elements.{All-nil, All-cons, All-get_or, All-weaker}
use Rattle.rand_pcg.specs.Lcg.{Lcg}
use Rattle.abstract_log.specs.declared.command.SessionPlan.{SessionPlan}
use Rattle.abstract_log.specs.declared.command.Workload.{Workload}
use Rattle.abstract_log.specs.declared.script.Script.{Script}
use Rattle.abstract_log.specs.declared.script.Sizes.{Sizes}
use Rattle.abstract_log.specs.declared.script.Step.{Step}
use Rattle.abstract_log.specs.Commands.{no_plan}
use Rattle.abstract_log.specs.Fits.{FitsPlan, FitsScript, FitsSizes}
use Rattle.abstract_log.specs.Turns.{FitsStep}
use Rattle.script_generator.specs.Draws.{many, seeded}
use Rattle.script_generator.specs.Generated.{plan, step, sizes, script, generated}
use Rattle.script_generator.proofs.DrawLemmas.{length-many, All-many}
use Rattle.script_generator.proofs.CommandLemmas.{IsPlan, plan_fits, commands_in_all}
use Rattle.script_generator.proofs.StepLemmas.{step_fits}

pub is_generated : (seed : ℕ) (start middle end : Lcg) (plans : List SessionPlan) (turns : List Step) (all : List Sizes) → start ≡ seeded seed → (plans, middle) ≡ many plan 12 start
    → (turns, end) ≡ many (λ _. step) 20000 middle → all ≡ sizes ∷ sizes ∷ sizes ∷ []
    → record { workload = record { dcs = 3; sessions = plans }; round = 4; sizes = all; steps = turns } ≡ generated seed
unfolding generated script
is_generated seed start middle end plans turns all begun first second three =
    let made : plans ≡ (many plan 12 start).0 = ap (λ m. m.0) first in
    let left : middle ≡ (many plan 12 start).1 = ap (λ m. m.1) first in
    let taken : turns ≡ (many (λ _. step) 20000 middle).0 = ap (λ m. m.0) second in
    rw (three, taken, left, made, begun) refl

sizes_fit : FitsSizes sizes
sizes_fit = record {
  batchers = (omega arith, omega arith);
  filters = (omega arith, omega arith);
  queues = (omega arith, omega arith);
  maintainers = (omega arith, omega arith);
  indexers = (omega arith, omega arith);
  senders = (omega arith, omega arith);
  receivers = (omega arith, omega arith);
}

-- sessions and steps as they are made
pub record AreMade (plans : List SessionPlan) (turns : List Step) : Type 0 where
  pub sessions : length plans ≡ 12
  pub each : All IsPlan plans
  pub count : length turns ≡ 20000
  pub every : All (FitsStep (record { dcs = 3; sessions = plans })) turns

made_fit : (plans : List SessionPlan) (turns : List Step) → AreMade plans turns
    → FitsScript (record { workload = record { dcs = 3; sessions = plans }; round = 4; sizes = sizes ∷ sizes ∷ sizes ∷ []; steps = turns })
made_fit plans turns made = record {
  limits = record {
    workload = record {
      some = omega arith;
      few = omega arith;
      homes = λ s there. (All-get_or IsPlan plans s no_plan there made.each).fits.home;
    };
    sessions = omega (arith, made.sessions);
    plans = All-weaker IsPlan (FitsPlan 3) (λ p is. is.fits) plans made.each;
    commands = omega (arith, commands_in_all plans made.each, made.sessions);
  };
  round = (omega arith, omega arith);
  each = refl;
  sizes = All-cons FitsSizes sizes (sizes ∷ sizes ∷ []) sizes_fit (All-cons FitsSizes sizes (sizes ∷ []) sizes_fit (All-cons FitsSizes sizes [] sizes_fit (All-nil FitsSizes)));
  steps = omega (arith, made.count);
}

all_made : (g h : Lcg) → AreMade (many plan 12 g).0 (many (λ _. step) 20000 h).0
all_made g h =
    let sessions = length-many plan 12 g in
    let load : Workload = record { dcs = 3; sessions = (many plan 12 g).0 } in
    record {
      sessions = sessions;
      each = All-many IsPlan plan 12 (λ s at below. plan_fits s at below) g;
      count = length-many (λ _. step) 20000 h;
      every = All-many (FitsStep load) (λ _. step) 20000 (λ n at below. step_fits load at (record { dcs = refl; sessions = sessions })) h;
    }

-- the ranges of scripts and of their steps
pub record IsGood (script : Script) : Type 0 where
  pub fits : FitsScript script
  pub steps : All (FitsStep script.workload) script.steps

pub good : (plans : List SessionPlan) (turns : List Step) → AreMade plans turns
    → IsGood (record { workload = record { dcs = 3; sessions = plans }; round = 4; sizes = sizes ∷ sizes ∷ sizes ∷ []; steps = turns })
good plans turns made = record { fits = made_fit plans turns made; steps = made.every }

pub generated_good : (seed : ℕ) → IsGood (generated seed)
unfolding generated script
generated_good seed = good (many plan 12 (seeded seed)).0 (many (λ _. step) 20000 (many plan 12 (seeded seed)).1).0 (all_made (seeded seed) (many plan 12 (seeded seed)).1)

pub is_good : (seed : ℕ) (made : Script) → made ≡ generated seed → IsGood made
is_good seed made is = subst IsGood (sym is) (generated_good seed)
