-- A datacentre of stages that stand for a lawful world, and the turns of a local round there.
use Rattle.std.proofs.Common.{◌≡◌, ◌≢◌, ℕ, ◌<◌, List, [], ◌∷◌, ◌++◌, length, refl, ap, sym, subst, ◌∙◌, arith}
use Rattle.std.specs.List.{All}
use Rattle.std.proofs.lemmas.List.{length-set, get_or-set_same, get_or-set_other}
use Rattle.std.proofs.lemmas.List.Elements.{All-head, All-tail}
use Rattle.abstract_log.specs.declared.command.Workload.{Workload}
use Rattle.abstract_log.specs.declared.script.Step.{Step}
use Rattle.abstract_log.specs.declared.script.Step.TheVariants.{Client, Flush, Pass, Stamp, Token, Place, Gossip, Post, Learn}
use Rattle.abstract_log.specs.declared.world.World.{World}
use Rattle.abstract_log.specs.Runs.{after_all}
use Rattle.stage_world.specs.Stages.{Datacentre, Stages}
use Rattle.stage_world.specs.StandsFor.{IsAt, StandsAt}
use Rattle.stage_world.specs.Whole.{datacentre_at, nowhere_at, with_turn}
use Rattle.abstract_log.specs.Turns.{IsStep}
use Rattle.stage_world.specs.Schedules.{IsKept, turn_of, step_of, after_steps}
use Rattle.stage_world.proofs.AllTurns.{step_kept}
use Rattle.settling_laws.specs.Rounds.{IsStanding}
use Rattle.log_laws.proofs.LawfulAfter.{lawful_after}
use Rattle.log_laws.proofs.LimitedRuns.{workload_stays}

-- the step is a turn of a local round of datacentre d
abbrev pub IsTurnAt : Workload → ℕ → Step → Type 0
IsTurnAt load d (Client s) = IsAt load s d
IsTurnAt load d (Flush e b) = e ≡ d
IsTurnAt load d (Pass e f q) = e ≡ d
IsTurnAt load d (Stamp e q) = e ≡ d
IsTurnAt load d (Token e) = e ≡ d
IsTurnAt load d (Place e q m) = e ≡ d
IsTurnAt load d (Gossip e m k) = e ≡ d
IsTurnAt load d (Post e m i) = e ≡ d
IsTurnAt load d (Learn e) = e ≡ d
IsTurnAt load d step = ⊥

-- the datacentre after a turn, and after turns
abbrev pub turned : ℕ → Datacentre → Step → Datacentre
turned d z t = (turn_of d z t).after

abbrev pub walked : ℕ → Datacentre → List Step → Datacentre
walked d z [] = z
walked d z (t ∷ ts) = walked d (turned d z t) ts

pub walked-append : (d : ℕ) (ts us : List Step) (z : Datacentre) → walked d z (ts ++ us) ≡ walked d (walked d z ts) us
walked-append d [] us z = refl
walked-append d (t ∷ ts) us z = walked-append d ts us (turned d z t)

-- such a step is one that a script may have, and changes d alone
pub turn_good : (load : Workload) (d : ℕ) (t : Step) → d < load.dcs → IsTurnAt load d t → IsStep load t
turn_good load d (Client s) within at = at.there
turn_good load d (Flush e b) within at = subst (λ k. k < load.dcs) (sym at) within
turn_good load d (Pass e f q) within at = subst (λ k. k < load.dcs) (sym at) within
turn_good load d (Stamp e q) within at = subst (λ k. k < load.dcs) (sym at) within
turn_good load d (Token e) within at = subst (λ k. k < load.dcs) (sym at) within
turn_good load d (Place e q m) within at = subst (λ k. k < load.dcs) (sym at) within
turn_good load d (Gossip e m k) within at = subst (λ j. j < load.dcs) (sym at) within
turn_good load d (Post e m i) within at = subst (λ k. k < load.dcs) (sym at) within
turn_good load d (Learn e) within at = subst (λ k. k < load.dcs) (sym at) within
turn_good load d step within at = absurd at

pub turn_moves : (load : Workload) (z : Stages) (d : ℕ) (t : Step) → IsTurnAt load d t → (step_of load z t).after ≡ with_turn z d (turned d (datacentre_at z d) t)
turn_moves load z d (Client s) at = ap (λ k. with_turn z k (turned k (datacentre_at z k) (Client s))) at.home
turn_moves load z d (Flush e b) at = ap (λ k. with_turn z k (turned k (datacentre_at z k) (Flush e b))) at
turn_moves load z d (Pass e f q) at = ap (λ k. with_turn z k (turned k (datacentre_at z k) (Pass e f q))) at
turn_moves load z d (Stamp e q) at = ap (λ k. with_turn z k (turned k (datacentre_at z k) (Stamp e q))) at
turn_moves load z d (Token e) at = ap (λ k. with_turn z k (turned k (datacentre_at z k) (Token e))) at
turn_moves load z d (Place e q m) at = ap (λ k. with_turn z k (turned k (datacentre_at z k) (Place e q m))) at
turn_moves load z d (Gossip e m k) at = ap (λ j. with_turn z j (turned j (datacentre_at z j) (Gossip e m k))) at
turn_moves load z d (Post e m i) at = ap (λ k. with_turn z k (turned k (datacentre_at z k) (Post e m i))) at
turn_moves load z d (Learn e) at = ap (λ k. with_turn z k (turned k (datacentre_at z k) (Learn e))) at
turn_moves load z d step at = absurd at

-- The datacentre is one of stages that stand for a lawful world.
pub record IsLive (load : Workload) (d : ℕ) (z : Datacentre) : Type 0 where
  pub within : d < load.dcs
  pub stages : Stages
  pub standing : IsStanding load stages
  pub at : datacentre_at stages d ≡ z

abbrev pub world_at : (load : Workload) (d : ℕ) (z : Datacentre) → IsLive load d z → World
world_at load d z l = l.standing.world

pub in_stages : (load : Workload) (d : ℕ) (z : Stages) → d < load.dcs → IsStanding load z → d < length z.datacentres
in_stages load d z within h = omega (arith, h.stands.size, ap (λ (l : Workload). l.dcs) h.workload)

pub stands_at : (load : Workload) (d : ℕ) (z : Datacentre) (l : IsLive load d z) → StandsAt (world_at load d z l) d z
stands_at load d z l = subst (StandsAt l.standing.world d) l.at (l.standing.stands.each d (omega (arith, l.within, ap (λ (x : Workload). x.dcs) l.standing.workload)))

-- after a step the stages stand for a lawful world
pub step_stands : (load : Workload) (z : Stages) (t : Step) → IsStep load t → IsStanding load z → IsStanding load (step_of load z t).after
step_stands load z t good h =
    let w : World = h.world in
    let kept : IsKept w (step_of load z t) = subst (λ l. IsKept w (step_of l z t)) h.workload (step_kept w z t h.lawful h.stands (subst (λ l. IsStep l t) (sym h.workload) good)) in
    record {
      world = after_all w (step_of load z t).events;
      workload = workload_stays w (step_of load z t).events ∙ h.workload;
      lawful = lawful_after w (step_of load z t).events h.lawful kept.can;
      stands = kept.stands;
    }

pub steps_stand : (load : Workload) (ts : List Step) (z : Stages) → All (IsStep load) ts → IsStanding load z → IsStanding load (after_steps load z ts)
steps_stand load [] z good h = h
steps_stand load (t ∷ ts) z good h = steps_stand load ts (step_of load z t).after (All-tail (IsStep load) t ts good) (step_stands load z t (All-head (IsStep load) t ts good) h)

turned_at : (load : Workload) (z : Stages) (d : ℕ) (t : Step) → d < length z.datacentres → IsTurnAt load d t → datacentre_at (step_of load z t).after d ≡ turned d (datacentre_at z d) t
turned_at load z d t inside at = ap (λ s. datacentre_at s d) (turn_moves load z d t at) ∙ get_or-set_same z.datacentres d (turned d (datacentre_at z d) t) nowhere_at inside

pub live_turn : (load : Workload) (d : ℕ) (z : Datacentre) (t : Step) → IsTurnAt load d t → IsLive load d z → IsLive load d (turned d z t)
live_turn load d z t at l = record {
  within = l.within;
  stages = (step_of load l.stages t).after;
  standing = step_stands load l.stages t (turn_good load d t l.within at) l.standing;
  at = turned_at load l.stages d t (in_stages load d l.stages l.within l.standing) at ∙ ap (λ y. turned d y t) l.at;
}

-- What turns of one datacentre do to all stages.
pub record IsWalk (load : Workload) (d : ℕ) (z : Stages) (ts : List Step) : Type 0 where
  pub datacentres : length (after_steps load z ts).datacentres ≡ length z.datacentres
  pub at : datacentre_at (after_steps load z ts) d ≡ walked d (datacentre_at z d) ts
  pub others : (e : ℕ) → e ≢ d → datacentre_at (after_steps load z ts) e ≡ datacentre_at z e
  pub links : (after_steps load z ts).links ≡ z.links

pub walk : (load : Workload) (d : ℕ) (ts : List Step) (z : Stages) → d < length z.datacentres → All (IsTurnAt load d) ts → IsWalk load d z ts
walk load d [] z inside all = record { datacentres = refl; at = refl; others = λ e other. refl; links = refl }
walk load d (t ∷ ts) z inside all =
    let at : IsTurnAt load d t = All-head (IsTurnAt load d) t ts all in
    let y : Datacentre = turned d (datacentre_at z d) t in
    let next : Stages = (step_of load z t).after in
    let moved : next ≡ with_turn z d y = turn_moves load z d t at in
    let size : length next.datacentres ≡ length z.datacentres = ap (λ (s : Stages). length s.datacentres) moved ∙ length-set z.datacentres d y in
    let rest : IsWalk load d next ts = walk load d ts next (omega arith) (All-tail (IsTurnAt load d) t ts all) in
    record {
      datacentres = rest.datacentres ∙ size;
      at = rest.at ∙ ap (λ x. walked d x ts) (turned_at load z d t inside at);
      others = λ e other. rest.others e other ∙ ap (λ s. datacentre_at s e) moved ∙ get_or-set_other z.datacentres d e y nowhere_at other;
      links = rest.links ∙ ap (λ (s : Stages). s.links) moved;
    }
