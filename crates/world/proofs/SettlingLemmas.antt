-- The turns of settling may be taken.
use Rattle.std.proofs.Common.{◌≡◌, ℕ, ◌+◌, ◌<◌, ◌%◌, eqb, List, [], ◌∷◌, ◌++◌, length, sym, subst}
use Rattle.std.specs.List.{All, flat_map}
use Rattle.std.proofs.lemmas.Bool.{cond_both, eqb-false}
use Rattle.std.proofs.lemmas.List.Elements.{All-nil, All-cons, All-append, All-map, All-weaker}
use Rattle.abstract_log.specs.declared.command.Workload.{Workload}
use Rattle.abstract_log.specs.declared.script.Script.{Script}
use Rattle.abstract_log.specs.declared.script.Step.{Step}
use Rattle.abstract_log.specs.declared.script.Step.TheVariants.{Client, Flush, Gossip, Learn, Mark, Pass, Place, Post, Stamp, Token}
use Rattle.abstract_log.specs.declared.world.World.{World}
use Rattle.log_laws.proofs.LimitedRuns.{workload_is}
use Rattle.abstract_log.specs.Worlds.{log_of}
use Rattle.abstract_log.specs.Runs.{world_of}
use Rattle.stage_world.specs.Opening.{numbered}
use Rattle.abstract_log.specs.Turns.{AreTwo, IsStep}
use Rattle.stage_world.specs.Settling.{Errand, below, clients, errands, flushes, gossips, local_round, mark_turns, marks, pass_lines, places, posts, ring, rounds}
use Rattle.stage_world.specs.Stages.{Datacentre, Session, Stages}
use Rattle.stage_world.specs.StandsFor.{IsAsFar, StandsAt}
use Rattle.stage_world.specs.Whole.{StandsFor, datacentre_at}
use Rattle.world.specs.Settled.{errands_between, errands_from}
use Rattle.world.specs.Taking.{HasTaken, StagesState, TakenTurn, stages_after}
use Rattle.world.proofs.RoundLemmas.{all_below, all_flat, all_numbered}
use Rattle.world.proofs.TakingLemmas.{run_of}

module _ (load : Workload) (d : ℕ) (z : Datacentre) (within : d < load.dcs) where
  clients_good : All (λ (x : Session). x.number < length load.sessions) z.sessions → All (IsStep load) (clients z)
  clients_good there = All-map (IsStep load) (λ (x : Session). Client x.number) z.sessions (All-weaker (λ (x : Session). x.number < length load.sessions) (λ x. IsStep load (Client x.number)) (λ x less. less) z.sessions there)

  ring_good : All (IsStep load) (ring d z)
  ring_good =
      all_flat (IsStep load) (λ i. i < length z.queues) (λ i. Stamp d ((z.token.at + i) % length z.queues) ∷ Token d ∷ []) (below (length z.queues))
      (λ i any. All-cons (IsStep load) (Stamp d ((z.token.at + i) % length z.queues)) (Token d ∷ []) within (All-cons (IsStep load) (Token d) [] within (All-nil (IsStep load)))) (all_below (length z.queues))

  places_good : All (IsStep load) (places d z)
  places_good =
      all_flat (IsStep load) (λ i. i < length z.queues) (λ q. numbered (Place d q) (length z.maintainers)) (below (length z.queues))
      (λ q any. all_numbered (IsStep load) (Place d q) (length z.maintainers) (λ m less. within)) (all_below (length z.queues))

  gossips_good : All (IsStep load) (gossips d z)
  gossips_good =
      all_flat (IsStep load) (λ i. i < length z.maintainers) (λ m. numbered (Gossip d m) (length z.maintainers)) (below (length z.maintainers))
      (λ m any. all_numbered (IsStep load) (Gossip d m) (length z.maintainers) (λ k less. within)) (all_below (length z.maintainers))

  posts_good : All (IsStep load) (posts d z)
  posts_good =
      all_flat (IsStep load) (λ i. i < length z.maintainers) (λ m. numbered (Post d m) (length z.indexers)) (below (length z.maintainers))
      (λ m any. all_numbered (IsStep load) (Post d m) (length z.indexers) (λ i less. within)) (all_below (length z.maintainers))

  round_good : All (λ (x : Session). x.number < length load.sessions) z.sessions → All (IsStep load) (local_round d z)
  round_good there =
      let G : Step → Type 0 = IsStep load in
      let flush : All G (flushes d z) = all_numbered G (Flush d) (length z.batchers) (λ b less. within) in
      let pass : All G (pass_lines d z) = all_numbered G (λ f. Pass d f (f % length z.queues)) (length z.filters) (λ f less. within) in
      let one = All-append G (clients z) (flushes d z) (clients_good there) flush in
      let two = All-append G (clients z ++ flushes d z) (pass_lines d z) one pass in
      let three = All-append G (clients z ++ flushes d z ++ pass_lines d z) (ring d z) two ring_good in
      let four = All-append G (clients z ++ flushes d z ++ pass_lines d z ++ ring d z) (places d z) three places_good in
      let five = All-append G (clients z ++ flushes d z ++ pass_lines d z ++ ring d z ++ places d z) (gossips d z) four gossips_good in
      let six = All-append G (clients z ++ flushes d z ++ pass_lines d z ++ ring d z ++ places d z ++ gossips d z) (posts d z) five posts_good in
      All-append G (clients z ++ flushes d z ++ pass_lines d z ++ ring d z ++ places d z ++ gossips d z ++ posts d z) (Learn d ∷ []) six (All-cons G (Learn d) [] within (All-nil G))

-- the sessions of a datacentre are there
sessions_there : (w : World) (d : ℕ) (z : Datacentre) → StandsAt w d z → All (λ (x : Session). x.number < length w.workload.sessions) z.sessions
sessions_there w d z stands = All-weaker (IsAsFar w.workload w.sessions (log_of w d) d z.floor) (λ (x : Session). x.number < length w.workload.sessions) (λ x far. far.home.there) z.sessions stands.clients.sessions

pub rounds_may : (script : Script) (ts : List TakenTurn) (s : StagesState) (ds : List ℕ) → HasTaken script ts s → All (λ d. d < s.workload.dcs) ds → All (IsStep s.workload) (rounds (stages_after script ts) ds)
rounds_may script ts s ds h there =
    let w : World = world_of s.workload s.events in
    let z : Stages = stages_after script ts in
    let stands : StandsFor w z = (run_of script ts s h).1 in
    let load : w.workload ≡ s.workload = workload_is s.workload s.events in
    all_flat (IsStep s.workload) (λ d. d < s.workload.dcs) (λ d. local_round d (datacentre_at z d)) ds
    (λ d within. round_good s.workload d (datacentre_at z d) within
    (subst (λ (l : Workload). All (λ (x : Session). x.number < length l.sessions) (datacentre_at z d).sessions) load
    (sessions_there w d (datacentre_at z d) (stands.each d (subst (λ (l : Workload). d < l.dcs) (sym load) within)))))
    there

-- the marks of all datacentres are steps
pub marks_may : (load : Workload) (steps : List Step) → steps ≡ flat_map marks (below load.dcs) → All (IsStep load) steps
marks_may load steps is =
    subst (All (IsStep load)) (sym is)
    (all_flat (IsStep load) (λ d. d < load.dcs) marks (below load.dcs) (λ d within. all_numbered (IsStep load) (λ _. Mark d) mark_turns (λ i less. within)) (all_below load.dcs))

-- Errands are between two

between_two : (dcs d e senders : ℕ) → d < dcs → e < dcs → All (λ (x : Errand). AreTwo dcs x.from x.to) (errands_between d e senders)
between_two dcs d e senders in_d in_e =
    let P : Errand → Type 0 = λ x. AreTwo dcs x.from x.to in
    let one : ℕ → Errand = λ k. record { from = d; to = e; sender = k } in
    cond_both (eqb d e) [] (numbered one senders) (All P) (λ same. All-nil P)
    (λ apart. all_numbered P one senders (λ k less. record { first = in_d; second = in_e; apart = eqb-false d e apart }))

pub errands_two : (z : Stages) → All (λ (x : Errand). AreTwo (length z.datacentres) x.from x.to) (errands z)
errands_two z =
    let dcs : ℕ = length z.datacentres in
    all_flat (λ (x : Errand). AreTwo dcs x.from x.to) (λ d. d < dcs) (λ d. errands_from d dcs (datacentre_at z d).senders) (below dcs)
    (λ d in_d. all_flat (λ (x : Errand). AreTwo dcs x.from x.to) (λ e. e < dcs) (λ e. errands_between d e (datacentre_at z d).senders) (below dcs)
    (λ e in_e. between_two dcs d e (datacentre_at z d).senders in_d in_e) (all_below dcs))
    (all_below dcs)
