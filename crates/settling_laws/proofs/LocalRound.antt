-- A local round, from its first turn to its last.
use Rattle.std.proofs.Common.{◌≡◌, ℕ, ◌+◌, ◌%◌, ◌<◌, [], ◌∷◌, ◌++◌, length, refl, ap, ap₂, sym, subst, ◌∙◌}
use Rattle.std.specs.List.{All, flat_map}
use Rattle.std.proofs.lemmas.List.Elements.{All-nil, All-cons, All-append, All-weaker}
use Rattle.abstract_log.specs.declared.command.Workload.{Workload}
use Rattle.abstract_log.specs.declared.script.Step.{Step}
use Rattle.abstract_log.specs.declared.script.Step.TheVariants.{Flush, Pass, Stamp, Token, Place, Gossip, Post, Learn}
use Rattle.abstract_log.specs.declared.script.Sizes.{Sizes}
use Rattle.stage_world.specs.Stages.{Datacentre, Stages, sizes_of}
use Rattle.stage_world.specs.Opening.{numbered}
use Rattle.stage_world.specs.Whole.{datacentre_at}
use Rattle.abstract_log.specs.Turns.{IsStep}
use Rattle.stage_world.specs.Settling.{below, clients, flushes, pass_lines, ring, places, gossips, posts, local_round}
use Rattle.settling_laws.specs.Rounds.{HasSameMembers, IsRounded, IsStanding, IsSettledByRound}
use Rattle.settling_laws.proofs.Live.{IsTurnAt, IsLive, IsWalk, turned, walked, walked-append, walk, turn_good, in_stages}
use Rattle.stage_world.proofs.OpeningLemmas.{All-numbered}
use Rattle.settling_laws.proofs.Walks.{All-pieces}
use Rattle.settling_laws.proofs.Rounding.{IsInRound, round_begins}
use Rattle.settling_laws.proofs.Gathering.{IsClientOf, client_at, all_clients, IsWithToken, clients_keep_token, flushes_empty, passes_empty}
use Rattle.settling_laws.proofs.Ring.{ring_drains}
use Rattle.settling_laws.proofs.Drafts.{no_open_writes}
use Rattle.settling_laws.proofs.Placing.{places_fill}
use Rattle.settling_laws.proofs.Gossiping.{gossips_tell}
use Rattle.settling_laws.proofs.Posting.{posts_cover, learn_tells}

-- all turns of a local round are such turns
pub all_turns : (load : Workload) (d : ℕ) (z : Datacentre) → IsLive load d z → All (IsTurnAt load d) (local_round d z)
all_turns load d z l =
    let P : Step → Type 0 = IsTurnAt load d in
    All-append P (clients z ++ flushes d z ++ pass_lines d z ++ ring d z ++ places d z ++ gossips d z ++ posts d z) (Learn d ∷ [])
    (All-append P (clients z ++ flushes d z ++ pass_lines d z ++ ring d z ++ places d z ++ gossips d z) (posts d z)
    (All-append P (clients z ++ flushes d z ++ pass_lines d z ++ ring d z ++ places d z) (gossips d z)
    (All-append P (clients z ++ flushes d z ++ pass_lines d z ++ ring d z) (places d z)
    (All-append P (clients z ++ flushes d z ++ pass_lines d z) (ring d z)
    (All-append P (clients z ++ flushes d z) (pass_lines d z)
    (All-append P (clients z) (flushes d z)
    (All-weaker (IsClientOf load d) P (λ t is. client_at load d t is) (clients z) (all_clients load d z l))
    (All-numbered P (Flush d) (length z.batchers) (λ i. refl)))
    (All-numbered P (λ f. Pass d f (f % length z.queues)) (length z.filters) (λ i. refl)))
    (All-pieces P (λ i. Stamp d ((z.token.at + i) % length z.queues) ∷ Token d ∷ []) (below (length z.queues)) (λ i. All-cons P (Stamp d ((z.token.at + i) % length z.queues)) (Token d ∷ []) refl (All-cons P (Token d) [] refl (All-nil P)))))
    (All-pieces P (λ q. numbered (Place d q) (length z.maintainers)) (below (length z.queues)) (λ q. All-numbered P (Place d q) (length z.maintainers) (λ i. refl))))
    (All-pieces P (λ m. numbered (Gossip d m) (length z.maintainers)) (below (length z.maintainers)) (λ m. All-numbered P (Gossip d m) (length z.maintainers) (λ i. refl))))
    (All-pieces P (λ m. numbered (Post d m) (length z.indexers)) (below (length z.maintainers)) (λ m. All-numbered P (Post d m) (length z.indexers) (λ i. refl))))
    (All-cons P (Learn d) [] refl (All-nil P))

-- the datacentre after the turns behind those of the clients
abbrev pub after_rest : ℕ → Datacentre → Datacentre → Datacentre
after_rest d z y = turned d (walked d (walked d (walked d (walked d (walked d (walked d y (flushes d z)) (pass_lines d z)) (ring d z)) (places d z)) (gossips d z)) (posts d z)) (Learn d)

-- the same by sizes and the token's place alone
abbrev rest_by : ℕ → Sizes → ℕ → Datacentre → Datacentre
rest_by d s at v =
    let flushed : Datacentre = walked d v (numbered (Flush d) s.batchers) in
    let passed : Datacentre = walked d flushed (numbered (λ f. Pass d f (f % s.queues)) s.filters) in
    let stamped : Datacentre = walked d passed (flat_map (λ i. Stamp d ((at + i) % s.queues) ∷ Token d ∷ []) (below s.queues)) in
    let placed : Datacentre = walked d stamped (flat_map (λ q. numbered (Place d q) s.maintainers) (below s.queues)) in
    let told : Datacentre = walked d placed (flat_map (λ m. numbered (Gossip d m) s.maintainers) (below s.maintainers)) in
    turned d (walked d told (flat_map (λ m. numbered (Post d m) s.indexers) (below s.maintainers))) (Learn d)

pub rest_same : (d : ℕ) (z y v : Datacentre) → sizes_of y ≡ sizes_of z → y.token.at ≡ z.token.at → after_rest d y v ≡ after_rest d z v
rest_same d z y v sizes at = ap₂ (λ s a. rest_by d s a v) sizes at

pub round_is : (d : ℕ) (z : Datacentre) → walked d z (local_round d z) ≡ after_rest d z (walked d z (clients z))
round_is d z =
    let flushed = walked-append d (clients z) (flushes d z) z in
    let passed = walked-append d (clients z ++ flushes d z) (pass_lines d z) z ∙ ap (λ v. walked d v (pass_lines d z)) flushed in
    let stamped = walked-append d (clients z ++ flushes d z ++ pass_lines d z) (ring d z) z ∙ ap (λ v. walked d v (ring d z)) passed in
    let placed = walked-append d (clients z ++ flushes d z ++ pass_lines d z ++ ring d z) (places d z) z ∙ ap (λ v. walked d v (places d z)) stamped in
    let told = walked-append d (clients z ++ flushes d z ++ pass_lines d z ++ ring d z ++ places d z) (gossips d z) z ∙ ap (λ v. walked d v (gossips d z)) placed in
    let covered = walked-append d (clients z ++ flushes d z ++ pass_lines d z ++ ring d z ++ places d z ++ gossips d z) (posts d z) z ∙ ap (λ v. walked d v (posts d z)) told in
    walked-append d (clients z ++ flushes d z ++ pass_lines d z ++ ring d z ++ places d z ++ gossips d z ++ posts d z) (Learn d ∷ []) z ∙ ap (λ v. turned d v (Learn d)) covered

-- What a local round of z leaves: it is a round from z, and the datacentre is rounded.
pub record IsRoundOf (load : Workload) (d : ℕ) (z y : Datacentre) : Type 0 where
  pub round : IsInRound load d z y
  pub rounded : IsRounded d y

-- the turns behind those of the clients, from a datacentre in the same round
pub rest_rounds : (load : Workload) (d : ℕ) (z y : Datacentre) → IsLive load d z → IsWithToken load d z y → IsRoundOf load d z (after_rest d z y)
rest_rounds load d z y l h =
    let a : Datacentre = walked d y (flushes d z) in
    let on_a = flushes_empty load d z y h in
    let b : Datacentre = walked d a (pass_lines d z) in
    let on_b = passes_empty load d z l a on_a.0 on_a.1 in
    let c : Datacentre = walked d b (ring d z) in
    let on_c = ring_drains load d z l b on_b.0 on_b.1 on_b.2 in
    let e : Datacentre = walked d c (places d z) in
    let on_e = places_fill load d z c (record { round = on_c.0; drained = on_c.1; epochs = on_c.2 }) in
    let f : Datacentre = walked d e (gossips d z) in
    let on_f = gossips_tell load d z e (record { round = on_e.0.round; drained = on_e.0.drained; placed = on_e.1 }) in
    let g : Datacentre = walked d f (posts d z) in
    let on_g = posts_cover load d z f (record { round = on_f.0; heads = on_f.1 }) in
    let k : Datacentre = turned d g (Learn d) in
    let on_k = learn_tells load d z g on_g.0 on_g.1 in
    record {
      round = on_k.0.round;
      rounded = record { drained = on_k.0.drained; writes = no_open_writes load d k on_k.0.round.live on_k.0.drained; placed = on_k.0.placed; told = on_k.1 };
    }

-- A local round.
pub round_rounds : (load : Workload) (d : ℕ) (z : Datacentre) → IsLive load d z → IsRoundOf load d z (walked d z (local_round d z))
round_rounds load d z l =
    subst (IsRoundOf load d z) (sym (round_is d z))
    (rest_rounds load d z (walked d z (clients z)) l (clients_keep_token load d z z l (record { round = round_begins load d z l; token = refl })))

pub live_at : (load : Workload) (d : ℕ) (z : Stages) → d < load.dcs → IsStanding load z → IsLive load d (datacentre_at z d)
live_at load d z within h = record { within = within; stages = z; standing = h; at = refl }

pub settled_by_round : (load : Workload) (d : ℕ) (z : Stages) → d < load.dcs → IsStanding load z → IsSettledByRound load d z
settled_by_round load d z within h =
    let y : Datacentre = datacentre_at z d in
    let l : IsLive load d y = live_at load d z within h in
    let all : All (IsTurnAt load d) (local_round d y) = all_turns load d y l in
    let moved : IsWalk load d z (local_round d y) = walk load d (local_round d y) z (in_stages load d z within h) all in
    let done : IsRoundOf load d y (walked d y (local_round d y)) = round_rounds load d y l in
    record {
      steps = All-weaker (IsTurnAt load d) (IsStep load) (λ t at. turn_good load d t within at) (local_round d y) all;
      changed = record {
        datacentres = moved.datacentres;
        others = moved.others;
        links = moved.links;
        members = subst (λ v. HasSameMembers y v) (sym moved.at) done.round.goes.members;
      };
      rounded = subst (IsRounded d) (sym moved.at) done.rounded;
    }
