-- Every maintainer with every vector: each head is the length of the log.
use Rattle.std.proofs.Common.{◌≡◌, ℕ, ◌<◌, max, ltb, ◌&&◌, List, [], ◌∷◌, length, set, refl, ap, sym, subst, ◌∙◌, arith}
use Rattle.std.specs.List.{All}
use Rattle.std.proofs.lemmas.List.{get_or-set_same, length-set}
use Rattle.std.proofs.lemmas.List.Elements.{All-get_or, All-from_get_or, All-set, All-weaker}
use Rattle.causal_deps.specs.declared.record.Record.{Record}
use Rattle.abstract_log.specs.declared.command.Workload.{Workload}
use Rattle.abstract_log.specs.declared.script.Step.TheVariants.{Gossip}
use Rattle.flstore_rounds.specs.Epochs.{EpochList, IsPrefix, longer}
use Rattle.flstore_rounds.specs.Heads.{Pair, blank, head, joined, mark_at, with_own, IsTruePair}
use Rattle.flstore_rounds.proofs.EpochLemmas.{prefix_refl}
use Rattle.flstore_rounds.proofs.HeadLemmas.{mark_at-joined, own_raises}
use Rattle.head_gossip.specs.Marks.{AreMarks}
use Rattle.maintainer.specs.Maintainers.{MaintainerState, mark_of}
use Rattle.tag_indexer.specs.Indexers.{IndexerState}
use Rattle.stage_world.specs.Stages.{Datacentre, maintainer_at, no_maintainer, vector_at, no_epochs, IsFilledIn}
use Rattle.stage_world.specs.StandsFor.{StandsAt}
use Rattle.stage_world.specs.Turns.{gossip_turn, gossiped}
use Rattle.stage_world.specs.Opening.{numbered}
use Rattle.stage_world.specs.Settling.{gossips}
use Rattle.settling_laws.specs.Rounds.{IsDrained, IsAllPlaced}
use Rattle.settling_laws.proofs.Live.{turned, walked, stands_at}
use Rattle.settling_laws.proofs.Walks.{Makes, Some_below, makes_numbered, makes_flat, makes_turn}
use Rattle.settling_laws.proofs.Placing.{longer_whole}
use Rattle.settling_laws.proofs.Marks.{Knows, head_whole}
use Rattle.settling_laws.proofs.Rounding.{IsInRound, round_goes, maintainers_stay, there_is, both_there, at_changed}

-- In a round, with all drained and placed.
pub record IsPlacedRound (load : Workload) (d : ℕ) (z y : Datacentre) : Type 0 where
  pub round : IsInRound load d z y
  pub drained : IsDrained y
  pub placed : IsAllPlaced y

-- these do not speak of vectors, indexers and the table
pub drained_beside : (y : Datacentre) (vs : List Pair) (is : List IndexerState) (table : List (List ℕ)) (learnt : ℕ) → IsDrained y → IsDrained (record y { vectors = vs; indexers = is; table = table; learnt = learnt })
drained_beside y vs is table learnt h = record { batchers = h.batchers; filters = h.filters; queues = h.queues; deferred = h.deferred }

pub placed_beside : (y : Datacentre) (vs : List Pair) (is : List IndexerState) (table : List (List ℕ)) (learnt : ℕ) → IsAllPlaced y → IsAllPlaced (record y { vectors = vs; indexers = is; table = table; learnt = learnt })
placed_beside y vs is table learnt h = record { queues = h.queues; outboxes = h.outboxes; maintainers = h.maintainers; filled = h.filled }

-- a pair that knows a mark knows it yet when it takes another
pub knows_own : (t : EpochList) (ms : List (MaintainerState Record)) (j : ℕ) (v : Pair) (e : EpochList) (m k : ℕ) → e ≡ t → Knows t ms j v → Knows t ms j (with_own v e m k)
knows_own t ms j v e m k same h = record {
  epochs = ap (λ f. longer f e) h.epochs ∙ ap (longer t) same ∙ longer_whole t t (prefix_refl t);
  mark = omega (arith, h.mark, own_raises e v m k j);
}

knows_joined : (t : EpochList) (ms : List (MaintainerState Record)) (j : ℕ) (v u : Pair) → u.epochs ≡ t → Knows t ms j v → Knows t ms j (joined v u)
knows_joined t ms j v u same h = record {
  epochs = ap (λ f. longer f u.epochs) h.epochs ∙ ap (longer t) same ∙ longer_whole t t (prefix_refl t);
  mark = omega (arith, h.mark, mark_at-joined v u j);
}

-- and it knows the one that it takes
pub knows_taken : (t : EpochList) (ms : List (MaintainerState Record)) (m : ℕ) (v : Pair) (e : EpochList) → e ≡ t → IsPrefix v.epochs t → m < length v.marks → Knows t ms m (with_own v e m (mark_of (maintainer_at ms m)))
knows_taken t ms m v e same known inside = record {
  epochs = ap (longer v.epochs) same ∙ longer_whole t v.epochs known;
  mark = omega (arith, get_or-set_same v.marks m (max (mark_at v m) (mark_of (maintainer_at ms m))) 0 inside);
}

knows_heard : (t : EpochList) (ms : List (MaintainerState Record)) (m : ℕ) (v u : Pair) → IsPrefix v.epochs t → Knows t ms m u → Knows t ms m (joined v u)
knows_heard t ms m v u known h = record {
  epochs = ap (longer v.epochs) h.epochs ∙ longer_whole t v.epochs known;
  mark = omega (arith, h.mark, mark_at-joined v u m);
}

module _ (load : Workload) (d : ℕ) (z : Datacentre) where
  gossip_is : (y : Datacentre) (m k : ℕ) → IsInRound load d z y → m < length z.maintainers → k < length z.maintainers → turned d y (Gossip d m k) ≡ gossiped y m k
  gossip_is y m k h in_m in_k = there_is (ltb m (length y.maintainers) && ltb k (length y.maintainers)) y (gossip_turn y m k)
      (both_there m (length y.maintainers) k (length y.maintainers) (omega (arith, maintainers_stay load d z y h)) (omega (arith, maintainers_stay load d z y h)))

  -- vector k knows maintainer m
  abbrev Heard : ℕ × ℕ → Datacentre → Type 0
  Heard pair y = Knows y.token.epochs y.maintainers pair.0 (vector_at y.vectors pair.1)

  module _ (m k : ℕ) (in_m : m < length z.maintainers) (in_k : k < length z.maintainers) (y : Datacentre) (h : IsPlacedRound load d z y) where
    abbrev t : EpochList
    t = y.token.epochs

    abbrev own : Pair
    own = with_own (vector_at y.vectors m) (maintainer_at y.maintainers m).epochs m (mark_of (maintainer_at y.maintainers m))

    abbrev told : List Pair
    told = set y.vectors m own

    abbrev heard : Pair
    heard = joined (vector_at told k) own

    is : turned d y (Gossip d m k) ≡ gossiped y m k
    is = gossip_is y m k h.round in_m in_k

    stands : StandsAt h.round.live.standing.world d y
    stands = stands_at load d y h.round.live

    inside_m : m < length y.vectors
    inside_m = omega (arith, in_m, maintainers_stay load d z y h.round, stands.membership.members.vectors)

    inside_k : k < length told
    inside_k = omega (arith, in_k, maintainers_stay load d z y h.round, stands.membership.members.vectors, length-set y.vectors m own)

    whole : (maintainer_at y.maintainers m).epochs ≡ t
    whole = All-get_or (λ (x : MaintainerState Record). x.epochs ≡ t) y.maintainers m no_maintainer (omega (arith, in_m, maintainers_stay load d z y h.round)) h.placed.maintainers

    known : All (λ v. IsPrefix v.epochs t) y.vectors
    known = All-weaker (IsTruePair t (IsFilledIn y.maintainers)) (λ (v : Pair). IsPrefix v.epochs t) (λ v is_true. is_true.known) y.vectors stands.coverage.heads

    knows_m : Knows t y.maintainers m own
    knows_m = knows_taken t y.maintainers m (vector_at y.vectors m) (maintainer_at y.maintainers m).epochs whole (All-get_or (λ (v : Pair). IsPrefix v.epochs t) y.vectors m (blank no_epochs) inside_m known)
        (omega (arith, (All-get_or (λ (v : Pair). AreMarks v.marks) y.vectors m (blank no_epochs) inside_m stands.coverage.marked).size, in_m, maintainers_stay load d z y h.round, stands.membership.members.ranges.maintainers.1))

    own_prefix : IsPrefix own.epochs t
    own_prefix = subst (λ e. IsPrefix e t) (sym knows_m.epochs) (prefix_refl t)

    told_known : IsPrefix (vector_at told k).epochs t
    told_known = All-get_or (λ (v : Pair). IsPrefix v.epochs t) told k (blank no_epochs) inside_k (All-set (λ (v : Pair). IsPrefix v.epochs t) y.vectors m own own_prefix known)

    gossip_stays : IsPlacedRound load d z (turned d y (Gossip d m k))
    gossip_stays = record {
      round = round_goes load d z y (Gossip d m k) refl h.round;
      drained = subst IsDrained (sym is) (drained_beside y (set told k heard) y.indexers y.table y.learnt h.drained);
      placed = subst IsAllPlaced (sym is) (placed_beside y (set told k heard) y.indexers y.table y.learnt h.placed);
    }

    gossip_keeps : (pair : ℕ × ℕ) → Heard pair y → Heard pair (turned d y (Gossip d m k))
    gossip_keeps pair e = subst (Heard pair) (sym is)
        (at_changed (Knows t y.maintainers pair.0) told k pair.1 heard (blank no_epochs) (λ old. knows_joined t y.maintainers pair.0 (vector_at told k) own knows_m.epochs old)
        (at_changed (Knows t y.maintainers pair.0) y.vectors m pair.1 own (blank no_epochs) (λ old. knows_own t y.maintainers pair.0 (vector_at y.vectors m) (maintainer_at y.maintainers m).epochs m (mark_of (maintainer_at y.maintainers m)) whole old) e))

    gossip_makes : (pair : ℕ × ℕ) → pair.0 ≡ m → pair.1 ≡ k → Heard pair (turned d y (Gossip d m k))
    gossip_makes pair at_m at_k = subst (Heard pair) (sym is)
        (subst (λ j. Knows t y.maintainers pair.0 (vector_at (set told k heard) j)) (sym at_k)
        (subst (λ j. Knows t y.maintainers j (vector_at (set told k heard) k)) (sym at_m)
        (subst (Knows t y.maintainers m) (sym (get_or-set_same told k heard (blank no_epochs) inside_k)) (knows_heard t y.maintainers m (vector_at told k) own told_known knows_m))))

  abbrev Of : ℕ → ℕ → ℕ × ℕ → Type 0
  Of m k pair = (pair.0 ≡ m) × (pair.1 ≡ k)

  gossip_one : (m k : ℕ) → m < length z.maintainers → k < length z.maintainers → Makes d (IsPlacedRound load d z) Heard (Of m k) (Gossip d m k ∷ [])
  gossip_one m k in_m in_k = makes_turn d (IsPlacedRound load d z) Heard (Of m k) (Gossip d m k) (λ y h. gossip_stays m k in_m in_k y h) (λ y pair h e. gossip_keeps m k in_m in_k y h pair e)
      (λ y pair h at. gossip_makes m k in_m in_k y h pair at.0 at.1)

  abbrev Each : ℕ → ℕ × ℕ → Type 0
  Each m = Some_below d (IsPlacedRound load d z) Heard (λ k. Of m k) (length z.maintainers)

  gossip_all : Makes d (IsPlacedRound load d z) Heard (Some_below d (IsPlacedRound load d z) Heard Each (length z.maintainers)) (gossips d z)
  gossip_all = makes_flat d (IsPlacedRound load d z) Heard Each (λ m. numbered (Gossip d m) (length z.maintainers)) (length z.maintainers)
      (λ m in_m. makes_numbered d (IsPlacedRound load d z) Heard (λ k. Of m k) (Gossip d m) (length z.maintainers) (λ k in_k. gossip_one m k in_m in_k))

  -- Every vector's head is the length of the log.
  pub gossips_tell : (y : Datacentre) → IsPlacedRound load d z y → IsPlacedRound load d z (walked d y (gossips d z)) × All (λ v. head v ≡ (walked d y (gossips d z)).token.last) (walked d y (gossips d z)).vectors
  gossips_tell y h =
      let x : Datacentre = walked d y (gossips d z) in
      let after : IsPlacedRound load d z x = gossip_all.stays y h in
      let stands_x : StandsAt after.round.live.standing.world d x = stands_at load d x after.round.live in (
        after,
        All-from_get_or (λ (v : Pair). head v ≡ x.token.last) x.vectors (blank no_epochs)
            (λ k in_k. head_whole after.round.live.standing.world d x stands_x after.placed (vector_at x.vectors k)
            (All-get_or (IsTruePair x.token.epochs (IsFilledIn x.maintainers)) x.vectors k (blank no_epochs) in_k stands_x.coverage.heads)
            (λ m in_m. gossip_all.makes y (m, k) h
            (m, omega (arith, in_m, maintainers_stay load d z x after.round), (k, omega (arith, in_k, stands_x.membership.members.vectors, maintainers_stay load d z x after.round), (refl, refl))))),
      )
