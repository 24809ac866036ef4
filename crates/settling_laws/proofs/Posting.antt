-- Every maintainer with every indexer, and the table: all cover the whole log.
use Rattle.std.proofs.Common.{◌≡◌, ℕ, zero, suc, ◌<◌, ◌≤◌, true, false, Bool, cond, leb, ltb, ◌&&◌, [], ◌∷◌, length, map, take, set, refl, ap, sym, subst, ◌∙◌, arith}
use Rattle.std.specs.List.{All, Contains, filter, list_any}
use Rattle.std.proofs.lemmas.List.{get_or-set_same, take_all}
use Rattle.std.proofs.lemmas.List.Elements.{All-get_or, All-from_get_or, All-contains}
use Rattle.std.proofs.lemmas.List.Sums.{get_or-le-sum_by}
use Rattle.std.proofs.lemmas.Bool.{and_parts, leb-true}
use Rattle.causal_deps.specs.declared.record.Record.{Record}
use Rattle.causal_deps.specs.Logs.{count_of}
use Rattle.abstract_log.specs.declared.command.Workload.{Workload}
use Rattle.abstract_log.specs.declared.script.Step.TheVariants.{Post, Learn}
use Rattle.abstract_log.specs.declared.world.World.{World}
use Rattle.abstract_log.specs.Worlds.{log_of}
use Rattle.flstore_rounds.specs.Epochs.{EpochList, longer, owner}
use Rattle.flstore_rounds.specs.Heads.{head, mark_at, with_own, IsTruePair}
use Rattle.flstore_rounds.proofs.EpochLemmas.{prefix_refl}
use Rattle.flstore_rounds.proofs.HeadLemmas.{head_below, below_mark}
use Rattle.maintainer.specs.declared.slot.Slot.{Slot}
use Rattle.maintainer.specs.Maintainers.{MaintainerState, mark_of, times, times_filled, OwnsAll, Owns}
use Rattle.maintainer.proofs.CountLemmas.{position_counts}
use Rattle.toid_filter.proofs.Tests.{any_gives}
use Rattle.tag_indexer.specs.Indexers.{IndexerState, posted as rows_posted}
use Rattle.stage_world.specs.Stages.{Datacentre, maintainer_at, no_maintainer, indexer_at, no_indexer, vector_at, filled, IsFilledIn}
use Rattle.stage_world.specs.StandsFor.{StandsAt, IsIndexedAt, gone_times}
use Rattle.stage_world.specs.MoreTurns.{post_turn, posted, posted_to, row_made}
use Rattle.stage_world.specs.Opening.{numbered}
use Rattle.stage_world.specs.Settling.{posts}
use Rattle.stage_world.proofs.StandsLemmas.{some_vector}
use Rattle.settling_laws.specs.Rounds.{IsDrained, IsAllPlaced, IsAllTold}
use Rattle.settling_laws.proofs.Live.{turned, walked, stands_at}
use Rattle.settling_laws.proofs.Walks.{Makes, Some_below, makes_numbered, makes_flat, makes_turn}
use Rattle.settling_laws.proofs.Marks.{Knows, head_whole}
use Rattle.settling_laws.proofs.Gossiping.{IsPlacedRound, drained_beside, placed_beside, knows_own, knows_taken}
use Rattle.settling_laws.proofs.Rounding.{IsInRound, round_goes, maintainers_stay, indexers_stay, there_is, both_there, at_changed}

-- In a round, with all drained and placed, and every head at the log's end.
pub record IsGossipedRound (load : Workload) (d : ℕ) (z y : Datacentre) : Type 0 where
  pub round : IsPlacedRound load d z y
  pub heads : All (λ v. head v ≡ y.token.last) y.vectors

module _ (load : Workload) (d : ℕ) (z : Datacentre) where
  post_is : (y : Datacentre) (m i : ℕ) → IsInRound load d z y → m < length z.maintainers → i < length z.indexers → turned d y (Post d m i) ≡ posted y m i
  post_is y m i h in_m in_i = there_is (ltb m (length y.maintainers) && ltb i (length y.indexers)) y (post_turn y m i)
      (both_there m (length y.maintainers) i (length y.indexers) (omega (arith, maintainers_stay load d z y h)) (omega (arith, indexers_stay load d z y h)))

  -- indexer i knows maintainer m
  abbrev Covers : ℕ × ℕ → Datacentre → Type 0
  Covers pair y = Knows y.token.epochs y.maintainers pair.0 (indexer_at y.indexers pair.1).pair

  module _ (m i : ℕ) (in_m : m < length z.maintainers) (in_i : i < length z.indexers) (y : Datacentre) (h : IsGossipedRound load d z y) where
    abbrev t : EpochList
    t = y.token.epochs

    abbrev w : World
    w = h.round.round.live.standing.world

    abbrev x : MaintainerState Record
    x = maintainer_at y.maintainers m

    abbrev old : IndexerState
    old = indexer_at y.indexers i

    abbrev new : IndexerState
    new = posted_to old x m

    is : turned d y (Post d m i) ≡ posted y m i
    is = post_is y m i h.round.round in_m in_i

    stands : StandsAt w d y
    stands = stands_at load d y h.round.round.live

    inside_m : m < length y.maintainers
    inside_m = omega (arith, in_m, maintainers_stay load d z y h.round.round)

    inside_i : i < length y.indexers
    inside_i = omega (arith, in_i, indexers_stay load d z y h.round.round)

    whole : x.epochs ≡ t
    whole = All-get_or (λ (n : MaintainerState Record). n.epochs ≡ t) y.maintainers m no_maintainer inside_m h.round.placed.maintainers

    indexed : IsTruePair t (IsFilledIn y.maintainers) old.pair × IsIndexedAt (log_of w d) (length y.indexers) old
    indexed = All-get_or (λ (n : IndexerState). IsTruePair t (IsFilledIn y.maintainers) n.pair × IsIndexedAt (log_of w d) (length y.indexers) n) y.indexers i no_indexer inside_i stands.coverage.indexers

    -- a gone position of m is below the indexer's mark of m
    gone_below : (p : ℕ) → Contains x.gone p → p < mark_at old.pair m
    gone_below p has =
        let counted : 1 ≤ times p x.gone = position_counts p x.gone has in
        let all : 1 ≤ gone_times p y.maintainers = omega (arith, get_or-le-sum_by (λ (n : MaintainerState Record). times p n.gone) y.maintainers m no_maintainer inside_m) in
        let low = stands.knowledge.aware.below p (omega (arith, all, stands.positions.placed.collected p)) in
        let covered : y.floor ≤ head old.pair = All-get_or (λ (n : IndexerState). y.floor ≤ head n.pair) y.indexers i no_indexer inside_i stands.knowledge.below.covered in
        let some : 1 ≤ filled p y.maintainers = omega (arith, counted, get_or-le-sum_by (times_filled p) y.maintainers m no_maintainer inside_m) in
        let first : 1 ≤ p = first_of p some in
        let j : ℕ = owner old.pair.epochs p in
        let below : p < mark_at old.pair j = head_below old.pair p first (omega (arith, low.1, covered)) in
        let by_all : owner t p ≡ j = below_mark t t (IsFilledIn y.maintainers) old.pair j p indexed.0 (prefix_refl t) indexed.0.known.shorter below in
        let owns : OwnsAll t x = All-get_or (OwnsAll t) y.maintainers m no_maintainer inside_m stands.membership.owned.maintainers in
        let its : Owns t x p = All-contains (Owns t x) x.gone p owns.gone has in
        let same : j ≡ m = sym by_all ∙ ap (λ e. owner e p) (sym whole) ∙ its.own ∙ stands.membership.owned.numbers m inside_m in
        subst (λ k. p < mark_at old.pair k) same below
      where
        first_of : (q : ℕ) → 1 ≤ filled q y.maintainers → 1 ≤ q
        first_of zero some = absurd (omega (arith, some, stands.positions.placed.once 0))
        first_of (suc q) some = omega arith

    abbrev test : ℕ → Bool
    test p = leb (mark_at old.pair m) p && ltb p (mark_of x)

    none_between : list_any test x.gone ≡ false
    none_between = at (list_any test x.gone) refl
      where
        at : (b : Bool) → list_any test x.gone ≡ b → list_any test x.gone ≡ false
        at false e = e
        at true e =
            let found = any_gives test x.gone e in
            let parts = and_parts (leb (mark_at old.pair m) found.0) (ltb found.0 (mark_of x)) found.2 in
            absurd (omega (arith, leb-true (mark_at old.pair m) found.0 parts.0, gone_below found.0 found.1))

    new_pair : new.pair ≡ with_own old.pair x.epochs m (mark_of x)
    new_pair = ap (λ b. (cond b (record old { pair = record old.pair { epochs = longer old.pair.epochs x.epochs } }) (rows_posted old x.epochs m (mark_of x) (map row_made (filter (λ (e : Slot Record). leb (mark_at old.pair m) e.lid && ltb e.lid (mark_of x)) x.entries)))).pair) none_between

    post_stays : IsGossipedRound load d z (turned d y (Post d m i))
    post_stays = record {
      round = record {
        round = round_goes load d z y (Post d m i) refl h.round.round;
        drained = subst IsDrained (sym is) (drained_beside y y.vectors (set y.indexers i new) y.table y.learnt h.round.drained);
        placed = subst IsAllPlaced (sym is) (placed_beside y y.vectors (set y.indexers i new) y.table y.learnt h.round.placed);
      };
      heads = subst (λ (v : Datacentre). All (λ u. head u ≡ v.token.last) v.vectors) (sym is) h.heads;
    }

    post_keeps : (pair : ℕ × ℕ) → Covers pair y → Covers pair (turned d y (Post d m i))
    post_keeps pair e = subst (Covers pair) (sym is) (at_changed (λ (n : IndexerState). Knows t y.maintainers pair.0 n.pair) y.indexers i pair.1 new no_indexer
        (λ was. subst (Knows t y.maintainers pair.0) (sym new_pair) (knows_own t y.maintainers pair.0 old.pair x.epochs m (mark_of x) whole was)) e)

    knows_m : Knows t y.maintainers m new.pair
    knows_m = subst (Knows t y.maintainers m) (sym new_pair) (knows_taken t y.maintainers m old.pair x.epochs whole indexed.0.known (omega (arith, indexed.1.has.size, in_m, maintainers_stay load d z y h.round.round, stands.membership.members.ranges.maintainers.1)))

    post_makes : (pair : ℕ × ℕ) → pair.0 ≡ m → pair.1 ≡ i → Covers pair (turned d y (Post d m i))
    post_makes pair at_m at_i = subst (Covers pair) (sym is)
        (subst (λ j. Knows t y.maintainers pair.0 (indexer_at (set y.indexers i new) j).pair) (sym at_i)
        (subst (λ j. Knows t y.maintainers j (indexer_at (set y.indexers i new) i).pair) (sym at_m)
        (subst (λ (n : IndexerState). Knows t y.maintainers m n.pair) (sym (get_or-set_same y.indexers i new no_indexer inside_i)) knows_m)))

  abbrev Of : ℕ → ℕ → ℕ × ℕ → Type 0
  Of m i pair = (pair.0 ≡ m) × (pair.1 ≡ i)

  post_one : (m i : ℕ) → m < length z.maintainers → i < length z.indexers → Makes d (IsGossipedRound load d z) Covers (Of m i) (Post d m i ∷ [])
  post_one m i in_m in_i = makes_turn d (IsGossipedRound load d z) Covers (Of m i) (Post d m i) (λ y h. post_stays m i in_m in_i y h) (λ y pair h e. post_keeps m i in_m in_i y h pair e)
      (λ y pair h at. post_makes m i in_m in_i y h pair at.0 at.1)

  abbrev Each : ℕ → ℕ × ℕ → Type 0
  Each m = Some_below d (IsGossipedRound load d z) Covers (λ i. Of m i) (length z.indexers)

  post_all : Makes d (IsGossipedRound load d z) Covers (Some_below d (IsGossipedRound load d z) Covers Each (length z.maintainers)) (posts d z)
  post_all = makes_flat d (IsGossipedRound load d z) Covers Each (λ m. numbered (Post d m) (length z.indexers)) (length z.maintainers)
      (λ m in_m. makes_numbered d (IsGossipedRound load d z) Covers (λ i. Of m i) (Post d m) (length z.indexers) (λ i in_i. post_one m i in_m in_i))

  -- Every indexer covers the whole log.
  pub posts_cover : (y : Datacentre) → IsGossipedRound load d z y → IsGossipedRound load d z (walked d y (posts d z)) × All (λ i. head i.pair ≡ (walked d y (posts d z)).token.last) (walked d y (posts d z)).indexers
  posts_cover y h =
      let v : Datacentre = walked d y (posts d z) in
      let after : IsGossipedRound load d z v = post_all.stays y h in
      let u : World = after.round.round.live.standing.world in
      let stands_v : StandsAt u d v = stands_at load d v after.round.round.live in (
        after,
        All-from_get_or (λ (n : IndexerState). head n.pair ≡ v.token.last) v.indexers no_indexer
            (λ i in_i. head_whole u d v stands_v after.round.placed (indexer_at v.indexers i).pair
            (All-get_or (λ (n : IndexerState). IsTruePair v.token.epochs (IsFilledIn v.maintainers) n.pair × IsIndexedAt (log_of u d) (length v.indexers) n) v.indexers i no_indexer in_i stands_v.coverage.indexers).0
            (λ m in_m. post_all.makes y (m, i) h
            (m, omega (arith, in_m, maintainers_stay load d z v after.round.round), (i, omega (arith, in_i, indexers_stay load d z v after.round.round), (refl, refl))))),
      )

  -- The table learns the whole log.
  pub learn_tells : (y : Datacentre) → IsGossipedRound load d z y → All (λ i. head i.pair ≡ y.token.last) y.indexers
      → IsPlacedRound load d z (turned d y (Learn d)) × IsAllTold d (turned d y (Learn d))
  learn_tells y h covered =
      let v : Datacentre = turned d y (Learn d) in
      let round : IsInRound load d z v = round_goes load d z y (Learn d) refl h.round.round in
      let u : World = round.live.standing.world in
      let before : StandsAt h.round.round.live.standing.world d y = stands_at load d y h.round.round.live in
      let after : StandsAt u d v = stands_at load d v round.live in
      let first : head (vector_at y.vectors 0) ≡ y.token.last = h.heads 0 _ (some_vector h.round.round.live.standing.world d y before) in
      let learnt : v.learnt ≡ v.token.last = omega (arith, first, before.knowledge.below.learnt) in
      let all : take v.learnt (log_of u d) ≡ log_of u d = take_all v.learnt (log_of u d) (omega (arith, learnt, after.positions.counted.whole)) in (
        record {
          round = round;
          drained = drained_beside y y.vectors y.indexers v.table v.learnt h.round.drained;
          placed = placed_beside y y.vectors y.indexers v.table v.learnt h.round.placed;
        },
        record {
          heads = h.heads;
          covered = covered;
          learnt = learnt;
          own = λ g. after.knowledge.aware.own g ∙ ap (λ log. count_of log g) all ∙ sym (after.positions.counted.each g);
        },
      )
