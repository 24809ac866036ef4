-- A further local round: every session that waits goes on.
use Rattle.std.proofs.Common.{◌≡◌, ◌⊎◌, ℕ, zero, suc, ◌+◌, ◌%◌, mod-lt, ◌<◌, ◌≤◌, true, eqb, List, [], ◌∷◌, length, map, get_or, refl, ap, sym, subst, ◌∙◌, inl, inr, arith, Option, Some, None, unwrap_or}
use Rattle.std.specs.List.{All, find, sum_by, sum}
use Rattle.std.proofs.lemmas.List.{length-map, get_or-map, drop_all, get_or_default}
use Rattle.std.proofs.lemmas.List.Elements.{All-contains}
use Rattle.std.proofs.lemmas.List.Sums.{sum_by-cons}
use Rattle.std.proofs.lemmas.Bool.{cases_lt, eq-eqb, ltb-true}
use Rattle.causal_deps.specs.declared.record.Item.{Item}
use Rattle.causal_deps.specs.declared.record.Record.{Record}
use Rattle.causal_deps.proofs.Lists.{slice_get_some}
use Rattle.abstract_log.specs.declared.command.Workload.{Workload}
use Rattle.abstract_log.specs.declared.script.Step.{Step}
use Rattle.abstract_log.specs.declared.script.Step.TheVariants.{Client}
use Rattle.abstract_log.specs.declared.world.Standing.{Standing}
use Rattle.abstract_log.specs.Worlds.{log_of, standing_of}
use Rattle.flstore_rounds.specs.Heads.{head}
use Rattle.toid_filter.proofs.Tests.{any_gives}
use Rattle.token_queue.specs.Queues.{TokenState}
use Rattle.tag_indexer.specs.Indexers.{IndexerState}
use Rattle.stage_world.specs.Stages.{Datacentre, Session, no_indexer, indexer_at}
use Rattle.stage_world.specs.StandsFor.{StandsAt, IsAt, IsAsFar}
use Rattle.stage_world.specs.MoreTurns.{home_of}
use Rattle.stage_world.specs.ClientTurns.{top_for}
use Rattle.stage_world.specs.Settling.{clients, local_round, is_unanswered, has_unanswered}
use Rattle.tag_indexer.proofs.TaggedLemmas.{find_tells}
use Rattle.settling_laws.specs.Rounds.{IsAllTold, work_of, left_to, work_at}
use Rattle.settling_laws.proofs.Live.{IsLive, turned, walked, stands_at}
use Rattle.settling_laws.proofs.Walks.{Makes, makes_none, makes_more, makes_append, makes_turn}
use Rattle.settling_laws.proofs.Progress.{Moves, moves_later, moves_still, moved_less, drop_next}
use Rattle.settling_laws.proofs.ClientSteps.{IsClear}
use Rattle.settling_laws.proofs.ClientTurns.{IsClientTurn, session_at, no_session, client_turns, found_few, none_found}
use Rattle.settling_laws.proofs.Rounding.{IsInRound, round_begins}
use Rattle.settling_laws.proofs.Gathering.{IsWithToken, IsClientOf, client_keeps_token}
use Rattle.settling_laws.proofs.LocalRound.{IsRoundOf, after_rest, round_is, rest_same, rest_rounds, round_rounds}

-- what is left to a session with an unanswered command, and to one without
pub left_some : (load : Workload) (sts : List Standing) (log : List Record) (d low : ℕ) (x : Session) → IsAsFar load sts log d low x → x.standing.answered < length x.commands → 1 ≤ left_to x
left_some load sts log d low x far behind =
    let next = slice_get_some x.commands x.standing.answered behind in
    omega (arith, drop_next work_of x.commands x.standing.answered next.0 next.1, found_few load sts log d low x next.0 far next.1)

pub left_none : (x : Session) → length x.commands ≤ x.standing.answered → left_to x ≡ 0
left_none x done = omega (arith, ap (sum_by work_of) (drop_all x.standing.answered x.commands done))

-- what holds of every indexer holds of a tag's
home_has : (P : IndexerState → Type 0) (z : Datacentre) (tag : List ℕ) → 0 < length z.indexers → ((i : ℕ) → i < length z.indexers → (indexer_at z.indexers i).number ≡ i) → All P z.indexers → P (home_of z tag)
home_has P z tag some numbered all = at (find (λ (i : IndexerState). eqb i.number (sum tag % length z.indexers)) z.indexers) refl
  where
    at : (o : Option IndexerState) → find (λ (i : IndexerState). eqb i.number (sum tag % length z.indexers)) z.indexers ≡ o → P (home_of z tag)
    at None is =
        let k : ℕ = sum tag % length z.indexers in
        let inside : k < length z.indexers = mod-lt (sum tag) some in
        absurd (none_found (λ (i : IndexerState). eqb i.number (sum tag % length z.indexers)) z.indexers k no_indexer is inside (eq-eqb (indexer_at z.indexers k).number k (numbered k inside)))
    at (Some i) is = subst P (sym (found_is i is)) (All-contains P z.indexers i all (find_tells (λ (n : IndexerState). eqb n.number (sum tag % length z.indexers)) z.indexers i is).0)
      where
        found_is : (n : IndexerState) → find (λ (i : IndexerState). eqb i.number (sum tag % length z.indexers)) z.indexers ≡ Some n → home_of z tag ≡ n
        found_is n e = ap (λ o. unwrap_or o no_indexer) e

-- where all is told, nothing holds up a session
clear_where_told : (load : Workload) (d : ℕ) (z : Datacentre) (l : IsLive load d z) (told : IsAllTold d z) (x : Session) → IsAsFar l.standing.world.workload l.standing.world.sessions (log_of l.standing.world d) d z.floor x → IsClear z (top_for z x.number) x
clear_where_told load d z l told x far = (
  omega (arith, top_is, seen, whole),
  omega (arith, top_is, h.knowledge.aware.floor, whole),
  λ tag. omega (arith, top_is, covered tag),
  λ s tag is. omega (arith, (far.pinned s is).within, covered tag, whole),
)
  where
    h : StandsAt l.standing.world d z
    h = stands_at load d z l

    whole : z.token.last ≡ length (log_of l.standing.world d)
    whole = h.positions.counted.whole

    top_is : top_for z x.number ≡ z.token.last
    top_is = told.heads (x.number % z.first) _ (omega (arith, mod-lt x.number h.coverage.served.0, h.coverage.served.1))

    covered : (tag : List ℕ) → head (home_of z tag).pair ≡ z.token.last
    covered tag = home_has (λ (i : IndexerState). head i.pair ≡ z.token.last) z tag (omega (arith, h.membership.members.ranges.indexers.0)) h.coverage.numbered told.covered

    seen : x.standing.floor ≤ length (log_of l.standing.world d)
    seen =
        let far_seen = (l.standing.lawful.sessions x.number).floor in
        let here : (standing_of l.standing.world x.number).floor ≤ length (log_of l.standing.world d) = subst (λ e. (standing_of l.standing.world x.number).floor ≤ length (log_of l.standing.world e)) far.home.home far_seen in
        omega (arith, here, ap (λ (s : Standing). s.floor) far.standing)

-- In a round of z's clients, with all told.
record IsToldRound (load : Workload) (d : ℕ) (z y : Datacentre) : Type 0 where
  pub token : IsWithToken load d z y
  pub told : IsAllTold d y

told_beside : (d : ℕ) (y : Datacentre) (ss : List Session) (bs : List (List Item)) → IsAllTold d y → IsAllTold d (record y { sessions = ss; batchers = bs })
told_beside d y ss bs h = record { heads = h.heads; covered = h.covered; learnt = h.learnt; own = h.own }

module _ (load : Workload) (d : ℕ) (z : Datacentre) (l : IsLive load d z) where
  abbrev was : ℕ → Session
  was k = session_at z.sessions k

  abbrev Behind : ℕ → Type 0
  Behind k = (k < length z.sessions) × ((was k).standing.answered < length (was k).commands)

  far_at : (y : Datacentre) (v : IsLive load d y) (k : ℕ) → k < length y.sessions → IsAsFar v.standing.world.workload v.standing.world.sessions (log_of v.standing.world d) d y.floor (session_at y.sessions k)
  far_at y v k within = (stands_at load d y v).clients.sessions k no_session within

  -- session k of z went on, or began a write
  abbrev HasMoved : ℕ → Datacentre → Type 0
  HasMoved k y = Moves (was k) (session_at y.sessions k)

  sessions_stay : (y : Datacentre) → IsInRound load d z y → length y.sessions ≡ length z.sessions
  sessions_stay y h = omega (arith, length-map y.sessions (λ (x : Session). x.number), length-map z.sessions (λ (x : Session). x.number), ap (length {A = ℕ}) h.goes.members.sessions)

  numbers_stay : (y : Datacentre) → IsInRound load d z y → (k : ℕ) → k < length z.sessions → (session_at y.sessions k).number ≡ (was k).number
  numbers_stay y h k within =
      sym (get_or-map (λ (x : Session). x.number) y.sessions k no_session 0 (omega (arith, within, sessions_stay y h)))
      ∙ ap (λ ns. get_or ns k 0) h.goes.members.sessions ∙ get_or-map (λ (x : Session). x.number) z.sessions k no_session 0 within

  client_of : (i : ℕ) → i < length z.sessions → IsClientOf load d (Client (was i).number)
  client_of i within = ((was i).number, subst (λ x. IsAt x (was i).number d) l.standing.workload (far_at z l i within).home, refl)

  client_stays : (t : Step) → IsClientOf load d t → (y : Datacentre) → IsToldRound load d z y → IsToldRound load d z (turned d y t)
  client_stays t is y h = record {
    token = client_keeps_token load d z y t is h.token;
    told = subst (λ s. IsAllTold d (turned d y s)) (sym is.2)
        (let step : IsClientTurn y is.0 (turned d y (Client is.0)) = client_turns load d y is.0 h.token.round.live in
        subst (IsAllTold d) (sym step.rest) (told_beside d y (turned d y (Client is.0)).sessions (turned d y (Client is.0)).batchers h.told));
  }

  client_makes : (i : ℕ) → i < length z.sessions → Makes d (IsToldRound load d z) HasMoved (λ k. (k ≡ i) × Behind k) (Client (was i).number ∷ [])
  client_makes i in_i = makes_turn d (IsToldRound load d z) HasMoved (λ k. (k ≡ i) × Behind k) (Client (was i).number) (λ y h. client_stays (Client (was i).number) (client_of i in_i) y h)
      (λ y k h e. moves_still (was k) (session_at y.sessions k) (session_at (turned d y (Client (was i).number)).sessions k) (h.token.round.goes.sessions k) e ((client_turns load d y (was i).number h.token.round.live).goes k))
      (λ y k h at. moved y k h (at.0) at.1 (cases_lt (session_at y.sessions k).standing.answered (length (session_at y.sessions k).commands)))
    where
      moved : (y : Datacentre) (k : ℕ) → IsToldRound load d z y → k ≡ i → Behind k → ((session_at y.sessions k).standing.answered < length (session_at y.sessions k).commands) ⊎ (length (session_at y.sessions k).commands ≤ (session_at y.sessions k).standing.answered)
          → HasMoved k (turned d y (Client (was i).number))
      moved y k h same behind (inr done) =
          let step : IsClientTurn y (was i).number (turned d y (Client (was i).number)) = client_turns load d y (was i).number h.token.round.live in
          let w = l.standing.world in
          inr (omega (arith, left_none (session_at y.sessions k) done, (step.goes k).less, left_some w.workload w.sessions (log_of w d) d z.floor (was k) (far_at z l k behind.0) behind.1))
      moved y k h same behind (inl waits) =
          let step : IsClientTurn y (was i).number (turned d y (Client (was i).number)) = client_turns load d y (was i).number h.token.round.live in
          let inside : k < length y.sessions = omega (arith, behind.0, sessions_stay y h.token.round) in
          let number : (session_at y.sessions k).number ≡ (was i).number = numbers_stay y h.token.round k behind.0 ∙ ap (λ j. (was j).number) same in
          let free : IsClear y (top_for y (session_at y.sessions k).number) (session_at y.sessions k) = clear_where_told load d y h.token.round.live h.told (session_at y.sessions k) (far_at y h.token.round.live k inside) in
          moves_later (was k) (session_at y.sessions k) (session_at (turned d y (Client (was i).number)).sessions k) (h.token.round.goes.sessions k)
          (step.moves k inside number (subst (λ n. IsClear y (top_for y n) (session_at y.sessions k)) number free) waits)

  -- the clients of further sessions, from the i-th on
  clients_make : (xs : List Session) (i : ℕ) → ((j : ℕ) → j < length xs → (session_at xs j ≡ was (i + j)) × (i + j < length z.sessions))
      → Makes d (IsToldRound load d z) HasMoved (λ k. (j : ℕ) × (j < length xs) × (k ≡ i + j) × Behind k) (map (λ x. Client x.number) xs)
  clients_make [] i are = makes_more d (IsToldRound load d z) HasMoved (λ k. ⊥) (λ k. (j : ℕ) × (j < 0) × (k ≡ i + j) × Behind k) [] (λ k some. absurd (omega (arith, some.1))) (makes_none d (IsToldRound load d z) HasMoved)
  clients_make (x ∷ xs) i are =
      let here : x ≡ was i = (are 0 (omega arith)).0 ∙ ap was (omega arith) in
      let in_i : i < length z.sessions = omega (arith, (are 0 (omega arith)).1) in
      let first : Makes d (IsToldRound load d z) HasMoved (λ k. (k ≡ i) × Behind k) (Client x.number ∷ []) = subst (λ u. Makes d (IsToldRound load d z) HasMoved (λ k. (k ≡ i) × Behind k) (Client u.number ∷ [])) (sym here) (client_makes i in_i) in
      let rest = clients_make xs (i + 1) (λ j low. ((are (suc j) (omega arith)).0 ∙ ap was (omega arith), omega (arith, (are (suc j) (omega arith)).1))) in
      makes_more d (IsToldRound load d z) HasMoved (λ k. ((k ≡ i) × Behind k) ⊎ ((j : ℕ) × (j < length xs) × (k ≡ i + 1 + j) × Behind k)) (λ k. (j : ℕ) × (j < length (x ∷ xs)) × (k ≡ i + j) × Behind k) (map (λ u. Client u.number) (x ∷ xs))
      (λ k some. which k some.0 some.1 some.2 some.3)
      (makes_append d (IsToldRound load d z) HasMoved (λ k. (k ≡ i) × Behind k) (λ k. (j : ℕ) × (j < length xs) × (k ≡ i + 1 + j) × Behind k) (Client x.number ∷ []) (map (λ u. Client u.number) xs) first rest)
    where
      which : (k j : ℕ) → j < length (x ∷ xs) → k ≡ i + j → Behind k → ((k ≡ i) × Behind k) ⊎ ((m : ℕ) × (m < length xs) × (k ≡ i + 1 + m) × Behind k)
      which k zero low is behind = inl (omega (arith, is), behind)
      which k (suc m) low is behind = inr (m, omega (arith, low), omega (arith, is), behind)

  -- After the clients' turns every session that waits moved.
  clients_move : IsAllTold d z → IsToldRound load d z (walked d z (clients z)) × ((k : ℕ) → Behind k → HasMoved k (walked d z (clients z)))
  clients_move told =
      let all = clients_make z.sessions 0 (λ j low. (ap was (omega arith), omega (arith, low))) in
      let begins : IsToldRound load d z z = record { token = record { round = round_begins load d z l; token = refl }; told = told } in
      (all.stays z begins, λ k behind. all.makes z k begins (k, behind.0, omega arith, behind))

-- A local round of a datacentre where all is told: every session that waits goes on.
pub record IsAnsweringRound (load : Workload) (d : ℕ) (z y : Datacentre) : Type 0 where
  pub of : IsRoundOf load d z y
  pub less : (k : ℕ) → k < length z.sessions → (session_at z.sessions k).standing.answered < length (session_at z.sessions k).commands → left_to (session_at y.sessions k) < left_to (session_at z.sessions k)

pub answering_round : (load : Workload) (d : ℕ) (z : Datacentre) → IsLive load d z → IsAllTold d z → IsAnsweringRound load d z (walked d z (local_round d z))
answering_round load d z l told =
    let y : Datacentre = walked d z (clients z) in
    let e : Datacentre = walked d z (local_round d z) in
    let moved = clients_move load d z l told in
    let live : IsLive load d y = moved.0.token.round.live in
    let is : after_rest d y y ≡ e = rest_same d z y y moved.0.token.round.goes.members.sizes (ap (λ (t : TokenState). t.at) moved.0.token.token) ∙ sym (round_is d z) in
    let later : IsRoundOf load d y e = subst (IsRoundOf load d y) is (rest_rounds load d y y live (record { round = round_begins load d y live; token = refl })) in
    let of : IsRoundOf load d z e = round_rounds load d z l in
    record {
      of = of;
      less = λ k within behind. moved_less (session_at z.sessions k) (session_at e.sessions k) (of.rounded.writes k no_session (omega (arith, within, sessions_stay load d z l e of.round)))
          (moves_still (session_at z.sessions k) (session_at y.sessions k) (session_at e.sessions k) (moved.0.token.round.goes.sessions k) (moved.1 k (within, behind)) (later.round.goes.sessions k));
    }

-- sums over lists of one length, term by term
pub sum_less : {X : Type 0} (f : X → ℕ) (xs ys : List X) (e : X) → length ys ≡ length xs → ((k : ℕ) → k < length xs → f (get_or ys k e) ≤ f (get_or xs k e)) → sum_by f ys ≤ sum_by f xs
sum_less f [] [] e same each = omega arith
sum_less f [] (y ∷ ys) e same each = absurd (omega (arith, same))
sum_less f (x ∷ xs) [] e same each = absurd (omega (arith, same))
sum_less f (x ∷ xs) (y ∷ ys) e same each =
    omega (arith, each 0 (omega arith), sum_less f xs ys e (omega (arith, same)) (λ k within. each (suc k) (omega (arith, within))), sum_by-cons f x xs, sum_by-cons f y ys)

pub sum_fewer : {X : Type 0} (f : X → ℕ) (xs ys : List X) (e : X) (i : ℕ) → length ys ≡ length xs → ((k : ℕ) → k < length xs → f (get_or ys k e) ≤ f (get_or xs k e)) → i < length xs → f (get_or ys i e) < f (get_or xs i e) → sum_by f ys < sum_by f xs
sum_fewer f [] ys e i same each inside less = absurd (omega (arith, inside))
sum_fewer f (x ∷ xs) [] e i same each inside less = absurd (omega (arith, same))
sum_fewer f (x ∷ xs) (y ∷ ys) e zero same each inside less =
    omega (arith, less, sum_less f xs ys e (omega (arith, same)) (λ k within. each (suc k) (omega (arith, within))), sum_by-cons f x xs, sum_by-cons f y ys)
sum_fewer f (x ∷ xs) (y ∷ ys) e (suc i) same each inside less =
    omega (arith, each 0 (omega arith), sum_fewer f xs ys e i (omega (arith, same)) (λ k within. each (suc k) (omega (arith, within))) (omega (arith, inside)) less, sum_by-cons f x xs, sum_by-cons f y ys)

-- No round raises what is left.
pub round_no_more : (load : Workload) (d : ℕ) (z y : Datacentre) → IsLive load d z → IsInRound load d z y → work_at y ≤ work_at z
round_no_more load d z y l h = sum_less left_to z.sessions y.sessions no_session (sessions_stay load d z l y h) (λ k within. (h.goes.sessions k).less)

-- A round where all is told lowers what is left, if a session waits.
pub round_fewer : (load : Workload) (d : ℕ) (z : Datacentre) → IsLive load d z → IsAllTold d z → has_unanswered z ≡ true → work_at (walked d z (local_round d z)) < work_at z
round_fewer load d z l told some =
    let y : Datacentre = walked d z (local_round d z) in
    let round : IsAnsweringRound load d z y = answering_round load d z l told in
    let found = any_gives is_unanswered z.sessions some in
    let k : ℕ = found.1.0 in
    let inside : k < length z.sessions = found.1.1 in
    let is : session_at z.sessions k ≡ found.0 = get_or_default z.sessions k no_session found.0 inside ∙ found.1.2 in
    let waits : found.0.standing.answered < length found.0.commands = ltb-true found.0.standing.answered (length found.0.commands) found.2 in
    sum_fewer left_to z.sessions y.sessions no_session k (sessions_stay load d z l y round.of.round) (λ j within. (round.of.round.goes.sessions j).less) inside
    (round.less k inside (subst (λ (x : Session). x.standing.answered < length x.commands) (sym is) waits))
