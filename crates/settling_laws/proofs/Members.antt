-- What each turn of a local round leaves as it was: the members, and that sessions go on.
use Rattle.std.proofs.Common.{◌≡◌, ℕ, ◌+◌, Bool, ltb, eqb, ◌&&◌, cond, List, [], ◌∷◌, ◌++◌, length, map, refl, ap, ap₂, sym, subst, ◌∙◌, inl, inr, arith}
use Rattle.std.proofs.lemmas.List.{length-set, length-map, get_or-map, get_or_past}
use Rattle.std.proofs.lemmas.Bool.{cases_lt, cond_both}
use Rattle.causal_deps.specs.declared.record.Place.{Place as RecordPlace}
use Rattle.causal_deps.specs.declared.record.Record.{Record}
use Rattle.causal_deps.specs.declared.record.Item.{Item}
use Rattle.causal_deps.specs.declared.record.Item.TheVariants.{Local, External}
use Rattle.abstract_log.specs.declared.command.Workload.{Workload}
use Rattle.abstract_log.specs.Answers.{place_at}
use Rattle.abstract_log.specs.declared.script.Step.{Step}
use Rattle.abstract_log.specs.declared.script.Step.TheVariants.{Client, Flush, Pass, Stamp, Token, Place, Gossip, Post, Learn}
use Rattle.abstract_log.specs.declared.script.Outcome.TheVariants.{Absent, NoToken}
use Rattle.toid_filter.specs.Filters.{filter_at}
use Rattle.maintainer.specs.Maintainers.{learned, moved_in}
use Rattle.token_queue.specs.Queues.{tokenless, stamped_queue, outbox_for, without_outbox}
use Rattle.stage_world.specs.Stages.{Datacentre, Session, sizes_of, batcher_at, queue_at, maintainer_at, indexer_at, slot_of}
use Rattle.stage_world.specs.StandsFor.{numbers_of}
use Rattle.stage_world.specs.Turns.{Turned, quiet, where_there, at_session, acked, sessions_after, all_acknowledged, flush_turn, flushed, pass_turn, passed_on, stamped, stamp_turn, stamp_events, stamp_outcome, drained, token_turn, place_turn, placed_from, gossip_turn, gossiped}
use Rattle.stage_world.specs.MoreTurns.{posted, posted_to, post_turn, learn_turn}
use Rattle.stage_world.proofs.SessionLemmas.{numbers-at_session}
use Rattle.stage_world.proofs.FlushTurn.{length-taken}
use Rattle.settling_laws.specs.Rounds.{HasSameMembers, work_of}
use Rattle.settling_laws.proofs.Live.{IsTurnAt, IsLive, turned}
use Rattle.settling_laws.proofs.Progress.{GoesOn, goes_same, goes_both, drop_next, drop_less}
use Rattle.settling_laws.proofs.ClientTurns.{session_at, no_session, commands_of, commands-at_session, client_turns, IsClientTurn}

pub same_members : (z : Datacentre) → HasSameMembers z z
same_members z = record { first = refl; sizes = refl; sessions = refl; commands = refl; epochs = refl; shares = refl; announcement = refl }

pub members_both : (x y z : Datacentre) → HasSameMembers x y → HasSameMembers y z → HasSameMembers x z
members_both x y z a b = record {
  first = b.first ∙ a.first;
  sizes = b.sizes ∙ a.sizes;
  sessions = b.sessions ∙ a.sessions;
  commands = b.commands ∙ a.commands;
  epochs = b.epochs ∙ a.epochs;
  shares = b.shares ∙ a.shares;
  announcement = b.announcement ∙ a.announcement;
}

-- From z to y there were turns of a local round.
pub record GoesTo (z y : Datacentre) : Type 0 where
  pub members : HasSameMembers z y
  pub sessions : (k : ℕ) → GoesOn (session_at z.sessions k) (session_at y.sessions k)

pub goes_nowhere : (z : Datacentre) → GoesTo z z
goes_nowhere z = record { members = same_members z; sessions = λ k. goes_same (session_at z.sessions k) }

pub goes_far : (x y z : Datacentre) → GoesTo x y → GoesTo y z → GoesTo x z
goes_far x y z a b = record {
  members = members_both x y z a.members b.members;
  sessions = λ k. goes_both (session_at x.sessions k) (session_at y.sessions k) (session_at z.sessions k) (a.sessions k) (b.sessions k);
}

there_goes : (b : Bool) (z : Datacentre) (t : Turned) → GoesTo z t.after → GoesTo z (where_there b z t).after
there_goes b z t goes = cond_both b t (quiet Absent z) (λ u. GoesTo z u.after) (λ _. goes) (λ _. goes_nowhere z)

-- a session whose write is stamped went on
acked_goes : (place : RecordPlace) (x : Session) → GoesOn x (acked place x)
acked_goes place x = record {
  less = omega (arith, drop_less work_of x.commands x.standing.answered);
  writes = λ h. inr (omega (arith, drop_next work_of x.commands x.standing.answered h.command h.is, h.fresh));
}

sessions_go : (s : ℕ) (f : Session → Session) (xs : List Session) → ((x : Session) → GoesOn x (f x)) → (k : ℕ) → GoesOn (session_at xs k) (session_at (at_session s f xs) k)
sessions_go s f xs goes k = elim (cases_lt k (length xs)) [
  | inl within ↦ subst (GoesOn (session_at xs k)) (sym (get_or-map (λ x. cond (eqb x.number s) (f x) x) xs k no_session no_session within))
      (cond_both (eqb (session_at xs k).number s) (f (session_at xs k)) (session_at xs k) (GoesOn (session_at xs k)) (λ _. goes (session_at xs k)) (λ _. goes_same (session_at xs k)))
  | inr past ↦
      let was : session_at xs k ≡ no_session = get_or_past xs k no_session past in
      let is : session_at (at_session s f xs) k ≡ no_session = get_or_past (at_session s f xs) k no_session (omega (arith, past, length-map xs (λ (x : Session). cond (eqb x.number s) (f x) x))) in
      subst (λ v. GoesOn v (session_at (at_session s f xs) k)) (sym was) (subst (GoesOn no_session) (sym is) (goes_same no_session))
]

-- Sessions that know of what was stamped: the same ones, which went on.
record AreToldOf (xs ys : List Session) : Type 0 where
  pub numbers : numbers_of ys ≡ numbers_of xs
  pub commands : commands_of ys ≡ commands_of xs
  pub goes : (k : ℕ) → GoesOn (session_at xs k) (session_at ys k)

told_same : (xs : List Session) → AreToldOf xs xs
told_same xs = record { numbers = refl; commands = refl; goes = λ k. goes_same (session_at xs k) }

told_one : (item : Item) (p : ℕ) (r : Record) (xs : List Session) → AreToldOf xs (sessions_after item p r xs)
told_one (Local draft) p r xs = record {
  numbers = numbers-at_session draft.session (acked (place_at p r)) xs (λ x. refl);
  commands = commands-at_session draft.session (acked (place_at p r)) xs (λ x. refl);
  goes = sessions_go draft.session (acked (place_at p r)) xs (acked_goes (place_at p r));
}
told_one (External e) p r xs = told_same xs

told_all : (last : ℕ) (items : List Item) (rs : List Record) (xs : List Session) → AreToldOf xs (all_acknowledged last items rs xs)
told_all last [] rs xs = told_same xs
told_all last (item ∷ items) [] xs = told_same xs
told_all last (item ∷ items) (r ∷ rs) xs =
    let one : AreToldOf xs (sessions_after item (last + 1) r xs) = told_one item (last + 1) r xs in
    let ys : List Session = sessions_after item (last + 1) r xs in
    let rest : AreToldOf ys (all_acknowledged (last + 1) items rs ys) = told_all (last + 1) items rs ys in
    record {
      numbers = rest.numbers ∙ one.numbers;
      commands = rest.commands ∙ one.commands;
      goes = λ k. goes_both (session_at xs k) (session_at ys k) (session_at (all_acknowledged (last + 1) items rs ys) k) (one.goes k) (rest.goes k);
    }

stamp_goes : (d : ℕ) (z : Datacentre) (q : ℕ) → GoesTo z (stamp_turn d z q).after
stamp_goes d z q =
    cond_both (eqb z.token.at q) (record { after = stamped z q; outcome = stamp_outcome z q; events = stamp_events d z.token.last (drained z q).stamped (drained z q).records }) (quiet NoToken z) (λ t. GoesTo z t.after)
    (λ _.
    let told : AreToldOf z.sessions (stamped z q).sessions = told_all z.token.last (drained z q).stamped (drained z q).records z.sessions in
    record {
      members = record {
        first = refl;
        sizes = ap (λ n. record (sizes_of z) { queues = n }) (length-set z.queues q (tokenless (stamped_queue (queue_at z.queues q) z.token (drained z q))));
        sessions = told.numbers;
        commands = told.commands;
        epochs = refl;
        shares = refl;
        announcement = refl;
      };
      sessions = told.goes;
    })
    (λ _. goes_nowhere z)

-- turns that leave the sessions
pub with_sizes : (z y : Datacentre) → y.first ≡ z.first → sizes_of y ≡ sizes_of z → y.sessions ≡ z.sessions → y.token.epochs ≡ z.token.epochs → y.map ≡ z.map → y.announcement ≡ z.announcement → GoesTo z y
with_sizes z y first sizes sessions epochs shares announcement = record {
  members = record { first = first; sizes = sizes; sessions = ap numbers_of sessions; commands = ap commands_of sessions; epochs = epochs; shares = shares; announcement = announcement };
  sessions = λ k. subst (λ ss. GoesOn (session_at z.sessions k) (session_at ss k)) (sym sessions) (goes_same (session_at z.sessions k));
}

-- Each turn of a local round.
pub turn_goes : (load : Workload) (d : ℕ) (z : Datacentre) (t : Step) → IsTurnAt load d t → IsLive load d z → GoesTo z (turned d z t)
turn_goes load d z (Client s) at l =
    let step : IsClientTurn z s (turned d z (Client s)) = client_turns load d z s l in
    let y : Datacentre = turned d z (Client s) in
    record {
      members = record {
        first = ap (λ (v : Datacentre). v.first) step.rest;
        sizes = ap sizes_of step.rest ∙ ap (λ n. record (sizes_of z) { batchers = n }) step.batchers;
        sessions = step.numbers;
        commands = step.commands;
        epochs = ap (λ (v : Datacentre). v.token.epochs) step.rest;
        shares = ap (λ (v : Datacentre). v.map) step.rest;
        announcement = ap (λ (v : Datacentre). v.announcement) step.rest;
      };
      sessions = step.goes;
    }
turn_goes load d z (Flush _ b) at l = there_goes (ltb b (length z.batchers)) z (flush_turn z b)
    (with_sizes z (flushed z b) refl (ap₂ (λ n m. record (sizes_of z) { batchers = n; filters = m }) (length-set z.batchers b []) (length-taken z.map (batcher_at z.batchers b) z.filters)) refl refl refl refl)
turn_goes load d z (Pass _ f q) at l = there_goes (ltb f (length z.filters) && ltb q (length z.queues)) z (pass_turn z f q)
    (with_sizes z (passed_on z f q) refl (ap₂ (λ n m. record (sizes_of z) { filters = n; queues = m }) (length-set z.filters f (record (filter_at z.filters f) { out = [] }))
    (length-set z.queues q (record (queue_at z.queues q) { items = (queue_at z.queues q).items ++ (filter_at z.filters f).out }))) refl refl refl refl)
turn_goes load d z (Stamp _ q) at l = there_goes (ltb q (length z.queues)) z (stamp_turn d z q) (stamp_goes d z q)
turn_goes load d z (Token _) at l = with_sizes z (token_turn z).after refl refl refl refl refl refl
turn_goes load d z (Place _ q m) at l = there_goes (ltb q (length z.queues) && ltb m (length z.maintainers)) z (place_turn z q m)
    (with_sizes z (placed_from z q m) refl (ap₂ (λ n k. record (sizes_of z) { queues = n; maintainers = k }) (length-set z.queues q (without_outbox (queue_at z.queues q) m))
    (length-set z.maintainers m (moved_in (learned (maintainer_at z.maintainers m) (queue_at z.queues q).epochs) (map slot_of (outbox_for (queue_at z.queues q) m))))) refl refl refl refl)
turn_goes load d z (Gossip _ m k) at l = there_goes (ltb m (length z.maintainers) && ltb k (length z.maintainers)) z (gossip_turn z m k) (with_sizes z (gossiped z m k) refl refl refl refl refl refl)
turn_goes load d z (Post _ m i) at l = there_goes (ltb m (length z.maintainers) && ltb i (length z.indexers)) z (post_turn z m i)
    (with_sizes z (posted z m i) refl (ap (λ n. record (sizes_of z) { indexers = n }) (length-set z.indexers i (posted_to (indexer_at z.indexers i) (maintainer_at z.maintainers m) m))) refl refl refl refl)
turn_goes load d z (Learn _) at l = with_sizes z (learn_turn d z).after refl refl refl refl refl refl
turn_goes load d z step at l = absurd at
