-- The turn of a client: what it leaves of a datacentre and of each of its sessions.
use Rattle.std.proofs.Common.{◌≡◌, ℕ, zero, suc, ◌<◌, ◌≤◌, Bool, true, false, cond, eqb, List, [], ◌∷◌, length, map, take, get_or, refl, ap, ap₂, sym, subst, ◌∙◌, inl, inr, arith, Option, Some, None, slice_get}
use Rattle.std.specs.List.{AllPairs, Contains, find}
use Rattle.std.specs.Option.{option_map_or}
use Rattle.std.proofs.lemmas.List.{length-map, get_or-map, get_or_past, get_or_default}
use Rattle.std.proofs.lemmas.List.Elements.{All-get_or, All-contains}
use Rattle.std.proofs.lemmas.Option.{same_Some}
use Rattle.std.proofs.lemmas.Bool.{cases_lt, cond_both, eqb-true, eq-eqb}
use Rattle.causal_deps.specs.declared.record.Record.{Record}
use Rattle.causal_deps.proofs.Lists.{Contains-slice_get}
use Rattle.abstract_log.specs.declared.command.Command.{Command}
use Rattle.abstract_log.specs.declared.command.Command.TheVariants.{Tx}
use Rattle.abstract_log.specs.declared.command.SessionPlan.{SessionPlan}
use Rattle.abstract_log.specs.declared.command.Workload.{Workload}
use Rattle.abstract_log.specs.declared.answer.Found.{Found}
use Rattle.abstract_log.specs.declared.script.Outcome.TheVariants.{Absent as AbsentStep, Finished}
use Rattle.abstract_log.specs.declared.world.Standing.{Standing}
use Rattle.abstract_log.specs.Answers.{found_at}
use Rattle.abstract_log.specs.Commands.{no_plan}
use Rattle.abstract_log.specs.Fits.{FitsLimits, FitsPlan, FitsCommand}
use Rattle.abstract_log.specs.Worlds.{nowhere, log_of, plan_of}
use Rattle.stage_world.specs.Stages.{Datacentre, Session}
use Rattle.stage_world.specs.StandsFor.{keys_of, numbers_of, IsAsFar, IsPinned}
use Rattle.stage_world.specs.Turns.{quiet, at_session}
use Rattle.stage_world.specs.ClientTurns.{open_turn, begin_turn, top_for, client_of, client_turn}
use Rattle.stage_world.proofs.SessionLemmas.{numbers-at_session}
use Rattle.tag_indexer.proofs.TaggedLemmas.{find_tells}
use Rattle.settling_laws.proofs.Live.{IsLive, stands_at}
use Rattle.settling_laws.proofs.Progress.{GoesOn, Moves, goes_same}
use Rattle.settling_laws.proofs.ClientSteps.{IsClear, IsStepOf, still_step, next_step}

-- what stands for a session that is not there
abbrev pub no_session : Session
no_session = record { number = 0; commands = []; standing = nowhere; pin = None; found = [] }

abbrev pub session_at : List Session → ℕ → Session
session_at xs k = get_or xs k no_session

abbrev pub commands_of : List Session → List (List Command)
commands_of xs = map (λ (x : Session). x.commands) xs

-- From z to y the client of session s had its turn.
pub record IsClientTurn (z : Datacentre) (s : ℕ) (y : Datacentre) : Type 0 where
  pub rest : y ≡ record z { sessions = y.sessions; batchers = y.batchers }
  pub batchers : length y.batchers ≡ length z.batchers
  pub numbers : numbers_of y.sessions ≡ numbers_of z.sessions
  pub commands : commands_of y.sessions ≡ commands_of z.sessions
  pub goes : (k : ℕ) → GoesOn (session_at z.sessions k) (session_at y.sessions k)
  pub moves : (k : ℕ) → k < length z.sessions → (session_at z.sessions k).number ≡ s → IsClear z (top_for z s) (session_at z.sessions k)
      → (session_at z.sessions k).standing.answered < length (session_at z.sessions k).commands → Moves (session_at z.sessions k) (session_at y.sessions k)

pub commands-at_session : (s : ℕ) (f : Session → Session) (xs : List Session) → ((x : Session) → (f x).commands ≡ x.commands) → commands_of (at_session s f xs) ≡ commands_of xs
commands-at_session s f [] same = refl
commands-at_session s f (x ∷ xs) same =
    ap₂ (λ (n : List Command) ns. n ∷ ns) (cond_both (eqb x.number s) (f x) x (λ (y : Session). y.commands ≡ x.commands) (λ is. same x) (λ is. refl)) (commands-at_session s f xs same)

-- sessions with one number are one
same_place : (xs : List Session) (j k : ℕ) → AllPairs (λ a b. a < b) (numbers_of xs) → j < length xs → k < length xs → (session_at xs j).number ≡ (session_at xs k).number → j ≡ k
same_place xs j k rise in_j in_k same = elim (cases_lt j k) [
  | inl before ↦ absurd (omega (arith, rise j k 0 before (omega (arith, length-map xs (λ (x : Session). x.number))), number_at j in_j, number_at k in_k, same))
  | inr from ↦ elim (cases_lt k j) [
    | inl after ↦ absurd (omega (arith, rise k j 0 after (omega (arith, length-map xs (λ (x : Session). x.number))), number_at j in_j, number_at k in_k, same))
    | inr to ↦ omega arith
  ]
]
  where
    number_at : (i : ℕ) → i < length xs → get_or (numbers_of xs) i 0 ≡ (session_at xs i).number
    number_at i within = get_or-map (λ (x : Session). x.number) xs i no_session 0 within

pub same_session : (xs : List Session) (k : ℕ) (x : Session) → AllPairs (λ a b. a < b) (numbers_of xs) → Contains xs x → k < length xs → (session_at xs k).number ≡ x.number → session_at xs k ≡ x
same_session xs k x rise has in_k same =
    let is : session_at xs has.0 ≡ x = get_or_default xs has.0 no_session x has.1 ∙ has.2 in
    let place : k ≡ has.0 = same_place xs k has.0 rise in_k has.1 (same ∙ ap (λ (y : Session). y.number) (sym is)) in
    ap (session_at xs) place ∙ is

-- a step of a session, as one of the datacentre
module _ (z : Datacentre) (x : Session) (clear : Type 0) (y : Datacentre) (s : ℕ) (rise : AllPairs (λ a b. a < b) (numbers_of z.sessions)) (has : Contains z.sessions x) (number : x.number ≡ s)
    (step : IsStepOf z x clear y) where
  sessions_are : y.sessions ≡ at_session x.number step.change z.sessions
  sessions_are = ap (λ (v : Datacentre). v.sessions) step.rest

  changed_at : (k : ℕ) → k < length z.sessions → session_at y.sessions k ≡ cond (eqb (session_at z.sessions k).number x.number) (step.change (session_at z.sessions k)) (session_at z.sessions k)
  changed_at k within = ap (λ ss. session_at ss k) sessions_are ∙ get_or-map (λ u. cond (eqb u.number x.number) (step.change u) u) z.sessions k no_session no_session within

  here : (k : ℕ) → k < length z.sessions → (session_at z.sessions k).number ≡ x.number → session_at y.sessions k ≡ step.change x
  here k within same =
      changed_at k within ∙ ap (λ b. cond b (step.change (session_at z.sessions k)) (session_at z.sessions k)) (eq-eqb (session_at z.sessions k).number x.number same)
      ∙ ap step.change (same_session z.sessions k x rise has within same)

  goes_at : (k : ℕ) → GoesOn (session_at z.sessions k) (session_at y.sessions k)
  goes_at k = elim (cases_lt k (length z.sessions)) [
    | inr past ↦
        let was : session_at z.sessions k ≡ no_session = get_or_past z.sessions k no_session past in
        let is : session_at y.sessions k ≡ no_session = get_or_past y.sessions k no_session (omega (arith, past, ap (λ (ss : List Session). length ss) sessions_are, length-map z.sessions (λ u. cond (eqb u.number x.number) (step.change u) u))) in
        subst (λ v. GoesOn v (session_at y.sessions k)) (sym was) (subst (GoesOn no_session) (sym is) (goes_same no_session))
    | inl within ↦ subst (GoesOn (session_at z.sessions k)) (sym (changed_at k within))
        (cond_both (eqb (session_at z.sessions k).number x.number) (step.change (session_at z.sessions k)) (session_at z.sessions k) (GoesOn (session_at z.sessions k))
        (λ is. subst (λ v. GoesOn v (step.change v)) (sym (same_session z.sessions k x rise has within (eqb-true (session_at z.sessions k).number x.number is))) step.goes)
        (λ _. goes_same (session_at z.sessions k)))
  ]

  pub turn_by_step : (IsClear z (top_for z s) x → x.standing.answered < length x.commands → clear) → IsClientTurn z s y
  turn_by_step then = record {
    rest = step.rest ∙ ap (λ ss. record z { sessions = ss; batchers = y.batchers }) (sym sessions_are);
    batchers = step.batchers;
    numbers = ap numbers_of sessions_are ∙ numbers-at_session x.number step.change z.sessions step.number;
    commands = ap commands_of sessions_are ∙ commands-at_session x.number step.change z.sessions step.commands;
    goes = goes_at;
    moves = λ k within is free behind.
        let same : session_at z.sessions k ≡ x = same_session z.sessions k x rise has within (is ∙ sym number) in
        let moved : Moves x (step.change x) = step.moves (then (subst (IsClear z (top_for z s)) same free) (subst (λ (v : Session). v.standing.answered < length v.commands) same behind)) in
        subst (λ v. Moves v (session_at y.sessions k)) (sym same) (subst (Moves x) (sym (here k within (is ∙ sym number))) moved);
  }

-- no session has the number
pub still_turn : (z : Datacentre) (s : ℕ) → ((k : ℕ) → k < length z.sessions → (session_at z.sessions k).number ≡ s → ⊥) → IsClientTurn z s z
still_turn z s none = record { rest = refl; batchers = refl; numbers = refl; commands = refl; goes = λ k. goes_same (session_at z.sessions k); moves = λ k within is. absurd (none k within is) }

pub none_found : {X : Type 0} (test : X → Bool) (xs : List X) (k : ℕ) (e : X) → find test xs ≡ None → k < length xs → test (get_or xs k e) ≡ true → ⊥
none_found test [] k e none within is = absurd (omega (arith, within))
none_found test (x ∷ xs) zero e none within is = at (test x) is none
  where
    at : (b : Bool) → b ≡ true → cond b (Some x) (find test xs) ≡ None → ⊥
    at true passes f = absurd (cc)
    at false passes f = absurd (cc)
none_found test (x ∷ xs) (suc k) e none within is = at (test x) none (λ f. none_found test xs k e f (omega arith) is)
  where
    at : (b : Bool) → cond b (Some x) (find test xs) ≡ None → (find test xs ≡ None → ⊥) → ⊥
    at true f later = absurd (cc)
    at false f later = later f

-- what a session found is part of what it looks for
module _ (load : Workload) (sts : List Standing) (log : List Record) (d low : ℕ) (x : Session) (c : Command) (far : IsAsFar load sts log d low x) (next : slice_get x.commands x.standing.answered ≡ Some c) where
  pub found_few : length x.found ≤ length (keys_of c)
  found_few = at x.pin refl
    where
      at : (o : Option ℕ) → x.pin ≡ o → length x.found ≤ length (keys_of c)
      at None is = omega (arith, ap (length {A = Found}) (far.fresh is))
      at (Some s) is =
          let pinned : IsPinned log low x s = far.pinned s is in
          let same : pinned.command ≡ c = same_Some pinned.command c (sym pinned.is ∙ next) in
          let size : length x.found ≡ length (take (length x.found) (keys_of pinned.command)) = ap (length {A = Found}) pinned.same ∙ length-map (take (length x.found) (keys_of pinned.command)) (found_at log s) in
          subst (λ e. length x.found ≤ length (keys_of e)) same (few_of (length x.found) (keys_of pinned.command) size)
        where
          few_of : (n : ℕ) (ks : List (List ℕ)) → n ≡ length (take n ks) → n ≤ length ks
          few_of zero ks is = omega arith
          few_of (suc n) [] is = absurd (omega (arith, is))
          few_of (suc n) (k ∷ ks) is = omega (arith, few_of n ks (omega (arith, is)))

  pub found_fewer : 1 ≤ length (keys_of c) → length x.found < length (keys_of c)
  found_fewer some = at x.pin refl
    where
      at : (o : Option ℕ) → x.pin ≡ o → length x.found < length (keys_of c)
      at None is = omega (arith, some, ap (length {A = Found}) (far.fresh is))
      at (Some s) is =
          let pinned : IsPinned log low x s = far.pinned s is in
          let same : pinned.command ≡ c = same_Some pinned.command c (sym pinned.is ∙ next) in
          subst (λ e. length x.found < length (keys_of e)) same (pinned.fewer (subst (λ e. 1 ≤ length (keys_of e)) (sym same) some))

-- each command of a session is in its ranges
command_fits : (load : Workload) (sts : List Standing) (log : List Record) (d low : ℕ) (x : Session) (c : Command) → FitsLimits load → IsAsFar load sts log d low x → slice_get x.commands x.standing.answered ≡ Some c → FitsCommand c
command_fits load sts log d low x c limits far next =
    let plan : SessionPlan = plan_of load x.number in
    let fits : FitsPlan load.dcs plan = All-get_or (FitsPlan load.dcs) load.sessions x.number no_plan far.home.there limits.plans in
    let there : slice_get plan.commands x.standing.answered ≡ Some c = ap (λ cs. slice_get cs x.standing.answered) (sym far.commands) ∙ next in
    All-contains FitsCommand plan.commands c fits.commands (Contains-slice_get plan.commands x.standing.answered c there)

some_keys : (c : Command) → FitsCommand c → (keys : List (List ℕ)) → c ≡ Tx keys → 1 ≤ length keys
some_keys c fits keys is = let own : FitsCommand (Tx keys) = subst FitsCommand is fits in own.0

-- the turn of a client, whatever its command
pub client_turns : (load : Workload) (d : ℕ) (z : Datacentre) (s : ℕ) → IsLive load d z → IsClientTurn z s (client_turn d z s).after
client_turns load d z s l = by_session (find (λ x. eqb x.number s) z.sessions) refl
  where
    by_next : (x : Session) → Contains z.sessions x → x.number ≡ s → (o : Option Command) → slice_get x.commands x.standing.answered ≡ o
        → IsClientTurn z s (option_map_or (λ c. cond x.standing.begun (open_turn d z x (top_for z x.number) c) (begin_turn d z x c)) o (quiet Finished z)).after
    by_next x has number None is =
        turn_by_step z x (x.standing.answered < length x.commands) z s (stands_at load d z l).clients.ordered has number (still_step z x (x.standing.answered < length x.commands) (λ behind. absurd (none_next x.commands x.standing.answered behind is))) (λ free behind. behind)
      where
        none_next : (cs : List Command) (n : ℕ) → n < length cs → slice_get cs n ≡ None → ⊥
        none_next [] n within e = absurd (omega (arith, within))
        none_next (k ∷ ks) zero within e = absurd (cc)
        none_next (k ∷ ks) (suc n) within e = none_next ks n (omega arith) e
    by_next x has number (Some c) is =
        let h = stands_at load d z l in
        let w = l.standing.world in
        let far : IsAsFar w.workload w.sessions (log_of w d) d z.floor x = All-contains (IsAsFar w.workload w.sessions (log_of w d) d z.floor) z.sessions x h.clients.sessions has in
        let few : length x.found ≤ length (keys_of c) = found_few w.workload w.sessions (log_of w d) d z.floor x c far is in
        turn_by_step z x (IsClear z (top_for z x.number) x) (cond x.standing.begun (open_turn d z x (top_for z x.number) c) (begin_turn d z x c)).after s h.clients.ordered has number
        (next_step d z x c is (omega arith) (λ _ some. found_fewer w.workload w.sessions (log_of w d) d z.floor x c far is some)
        (some_keys c (command_fits w.workload w.sessions (log_of w d) d z.floor x c l.standing.lawful.limits far is)))
        (λ free behind. subst (λ n. IsClear z (top_for z n) x) (sym number) free)

    by_session : (o : Option Session) → find (λ x. eqb x.number s) z.sessions ≡ o → IsClientTurn z s (option_map_or (client_of d z) o (quiet AbsentStep z)).after
    by_session None is = still_turn z s (λ k within same. none_found (λ (x : Session). eqb x.number s) z.sessions k no_session is within (eq-eqb (session_at z.sessions k).number s same))
    by_session (Some x) is =
        let tells = find_tells (λ (y : Session). eqb y.number s) z.sessions x is in
        by_next x tells.0 (eqb-true x.number s tells.1) (slice_get x.commands x.standing.answered) refl
