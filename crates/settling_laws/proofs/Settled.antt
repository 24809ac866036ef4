-- Settling ends, and the world that it leaves is finished.
use Rattle.std.proofs.Common.{append_assoc, ◌≡◌, ℕ, zero, suc, ◌<◌, ◌≤◌, true, false, Bool, not, eqb, List, [], ◌∷◌, ◌++◌, length, get_or, refl, ap, sym, subst, ◌∙◌, inl, inr, arith, None}
use Rattle.std.specs.List.{All, Contains, list_all}
use Rattle.std.proofs.lemmas.Bool.{cases_lt, or_parts, and_parts, eqb-true, ltb-false}
use Rattle.std.proofs.lemmas.List.{get_or_past, get_or-map, length-map}
use Rattle.std.proofs.lemmas.List.Elements.{All-append, All-head, All-tail}
use Rattle.causal_deps.specs.Logs.{count_of}
use Rattle.abstract_log.specs.declared.command.Workload.{Workload}
use Rattle.abstract_log.specs.declared.event.Event.{Event}
use Rattle.abstract_log.specs.declared.script.Step.{Step}
use Rattle.abstract_log.specs.declared.world.Standing.{Standing}
use Rattle.abstract_log.specs.declared.world.World.{World}
use Rattle.abstract_log.specs.Runs.{CanAllHappen, IsFinished, after_all}
use Rattle.abstract_log.specs.Worlds.{log_of, pending_of, plan_of, standing_of}
use Rattle.log_laws.specs.Lawful.{IsLawful}
use Rattle.log_laws.specs.Writes.{writes_at}
use Rattle.log_laws.proofs.FinishedLogs.{logs_whole}
use Rattle.log_laws.proofs.Runs.{CanAllHappen-append, after_all-append}
use Rattle.stage_world.specs.Stages.{Datacentre, Session, Stages}
use Rattle.stage_world.specs.StandsFor.{StandsAt}
use Rattle.stage_world.specs.MoreTurns.{same_counts}
use Rattle.stage_world.specs.Whole.{StandsFor, datacentre_at, nowhere_at}
use Rattle.abstract_log.specs.Turns.{IsStep}
use Rattle.stage_world.specs.Schedules.{IsKept, step_of, after_steps, events_of}
use Rattle.stage_world.specs.Settling.{is_unanswered, has_unanswered, is_answering, is_agreed, is_unfinished, all_rounds, answering_rounds, telling_rounds, after_passes, turns_of_passes, all_marks, AreSettlingRounds, IsLoop, IsSettling}
use Rattle.stage_world.proofs.AllTurns.{step_kept}
use Rattle.settling_laws.specs.Rounds.{IsStanding, EndsAnswering}
use Rattle.settling_laws.specs.Ending.{AreQuiet, EndsRounds, EndsTelling, EndsSettling, IsFinishedBy}
use Rattle.log_laws.proofs.LawfulAfter.{lawful_after, kept_of}
use Rattle.log_laws.proofs.LimitedRuns.{workload_stays}
use Rattle.settling_laws.proofs.Live.{steps_stand}
use Rattle.settling_laws.proofs.Rounds.{after_steps-append}
use Rattle.settling_laws.proofs.Announcements.{marks_may_come, quiet_after_marks}
use Rattle.settling_laws.proofs.Loop.{answering_ends_at, answering_steps}
use Rattle.settling_laws.proofs.Behind.{extends_counts, stands_here}
use Rattle.settling_laws.proofs.TellingPass.{AreAllRounded, all_round, dcs_of}
use Rattle.settling_laws.proofs.TellingLoop.{no_left, no_answers, none_any, telling_steps, telling_ends_at}

-- the turns of passes lead to the stages after them
passes_reach : (load : Workload) (pass : Workload → Stages → List Step) (z : Stages) (n : ℕ) → after_steps load z (turns_of_passes load pass z n) ≡ after_passes load pass z n
passes_reach load pass z zero = refl
passes_reach load pass z (suc n) =
    after_steps-append load (turns_of_passes load pass z n) (pass load (after_passes load pass z n)) z ∙ ap (λ s. after_steps load s (pass load (after_passes load pass z n))) (passes_reach load pass z n)

pub loop_reaches : (load : Workload) (goes_on : Stages → Bool) (pass : Workload → Stages → List Step) (z : Stages) (n : ℕ) (ts : List Step) → IsLoop load goes_on pass z n ts → goes_on (after_steps load z ts) ≡ false
loop_reaches load goes_on pass z n ts h = ap (λ us. goes_on (after_steps load z us)) h.turns ∙ ap goes_on (passes_reach load pass z n) ∙ h.ends

-- Settling ends.
-- The rounds of settling end, where no announcement is on.
rounds_end_at : (load : Workload) (z : Stages) → IsStanding load z → AreQuiet load z → EndsRounds load z
rounds_end_at load z h quiet =
    let a : EndsAnswering load z = answering_ends_at load z h in
    let y : Stages = after_steps load z a.turns in
    let hy : IsStanding load y = steps_stand load a.turns z a.steps h in
    let answered : is_answering y ≡ false = loop_reaches load is_answering answering_rounds z a.passes a.turns a.loop in
    let t : EndsTelling load y = telling_ends_at load y hy (λ d within. (a.members d).announcement ∙ quiet d within) answered in
    let both : All (IsStep load) (a.turns ++ t.turns) = All-append (IsStep load) a.turns t.turns a.steps t.steps in
    let x : Stages = after_steps load z (a.turns ++ t.turns) in
    let last : AreAllRounded load x (steps_stand load (a.turns ++ t.turns) z both h) (after_steps load x (all_rounds x)) (all_rounds x) = all_round load x (steps_stand load (a.turns ++ t.turns) z both h) in
    record {
      turns = a.turns ++ t.turns ++ all_rounds x;
      rounds = record { answering = a.turns; answers = a.passes; first = a.loop; telling = t.turns; tells = t.passes; second = t.loop; turns = refl };
      steps = All-append (IsStep load) (a.turns ++ t.turns) (all_rounds x) both last.steps;
    }

-- Settling ends, since its first turns end each announcement.
pub settling_ends_at : (load : Workload) (z : Stages) → IsStanding load z → EndsSettling load z
settling_ends_at load z h =
    let first : All (IsStep load) (all_marks z) = marks_may_come load z h in
    let rest : EndsRounds load (after_steps load z (all_marks z)) = rounds_end_at load (after_steps load z (all_marks z)) (steps_stand load (all_marks z) z first h) (quiet_after_marks load z h) in
    record {
      turns = all_marks z ++ rest.turns;
      settling = record { rounds = rest.turns; settled = rest.rounds; turns = refl };
      steps = All-append (IsStep load) (all_marks z) rest.turns first rest.steps;
    }

-- lists of counts that are the same have the same numbers
same_at : (xs ys : List ℕ) → same_counts xs ys ≡ true → (g : ℕ) → get_or xs g 0 ≡ get_or ys g 0
same_at [] [] same g = refl
same_at [] (y ∷ ys) same g = absurd (cc)
same_at (x ∷ xs) [] same g = absurd (cc)
same_at (x ∷ xs) (y ∷ ys) same zero = eqb-true x y (and_parts (eqb x y) (same_counts xs ys) same).0
same_at (x ∷ xs) (y ∷ ys) same (suc g) = same_at xs ys (and_parts (eqb x y) (same_counts xs ys) same).1 g

all_pass : {X : Type 0} (test : X → Bool) (xs : List X) → list_all test xs ≡ true → (k : ℕ) (e : X) → k < length xs → test (get_or xs k e) ≡ true
all_pass test [] all k e within = absurd (omega (arith, within))
all_pass test (x ∷ xs) all zero e within = (and_parts (test x) (list_all test xs) all).0
all_pass test (x ∷ xs) all (suc k) e within = all_pass test xs (and_parts (test x) (list_all test xs) all).1 k e (omega arith)

-- the tokens have the same counts
abbrev AreSame : Workload → Stages → Type 0
AreSame load z = (d e g : ℕ) → d < load.dcs → e < load.dcs → get_or (datacentre_at z d).token.counts g 0 ≡ get_or (datacentre_at z e).token.counts g 0

agreed_same : (load : Workload) (z : Stages) → IsStanding load z → is_agreed z ≡ true → AreSame load z
agreed_same load z h agreed d e g in_d in_e =
    same_at (datacentre_at z d).token.counts (datacentre_at z e).token.counts
    (all_pass (λ (y : Datacentre). same_counts (datacentre_at z d).token.counts y.token.counts) z.datacentres
    (all_pass (λ (x : Datacentre). list_all (λ (y : Datacentre). same_counts x.token.counts y.token.counts) z.datacentres) z.datacentres agreed d nowhere_at (omega (arith, in_d, dcs_of load z h)))
    e nowhere_at (omega (arith, in_e, dcs_of load z h))) g

-- Where every command is answered and all logs have the same counts, the world is finished.
finished_where : (load : Workload) (z : Stages) (h : IsStanding load z) → is_answering z ≡ false → AreSame load z → IsFinished h.world
finished_where load z h answered same = record {
  answered = λ s within. all_answered s within;
  none_waits = none_waits;
  complete = λ d e g t in_d has. record { first = has.first; counted = have d e g t in_d has.counted has.first };
}
  where
    dcs_are : h.world.workload.dcs ≡ load.dcs
    dcs_are = ap (λ (l : Workload). l.dcs) h.workload

    counts : (d e g : ℕ) → d < load.dcs → e < load.dcs → count_of (log_of h.world d) g ≡ count_of (log_of h.world e) g
    counts d e g in_d in_e = sym ((stands_here load z d in_d h).positions.counted.each g) ∙ same d e g in_d in_e ∙ (stands_here load z e in_e h).positions.counted.each g

    have : (d e g t : ℕ) → d < h.world.workload.dcs → t ≤ count_of (log_of h.world e) g → 1 ≤ t → t ≤ count_of (log_of h.world d) g
    have d e g t in_d counted first = elim (cases_lt e load.dcs) [
      | inl in_e ↦ omega (arith, counted, counts d e g (omega (arith, in_d, dcs_are)) in_e)
      | inr past ↦ absurd (omega (arith, counted, first, ap (λ l. count_of l g) (get_or_past h.world.logs e [] (omega (arith, past, dcs_are, h.lawful.shape.logs)))))
    ]

    none_waits : (d : ℕ) → pending_of h.world d ≡ []
    none_waits d = elim (cases_lt d load.dcs) [
      | inr past ↦ get_or_past h.world.pending d [] (omega (arith, past, dcs_are, h.lawful.shape.pending))
      | inl in_d ↦ nothing (pending_of h.world d) (λ n has. has)
    ]
      where
        nothing : (ns : List (ℕ × ℕ)) → ((n : ℕ × ℕ) → Contains ns n → Contains (pending_of h.world d) n) → ns ≡ []
        nothing [] are = refl
        nothing (n ∷ ns) are =
            let awaited = h.lawful.awaited d n.0 n.1 (are n (0, omega arith, refl)) in
            absurd (omega (arith, awaited.unknown, have d n.0 n.0 n.1 (omega (arith, inside d n (are n (0, omega arith, refl)))) awaited.held.counted awaited.held.first))
          where
            inside : (i : ℕ) (m : ℕ × ℕ) → Contains (pending_of h.world i) m → i < h.world.workload.dcs
            inside i m has = elim (cases_lt i h.world.workload.dcs) [
              | inl low ↦ low
              | inr past ↦ absurd (omega (arith, has.1, ap (length {A = ℕ × ℕ}) (get_or_past h.world.pending i [] (omega (arith, past, h.lawful.shape.pending)))))
            ]

    all_answered : (s : ℕ) → s < length h.world.sessions → (standing_of h.world s).answered ≡ length (plan_of h.world.workload s).commands
    all_answered s within =
        let home : ℕ = (plan_of h.world.workload s).home in
        let in_load : s < length h.world.workload.sessions = omega (arith, within, h.lawful.shape.sessions) in
        let in_h : home < load.dcs = omega (arith, h.lawful.shape.workload.homes s in_load, dcs_are) in
        let v : Datacentre = datacentre_at z home in
        let stands : StandsAt h.world home v = stands_here load z home in_h h in
        let there = stands.clients.present s (record { there = in_load; home = refl }) in
        let k : ℕ = there.0 in
        let inside : k < length v.sessions = omega (arith, there.1, length-map v.sessions (λ (x : Session). x.number)) in
        let x : Session = get_or v.sessions k (record { number = 0; commands = []; standing = standing_of h.world s; pin = None; found = [] }) in
        let number : x.number ≡ s = sym (get_or-map (λ (y : Session). y.number) v.sessions k (record { number = 0; commands = []; standing = standing_of h.world s; pin = None; found = [] }) s inside) ∙ there.2 in
        let far = stands.clients.sessions k (record { number = 0; commands = []; standing = standing_of h.world s; pin = None; found = [] }) inside in
        let idle : has_unanswered v ≡ false = none_any has_unanswered z.datacentres answered home nowhere_at (omega (arith, in_h, dcs_of load z h)) in
        let done : length x.commands ≤ x.standing.answered = ltb-false x.standing.answered (length x.commands) (none_any is_unanswered v.sessions idle k (record { number = 0; commands = []; standing = standing_of h.world s; pin = None; found = [] }) inside) in
        let standing : x.standing ≡ standing_of h.world s = far.standing ∙ ap (standing_of h.world) number in
        let commands : x.commands ≡ (plan_of h.world.workload s).commands = far.commands ∙ ap (λ i. (plan_of h.world.workload i).commands) number in
        omega (arith, done, ap (λ (st : Standing). st.answered) standing, ap length commands, (h.lawful.sessions s).answered)

-- A last round of each datacentre changes neither.
last_round : (load : Workload) (z : Stages) (h : IsStanding load z) → is_unfinished z ≡ false → (new : Stages) (ts : List Step) → AreAllRounded load z h new ts → (is_answering new ≡ false) × AreSame load new
last_round load z h ended new ts r =
    let parts = or_parts (is_answering z) (not (is_agreed z)) ended in
    let hn : IsStanding load new = r.leads.standing in
    let before : IsFinished h.world = finished_where load z h parts.0 (agreed_same load z h (from_not (is_agreed z) parts.1)) in
    let whole = logs_whole h.world (kept_of h.world h.lawful) before in
    let each : (d g : ℕ) → d < load.dcs → get_or (datacentre_at new d).token.counts g 0 ≡ writes_at load.sessions g = λ d g within.
    let was : count_of (log_of h.world d) g ≡ writes_at load.sessions g = whole.each d g (omega (arith, within, ap (λ (l : Workload). l.dcs) h.workload)) ∙ ap (λ (l : Workload). writes_at l.sessions g) h.workload in
    let most : count_of (log_of hn.world d) g ≤ writes_at load.sessions g = subst (λ (l : Workload). count_of (log_of hn.world d) g ≤ writes_at l.sessions g) hn.workload (hn.lawful.numbers d g) in
    omega (arith, was, most, extends_counts (log_of h.world d) (log_of hn.world d) g (r.leads.behind.logs d), (stands_here load new d within hn).positions.counted.each g) in
    (no_answers load new hn (omega (arith, no_left z parts.0, r.no_more)), λ d e g in_d in_e. each d g in_d ∙ sym (each e g in_e))
  where
    from_not : (b : Bool) → not b ≡ false → b ≡ true
    from_not true is = refl
    from_not false is = absurd (cc)

-- the events of steps can happen, and the stages stand for a lawful world after them
steps_happen : (load : Workload) (steps : List Step) (w : World) (z : Stages) → w.workload ≡ load → IsLawful w → StandsFor w z → All (IsStep load) steps
    → CanAllHappen w (events_of load z steps) × (IsLawful (after_all w (events_of load z steps)) × StandsFor (after_all w (events_of load z steps)) (after_steps load z steps))
steps_happen load [] w z is lawful h good = (tt, (lawful, h))
steps_happen load (t ∷ ts) w z is lawful h good =
    let good_t : IsStep w.workload t = subst (λ l. IsStep l t) (sym is) (All-head (IsStep load) t ts good) in
    let kept : IsKept w (step_of load z t) = subst (λ l. IsKept w (step_of l z t)) is (step_kept w z t lawful h good_t) in
    let es : List Event = (step_of load z t).events in
    let v : World = after_all w es in
    let y : Stages = (step_of load z t).after in
    let more : List Event = events_of load y ts in
    let rest = steps_happen load ts v y (workload_stays w es ∙ is) (lawful_after w es lawful kept.can) kept.stands (All-tail (IsStep load) t ts good) in
    let same : after_all w (es ++ more) ≡ after_all v more = after_all-append w es more in
    (CanAllHappen-append w es more kept.can rest.0, (subst IsLawful (sym same) rest.1.0, subst (λ u. StandsFor u (after_steps load y ts)) (sym same) rest.1.1))

-- the events of steps, one part after another
pub events_of-append : (load : Workload) (ts us : List Step) (z : Stages) → events_of load z (ts ++ us) ≡ events_of load z ts ++ events_of load (after_steps load z ts) us
events_of-append load [] us z = refl
events_of-append load (t ∷ ts) us z =
    ap (λ es. (step_of load z t).events ++ es) (events_of-append load ts us (step_of load z t).after)
    ∙ sym (append_assoc (step_of load z t).events (events_of load (step_of load z t).after ts) (events_of load (after_steps load (step_of load z t).after ts) us))

-- The world that the rounds of settling leave is finished.
rounds_finish : (w : World) (z : Stages) (steps : List Step) → IsLawful w → StandsFor w z → AreSettlingRounds w.workload z steps → IsFinishedBy w z steps
rounds_finish w z steps lawful h s =
    let load : Workload = w.workload in
    let hz : IsStanding load z = record { world = w; workload = refl; lawful = lawful; stands = h } in
    let first : All (IsStep load) s.answering = subst (All (IsStep load)) (sym s.first.turns) (answering_steps load z hz s.answers) in
    let y : Stages = after_steps load z s.answering in
    let hy : IsStanding load y = steps_stand load s.answering z first hz in
    let second : All (IsStep load) s.telling = subst (All (IsStep load)) (sym s.second.turns) (telling_steps load y hy s.tells) in
    let both : All (IsStep load) (s.answering ++ s.telling) = All-append (IsStep load) s.answering s.telling first second in
    let x : Stages = after_steps load z (s.answering ++ s.telling) in
    let hx : IsStanding load x = steps_stand load (s.answering ++ s.telling) z both hz in
    let ended : is_unfinished x ≡ false = ap is_unfinished (after_steps-append load s.answering s.telling z) ∙ loop_reaches load is_unfinished telling_rounds y s.tells s.telling s.second in
    let last : AreAllRounded load x hx (after_steps load x (all_rounds x)) (all_rounds x) = all_round load x hx in
    let settled = last_round load x hx ended (after_steps load x (all_rounds x)) (all_rounds x) last in
    let all : All (IsStep load) (s.answering ++ s.telling ++ all_rounds x) = All-append (IsStep load) (s.answering ++ s.telling) (all_rounds x) both last.steps in
    let good : All (IsStep load) steps = subst (All (IsStep load)) (sym s.turns) all in
    let happens = steps_happen load steps w z refl lawful h good in
    let v : World = after_all w (events_of load z steps) in
    let end : Stages = after_steps load z steps in
    let end_is : end ≡ after_steps load x (all_rounds x) = ap (after_steps load z) s.turns ∙ after_steps-append load (s.answering ++ s.telling) (all_rounds x) z in
    let hv : IsStanding load end = record { world = v; workload = workload_stays w (events_of load z steps); lawful = happens.1.0; stands = happens.1.1 } in
    record {
      can = happens.0;
      finished = finished_where load end hv (ap is_answering end_is ∙ settled.0) (subst (AreSame load) (sym end_is) settled.1);
    }

-- So is the world that settling leaves.
pub settled_is_finished : (w : World) (z : Stages) (steps : List Step) → IsLawful w → StandsFor w z → IsSettling w.workload z steps → IsFinishedBy w z steps
settled_is_finished w z steps lawful h s =
    let load : Workload = w.workload in
    let ms : List Step = all_marks z in
    let hz : IsStanding load z = record { world = w; workload = refl; lawful = lawful; stands = h } in
    let es : List Event = events_of load z ms in
    let v : World = after_all w es in
    let y : Stages = after_steps load z ms in
    let happens = steps_happen load ms w z refl lawful h (marks_may_come load z hz) in
    let same : v.workload ≡ load = workload_stays w es in
    let by : IsFinishedBy v y s.rounds = rounds_finish v y s.rounds happens.1.0 happens.1.1 (subst (λ l. AreSettlingRounds l y s.rounds) (sym same) s.settled) in
    let more : List Event = events_of load y s.rounds in
    let can : CanAllHappen v more = subst (λ l. CanAllHappen v (events_of l y s.rounds)) same by.can in
    let finished : IsFinished (after_all v more) = subst (λ l. IsFinished (after_all v (events_of l y s.rounds))) same by.finished in
    let split : events_of load z steps ≡ es ++ more = ap (events_of load z) s.turns ∙ events_of-append load ms s.rounds z in
    record {
      can = subst (CanAllHappen w) (sym split) (CanAllHappen-append w es more happens.0 can);
      finished = subst IsFinished (sym (ap (after_all w) split ∙ after_all-append w es more)) finished;
    }
