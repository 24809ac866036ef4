-- The rounds of telling end.
use Rattle.std.proofs.Common.{◌≡◌, ℕ, zero, suc, ◌+◌, ◌*◌, ◌<◌, ◌≤◌, true, false, Bool, not, List, [], ◌∷◌, length, get_or, refl, ap, sym, subst, ◌∙◌, inl, inr, arith}
use Rattle.std.specs.List.{All, list_any}
use Rattle.std.proofs.lemmas.Bool.{cases_lt, cases_Bool, or_parts, or_from, ltb-true, ltb-false, true≢false}
use Rattle.std.proofs.lemmas.List.{get_or_default}
use Rattle.std.proofs.lemmas.List.Elements.{All-nil, All-append, All-from_get_or}
use Rattle.std.proofs.lemmas.List.Sums.{sum_by-le, get_or-le-sum_by}
use Rattle.abstract_log.specs.declared.command.Workload.{Workload}
use Rattle.abstract_log.specs.declared.script.Step.{Step}
use Rattle.abstract_log.specs.Worlds.{log_of}
use Rattle.toid_filter.proofs.Tests.{any_gives}
use Rattle.stage_world.specs.Stages.{Datacentre, Session, Stages}
use Rattle.stage_world.specs.StandsFor.{StandsAt}
use Rattle.stage_world.specs.Whole.{datacentre_at, nowhere_at}
use Rattle.abstract_log.specs.Turns.{IsStep}
use Rattle.stage_world.specs.Settling.{is_unanswered, has_unanswered, is_answering, is_agreed, is_unfinished, telling_rounds, after_passes, turns_of_passes}
use Rattle.settling_laws.specs.Rounds.{IsStanding, left_to, work_at, left_in}
use Rattle.settling_laws.specs.Ending.{AreQuiet, EndsTelling, most_passes}
use Rattle.settling_laws.proofs.Answering.{sum_less, left_some, left_none}
use Rattle.settling_laws.proofs.ClientTurns.{no_session, session_at}
use Rattle.settling_laws.proofs.Drafts.{sum_none}
use Rattle.settling_laws.proofs.Behind.{stands_here}
use Rattle.settling_laws.proofs.TellingPass.{IsTelling, telling, dcs_of}
use Rattle.settling_laws.proofs.Telling.{total, two_passes}

-- where no element passes, each fails
pub none_any : {X : Type 0} (test : X → Bool) (xs : List X) → list_any test xs ≡ false → (k : ℕ) (e : X) → k < length xs → test (get_or xs k e) ≡ false
none_any test [] none k e within = absurd (omega (arith, within))
none_any test (x ∷ xs) none zero e within = (or_parts (test x) (list_any test xs) none).0
none_any test (x ∷ xs) none (suc k) e within = none_any test xs (or_parts (test x) (list_any test xs) none).1 k e (omega arith)

-- where every command is answered nothing is left
pub no_left : (z : Stages) → is_answering z ≡ false → left_in z ≡ 0
no_left z none = sum_none work_at z.datacentres (λ d e within. at_datacentre (get_or z.datacentres d e) (none_any has_unanswered z.datacentres none d e within))
  where
    at_datacentre : (v : Datacentre) → has_unanswered v ≡ false → work_at v ≡ 0
    at_datacentre v idle = sum_none left_to v.sessions (λ k s within.
        left_none (get_or v.sessions k s) (ltb-false (get_or v.sessions k s).standing.answered (length (get_or v.sessions k s).commands) (none_any is_unanswered v.sessions idle k s within)))

-- and the other way round
pub no_answers : (load : Workload) (z : Stages) → IsStanding load z → left_in z ≡ 0 → is_answering z ≡ false
no_answers load z h none = at (is_answering z) refl
  where
    at : (b : Bool) → is_answering z ≡ b → is_answering z ≡ false
    at false is = is
    at true is =
        let one = any_gives has_unanswered z.datacentres is in
        let d : ℕ = one.1.0 in
        let v : Datacentre = datacentre_at z d in
        let at_d : v ≡ one.0 = get_or_default z.datacentres d nowhere_at one.0 one.1.1 ∙ one.1.2 in
        let some = any_gives is_unanswered v.sessions (ap has_unanswered at_d ∙ one.2) in
        let k : ℕ = some.1.0 in
        let x : Session = session_at v.sessions k in
        let at_k : x ≡ some.0 = get_or_default v.sessions k no_session some.0 some.1.1 ∙ some.1.2 in
        let behind : x.standing.answered < length x.commands = subst (λ (y : Session). y.standing.answered < length y.commands) (sym at_k) (ltb-true some.0.standing.answered (length some.0.commands) some.2) in
        let stands : StandsAt h.world d v = stands_here load z d (omega (arith, one.1.1, dcs_of load z h)) h in
        let left : 1 ≤ left_to x = left_some h.world.workload h.world.sessions (log_of h.world d) d v.floor x (stands.clients.sessions k no_session some.1.1) behind in
        absurd (omega (arith, none, left, get_or-le-sum_by left_to v.sessions k no_session some.1.1, get_or-le-sum_by work_at z.datacentres d nowhere_at one.1.1))

-- no log is longer than the limits allow
total_most : (load : Workload) (z : Stages) → IsStanding load z → total z ≤ load.dcs * 16384
total_most load z h =
    let most : total z ≤ length z.datacentres * 16384 = sum_by-le (λ (x : Datacentre). x.token.last) 16384 z.datacentres (All-from_get_or (λ (x : Datacentre). x.token.last ≤ 16384) z.datacentres nowhere_at
    (λ d inside. omega (arith, (stands_here load z d (omega (arith, inside, dcs_of load z h)) h).positions.counted.whole, h.lawful.few d))) in
    omega (arith, most, ap (λ n. n * 16384) (dcs_of load z h))

module _ (load : Workload) (z : Stages) (h : IsStanding load z) where
  abbrev at : ℕ → Stages
  at n = after_passes load telling_rounds z n

  stands : (n : ℕ) → IsStanding load (at n)
  stands zero = h
  stands (suc n) = (telling load (at n) (stands n)).swapped.leads.standing

  abbrev turns_to : ℕ → List Step
  turns_to n = turns_of_passes load telling_rounds z n

  pub telling_steps : (n : ℕ) → All (IsStep load) (turns_to n)
  telling_steps zero = All-nil (IsStep load)
  telling_steps (suc n) = All-append (IsStep load) (turns_to n) (telling_rounds load (at n)) (telling_steps n) (telling load (at n) (stands n)).steps

  -- what one pass keeps
  less_left : (y new : Stages) (g : IsStanding load y) (ts : List Step) → IsTelling load y g new ts → left_in new ≤ left_in y
  less_left y new g ts t =
      let same : (d : ℕ) → work_at (datacentre_at new d) ≡ work_at (datacentre_at t.mid d) = λ d. ap work_at (t.swapped.beside.each d).rest in
      omega (arith, t.rounded.no_more, sum_less work_at t.mid.datacentres new.datacentres nowhere_at t.swapped.beside.datacentres (λ d inside. omega (arith, same d)))

  still_quiet : (y new : Stages) (g : IsStanding load y) (ts : List Step) → IsTelling load y g new ts → AreQuiet load y → AreQuiet load new
  still_quiet y new g ts t quiet d within = ap (λ (v : Datacentre). v.announcement) (t.swapped.beside.each d).rest ∙ (t.rounded.members d within).announcement ∙ quiet d within

  module _ (quiet : AreQuiet load z) (answered : is_answering z ≡ false) where
    quiet_at : (n : ℕ) → AreQuiet load (at n)
    quiet_at zero = quiet
    quiet_at (suc n) = still_quiet (at n) (at (suc n)) (stands n) (telling_rounds load (at n)) (telling load (at n) (stands n)) (quiet_at n)

    left_at_pass : (n : ℕ) → left_in (at n) ≡ 0
    left_at_pass zero = no_left z answered
    left_at_pass (suc n) = omega (arith, left_at_pass n, less_left (at n) (at (suc n)) (stands n) (telling_rounds load (at n)) (telling load (at n) (stands n)))

    answered_at : (n : ℕ) → is_answering (at n) ≡ false
    answered_at n = no_answers load (at n) (stands n) (left_at_pass n)

    -- what is unfinished does not agree
    differs : (n : ℕ) → is_unfinished (at n) ≡ true → is_agreed (at n) ≡ false
    differs n is = by (is_agreed (at n)) refl
      where
        by : (b : Bool) → is_agreed (at n) ≡ b → is_agreed (at n) ≡ false
        by false e = e
        by true e = absurd (true≢false (sym is ∙ or_from (is_answering (at n)) (not (is_agreed (at n))) (answered_at n) (ap not e)))

    grows : (n : ℕ) → is_agreed (at (suc (suc n))) ≡ false → total (at (suc n)) < total (at (suc (suc (suc n))))
    grows n differ =
        let t0 = telling load (at n) (stands n) in
        let t1 = telling load (at (suc n)) t0.swapped.leads.standing in
        let t2 = telling load (at (suc (suc n))) t1.swapped.leads.standing in
        two_passes load (at n) (at (suc n)) (at (suc (suc n))) (at (suc (suc (suc n)))) (stands n) (telling_rounds load (at n)) (telling_rounds load (at (suc n))) (telling_rounds load (at (suc (suc n)))) t0 t1 t2 (quiet_at n) differ

    -- the loop ends after so many passes
    abbrev Ends : Type 0
    Ends = (passes : ℕ) × ((m : ℕ) → m < passes → is_unfinished (at m) ≡ true) × (is_unfinished (at passes) ≡ false) × (passes ≤ most_passes load)

    one_more : (n : ℕ) → ((m : ℕ) → m < n → is_unfinished (at m) ≡ true) → is_unfinished (at n) ≡ true → (m : ℕ) → m < suc n → is_unfinished (at m) ≡ true
    one_more n before here m up = elim (cases_lt m n) [
      | inl earlier ↦ before m earlier
      | inr last ↦ let same : n ≡ m = omega (arith, up, last) in subst (λ k. is_unfinished (at k) ≡ true) same here
    ]

    ends_from : (fuel n : ℕ) → ((m : ℕ) → m < suc n → is_unfinished (at m) ≡ true) → load.dcs * 16384 < total (at (suc n)) + fuel → n + 1 + 2 * fuel ≤ 2 * (load.dcs * 16384) + 3 → Ends
    ends_from zero n before low few = absurd (omega (arith, low, total_most load (at (suc n)) (stands (suc n))))
    ends_from (suc fuel) n before low few = elim (cases_Bool (is_unfinished (at (suc n)))) [
      | inr ended ↦ (suc n, before, ended, omega (arith, few))
      | inl going ↦ elim (cases_Bool (is_unfinished (at (suc (suc n))))) [
        | inr ended ↦ (suc (suc n), one_more (suc n) before going, ended, omega (arith, few))
        | inl further ↦ ends_from fuel (suc (suc n)) (one_more (suc (suc n)) (one_more (suc n) before going) further) (omega (arith, low, grows n (differs (suc (suc n)) further))) (omega (arith, few))
      ]
    ]

    ends : Ends
    ends = elim (cases_Bool (is_unfinished z)) [
      | inr ended ↦ (0, (λ m up. absurd (omega (arith, up))), ended, omega arith)
      | inl going ↦ ends_from (suc (load.dcs * 16384)) 0 (λ m up. let same : 0 ≡ m = omega (arith, up) in subst (λ k. is_unfinished (at k) ≡ true) same going) (omega arith) (omega arith)
    ]

    -- The loop of telling ends.
    pub telling_ends_at : EndsTelling load z
    telling_ends_at = record { passes = ends.0; turns = turns_to ends.0; loop = record { turns = refl; before = ends.1; ends = ends.2 }; few = ends.3; steps = telling_steps ends.0 }
