-- Each host has as many records as writes that are answered there.
use Rattle.std.proofs.Common.{◌≡◌, ◌≢◌, ℕ, ◌+◌, ◌<◌, ◌==◌, true, false, if◌then◌else◌, List, [], ◌∷◌, ◌++◌, length, take, get_or, set, refl, ap, sym, subst, ◌∙◌, inl, inr, arith, Contains, length-set, eq-eqb, ne_eqb, option_to_list, max}
use Rattle.std.proofs.lemmas.Bool.{cases_eq, cond-true, cond-false, cond_both}
use Rattle.std.proofs.lemmas.Option.{slice_get_within, get_or_from_slice_get}
use Rattle.std.proofs.lemmas.List.{get_or-set_other, length-map, get_or-map}
use Rattle.std.proofs.lemmas.List.Sums.{count_by_more_yes, count_by_more_no}
use Rattle.causal_deps.specs.Counts.{raised}
use Rattle.causal_deps.specs.Logs.{count_of, sealed, IsReady}
use Rattle.causal_deps.proofs.Lists.{get_or-set_cases}
use Rattle.causal_deps.proofs.LogsLemmas.{nth_of_is, count_of-push_own, count_of-push_other}
use Rattle.abstract_log.specs.declared.answer.Answer.{Answer}
use Rattle.abstract_log.specs.declared.command.Command.{Command}
use Rattle.abstract_log.specs.declared.command.Workload.{Workload}
use Rattle.abstract_log.specs.declared.event.Event.{Event}
use Rattle.abstract_log.specs.declared.event.Event.TheVariants.{Submit, Append, Receive, Add, Learn, Reply, Collect}
use Rattle.abstract_log.specs.declared.world.World.{World}
use Rattle.abstract_log.specs.declared.world.Standing.{Standing}
use Rattle.abstract_log.specs.Answers.{places_in, past_with}
use Rattle.abstract_log.specs.Commands.{is_write, no_plan}
use Rattle.abstract_log.specs.Worlds.{log_of, pending_of, record_of, standing_of, plan_of, open_command, nowhere, first_standing, start}
use Rattle.abstract_log.specs.Steps.{CanHappen, after, written}
use Rattle.abstract_log.specs.Shapes.{IsShaped}
use Rattle.abstract_log.proofs.Writing.{IsSomeAnd_is}
use Rattle.abstract_log.proofs.ShapesLemmas.{blank_at}
use Rattle.log_laws.specs.Laws.{EachLogIsCausal, ArePendingSound}
use Rattle.log_laws.specs.Writes.{sum_below, writes_in, answered_by, answered_at}
use Rattle.log_laws.specs.Lawful.{AreWritesAnswered}
use Rattle.log_laws.proofs.Sums.{sum_below-zero, sum_below-set}
use Rattle.log_laws.proofs.SessionsLemmas.{IsOpen, open_is, appended}

-- how many writes a standing has answered, if its home is h
abbrev pub done_by : Workload → ℕ → ℕ → Standing → ℕ
done_by load h s st = if (plan_of load s).home == h then writes_in (take st.answered (plan_of load s).commands) else 0

done_at_home : (load : Workload) (h s : ℕ) (st : Standing) → (plan_of load s).home ≡ h → done_by load h s st ≡ writes_in (take st.answered (plan_of load s).commands)
done_at_home load h s st home = cond-true ((plan_of load s).home == h) (writes_in (take st.answered (plan_of load s).commands)) 0 (eq-eqb (plan_of load s).home h home)

done_elsewhere : (load : Workload) (h s : ℕ) (st : Standing) → (plan_of load s).home ≢ h → done_by load h s st ≡ 0
done_elsewhere load h s st other = cond-false ((plan_of load s).home == h) (writes_in (take st.answered (plan_of load s).commands)) 0 (ne_eqb (plan_of load s).home h other)

-- one standing goes on, and answers c writes more
answered_with : (w : World) (h s c : ℕ) (st : Standing) → s < length w.sessions → done_by w.workload h s st ≡ done_by w.workload h s (standing_of w s) + c
    → sum_below (λ i. done_by w.workload h i (get_or (set w.sessions s st) i nowhere)) (length (set w.sessions s st)) ≡ answered_at w h + c
answered_with w h s c st there more =
    ap (sum_below (λ i. done_by w.workload h i (get_or (set w.sessions s st) i nowhere))) (length-set w.sessions s st)
    ∙ sum_below-set (done_by w.workload h) w.sessions s st nowhere (length w.sessions) c there there more

one_more_write : (w : World) (s k : ℕ) (c : Command) → IsOpen w s k c → is_write c ≡ true
    → writes_in (take k (plan_of w.workload s).commands) ≡ writes_in (take (standing_of w s).answered (plan_of w.workload s).commands) + 1
one_more_write w s k c open_at writes =
    let commands : List Command = (plan_of w.workload s).commands in
    let n : ℕ = (standing_of w s).answered in
    let at : get_or commands n c ≡ c = get_or_from_slice_get commands n c c open_at.is in
    ap (λ m. writes_in (take m commands)) (sym open_at.next) ∙ count_by_more_yes is_write commands n c (slice_get_within commands n c open_at.is) (ap is_write at ∙ writes)

no_more_writes : (w : World) (s k : ℕ) (c : Command) → IsOpen w s k c → is_write c ≡ false
    → writes_in (take k (plan_of w.workload s).commands) ≡ writes_in (take (standing_of w s).answered (plan_of w.workload s).commands)
no_more_writes w s k c open_at reads =
    let commands : List Command = (plan_of w.workload s).commands in
    let n : ℕ = (standing_of w s).answered in
    let at : get_or commands n c ≡ c = get_or_from_slice_get commands n c c open_at.is in
    ap (λ m. writes_in (take m commands)) (sym open_at.next) ∙ count_by_more_no is_write commands n c (slice_get_within commands n c open_at.is) (ap is_write at ∙ reads)

first_is : (load : Workload) (i : ℕ) → i < length load.sessions → standing_of (start load) i ≡ first_standing load.dcs
first_is load i there = get_or-map (λ _. first_standing load.dcs) load.sessions i no_plan nowhere there

nothing_done : (load : Workload) (h s : ℕ) (st : Standing) → st.answered ≡ 0 → done_by load h s st ≡ 0
nothing_done load h s st none =
    ap (λ n. if (plan_of load s).home == h then writes_in (take n (plan_of load s).commands) else 0) none
    ∙ cond_both ((plan_of load s).home == h) 0 0 (λ n. n ≡ 0) (λ _. refl) (λ _. refl)

pub none_answered : (load : Workload) → AreWritesAnswered (start load)
none_answered load h =
    let none : (i : ℕ) → i < length (start load).sessions → answered_by (start load) h i ≡ 0 = λ i below.
    ap (done_by load h i) (first_is load i (omega (arith, length-map load.sessions (λ _. first_standing load.dcs)))) ∙ nothing_done load h i (first_standing load.dcs) refl in
    ap (λ xs. count_of xs h) (blank_at load.dcs h []) ∙ sym (sum_below-zero (answered_by (start load) h) (length (start load).sessions) none)

submits_answer : (w : World) (s k : ℕ) → AreWritesAnswered w → CanHappen w (Submit s k) → AreWritesAnswered (after w (Submit s k))
submits_answer w s k h can g =
    omega (arith, h g, answered_with w g s 0 (record (standing_of w s) { begun = true }) can.0 (omega arith))

replies_answer : (w : World) (d s k at : ℕ) (answer : Answer) → AreWritesAnswered w → CanHappen w (Reply d s k at answer) → AreWritesAnswered (after w (Reply d s k at answer))
replies_answer w d s k at answer h can g =
    let st : Standing = record { answered = k; begun = false; past = past_with (standing_of w s).past (places_in answer); floor = at } in
    let c = IsSomeAnd_is (open_command w s k) (λ c. is_write c ≡ false) can.1.0 in
    let same = no_more_writes w s k c.0 (open_is w s k c.0 c.1) c.2 in
    let more : done_by w.workload g s st ≡ done_by w.workload g s (standing_of w s) + 0 =
    ap (λ n. if (plan_of w.workload s).home == g then n else 0) same ∙ omega arith in
    omega (arith, h g, answered_with w g s 0 st can.0.there more)

appends_answer : (w : World) (d s k lid toid : ℕ) → IsShaped w → AreWritesAnswered w → CanHappen w (Append d s k lid toid) → AreWritesAnswered (after w (Append d s k lid toid))
appends_answer w d s k lid toid shape h can g =
    let st : Standing = record { answered = k; begun = false; past = raised (standing_of w s).past d toid; floor = max (standing_of w s).floor lid } in
    let c = IsSomeAnd_is (open_command w s k) (λ c. is_write c ≡ true) can.1.0 in
    let more = one_more_write w s k c.0 (open_is w s k c.0 c.1) c.2 in
    let new = appended w d s k lid toid shape can in
    let home : (plan_of w.workload s).home ≡ d = can.0.home in
    elim (cases_eq d g) [
      | inl here ↦
          let grown : count_of (log_of (after w (Append d s k lid toid)) g) g ≡ count_of (log_of w g) g + 1 =
          subst (λ (x : ℕ). count_of (log_of (after w (Append d s k lid toid)) x) x ≡ count_of (log_of w x) x + 1) here
          (ap (λ xs. count_of xs d) new.last ∙ count_of-push_own (log_of w d) (sealed new.draft d toid)) in
          let done : done_by w.workload g s st ≡ done_by w.workload g s (standing_of w s) + 1 =
          done_at_home w.workload g s st (home ∙ here) ∙ more ∙ ap (λ n. n + 1) (sym (done_at_home w.workload g s (standing_of w s) (home ∙ here))) in
          omega (arith, h g, grown, answered_with w g s 1 st can.0.there done)
      | inr other ↦
          let kept : count_of (log_of (after w (Append d s k lid toid)) g) g ≡ count_of (log_of w g) g =
          ap (λ xs. count_of xs g) (get_or-set_other w.logs d g (log_of w d ++ option_to_list (written w s k d toid)) [] (λ same. other (sym same))) in
          let elsewhere : (plan_of w.workload s).home ≢ g = λ same. other (sym home ∙ same) in
          let done : done_by w.workload g s st ≡ done_by w.workload g s (standing_of w s) + 0 =
          done_elsewhere w.workload g s st elsewhere ∙ omega (arith, done_elsewhere w.workload g s (standing_of w s) elsewhere) in
          omega (arith, h g, kept, answered_with w g s 0 st can.0.there done)
    ]

-- what is added is of another host
pub added_from_elsewhere : (w : World) (d h t : ℕ) → ArePendingSound w → Contains (pending_of w d) (h, t) → h ≢ d
added_from_elsewhere w d h t sound waits same = omega (arith, (sound.held d h t waits).counted, sound.unknown d h t waits, ap (λ (x : ℕ). count_of (log_of w x) h) same)

adds_answer : (w : World) (d lid host t : ℕ) → EachLogIsCausal w → ArePendingSound w → AreWritesAnswered w → CanHappen w (Add d lid host t) → AreWritesAnswered (after w (Add d lid host t))
adds_answer w d lid host t causal pending h can g =
    let new = IsSomeAnd_is (record_of w host t) (IsReady (log_of w d)) can.1.1.1.0 in
    let name = nth_of_is (log_of w host) host t new.0 (causal host) new.1 in
    let elsewhere : host ≢ d = added_from_elsewhere w d host t pending can.1.0 in
    elim (get_or-set_cases w.logs d g (log_of w d ++ option_to_list (record_of w host t)) []) [
      | inl here ↦
          let of_other : new.0.host ≢ g = λ same. elsewhere (sym name.0 ∙ same ∙ here.0) in
          let kept : count_of (log_of w d ++ new.0 ∷ []) g ≡ count_of (log_of w d) g = count_of-push_other (log_of w d) new.0 g of_other in
          ap (λ xs. count_of xs g) here.2 ∙ ap (λ o. count_of (log_of w d ++ option_to_list o) g) new.1 ∙ kept ∙ ap (λ (x : ℕ). count_of (log_of w x) g) (sym here.0) ∙ h g
      | inr same ↦ ap (λ xs. count_of xs g) same ∙ h g
    ]

pub answered_kept : (w : World) (e : Event) → IsShaped w → EachLogIsCausal w → ArePendingSound w → AreWritesAnswered w → CanHappen w e → AreWritesAnswered (after w e)
answered_kept w (Submit s k) shape causal pending h can = submits_answer w s k h can
answered_kept w (Append d s k lid toid) shape causal pending h can = appends_answer w d s k lid toid shape h can
answered_kept w (Receive d from table names) shape causal pending h can = h
answered_kept w (Add d lid host t) shape causal pending h can = adds_answer w d lid host t causal pending h can
answered_kept w (Learn d row) shape causal pending h can = h
answered_kept w (Reply d s k at answer) shape causal pending h can = replies_answer w d s k at answer h can
answered_kept w (Collect d p) shape causal pending h can = h
