-- How far sessions are: within their plans, and no further than the log of their home.
use Rattle.std.proofs.Common.{◌≡◌, ℕ, ◌+◌, ◌<◌, ◌≤◌, ◌==◌, ◌&&◌, Bool, true, false, if◌then◌else◌, List, [], ◌∷◌, ◌++◌, length, get_or, set, max, Option, Some, None, slice_get, refl, ap, sym, subst, ◌∙◌, inl, inr, arith, eqb-true, option_to_list, get_or-set_same}
use Rattle.std.proofs.lemmas.List.{get_or-map, get_or_past, length-map, length_push}
use Rattle.std.proofs.lemmas.Option.{slice_get_within}
use Rattle.std.proofs.lemmas.Bool.{cases_lt}
use Rattle.causal_deps.specs.declared.record.Record.{Record}
use Rattle.causal_deps.specs.declared.record.Draft.{Draft}
use Rattle.causal_deps.specs.Counts.{raised, AreCovered}
use Rattle.causal_deps.specs.Logs.{count_of, sealed}
use Rattle.causal_deps.proofs.Lists.{get_or-set_cases}
use Rattle.causal_deps.proofs.LogsLemmas.{count_of-push, count_of-push_own}
use Rattle.abstract_log.specs.declared.command.Command.{Command}
use Rattle.abstract_log.specs.declared.command.SessionPlan.{SessionPlan}
use Rattle.abstract_log.specs.declared.command.Workload.{Workload}
use Rattle.abstract_log.specs.declared.answer.Answer.{Answer}
use Rattle.abstract_log.specs.declared.event.Event.{Event}
use Rattle.abstract_log.specs.declared.event.Event.TheVariants.{Submit, Append, Receive, Add, Learn, Reply, Collect}
use Rattle.abstract_log.specs.declared.world.World.{World}
use Rattle.abstract_log.specs.declared.world.Standing.{Standing}
use Rattle.abstract_log.specs.Commands.{is_write}
use Rattle.abstract_log.specs.Worlds.{log_of, standing_of, plan_of, open_command, nowhere, first_standing, start, IsHome}
use Rattle.abstract_log.specs.Answers.{answer_to, places_in, past_with}
use Rattle.abstract_log.specs.Steps.{CanHappen, after, written, logs_with}
use Rattle.abstract_log.specs.Shapes.{IsShaped}
use Rattle.abstract_log.proofs.Writing.{IsSomeAnd_is, written_is}
use Rattle.abstract_log.proofs.ShapesLemmas.{blank_at}
use Rattle.log_laws.specs.Laws.{EachLogIsCausal}
use Rattle.log_laws.specs.Lawful.{IsOnItsWay}
use Rattle.log_laws.proofs.Growth.{Grows, grows, count_of-grows}
use Rattle.log_laws.proofs.Places.{answer_counted, raised_covered, past_with-covered}

-- the open command, by the session's standing
pub record IsOpen (w : World) (s k : ℕ) (c : Command) : Type 0 where
  pub begun : (standing_of w s).begun ≡ true
  pub next : (standing_of w s).answered + 1 ≡ k
  pub is : slice_get (plan_of w.workload s).commands (standing_of w s).answered ≡ Some c

both_tests : (b e : Bool) (o : Option Command) (c : Command) → (if b && e then o else None) ≡ Some c → (b ≡ true) × (e ≡ true) × (o ≡ Some c)
both_tests true true o c is = (refl, refl, is)
both_tests true false o c is = cc
both_tests false true o c is = cc
both_tests false false o c is = cc

pub open_is : (w : World) (s k : ℕ) (c : Command) → open_command w s k ≡ Some c → IsOpen w s k c
open_is w s k c is =
    let parts = both_tests (standing_of w s).begun ((standing_of w s).answered + 1 == k) (slice_get (plan_of w.workload s).commands (standing_of w s).answered) c is in
    record { begun = parts.0; next = eqb-true ((standing_of w s).answered + 1) k parts.1; is = parts.2 }

-- what an open write becomes goes last to the log of its home
pub record IsAppended (w : World) (d s k toid : ℕ) (logs : List (List Record)) : Type 0 where
  pub draft : Draft
  pub is : written w s k d toid ≡ Some (sealed draft d toid)
  pub past : draft.dep ≡ (standing_of w s).past
  pub last : get_or logs d [] ≡ log_of w d ++ sealed draft d toid ∷ []

pub home_within : (w : World) (s d : ℕ) → IsShaped w → IsHome w s d → d < w.workload.dcs
home_within w s d shape home = omega (arith, shape.workload.homes s (omega (arith, shape.sessions, home.there)), home.home)

pub appended : (w : World) (d s k lid toid : ℕ) → IsShaped w → CanHappen w (Append d s k lid toid) → IsAppended w d s k toid (logs_with w d (written w s k d toid))
appended w d s k lid toid shape can =
    let new = written_is w s k d toid can.1.0 in
    record {
      draft = new.0;
      is = new.1;
      past = new.2;
      last = get_or-set_same w.logs d (log_of w d ++ option_to_list (written w s k d toid)) [] (omega (arith, home_within w s d shape can.0, shape.logs))
          ∙ ap (λ o. log_of w d ++ option_to_list o) new.1;
    }

-- the same over a plan, a log and a standing
pub record IsWithin (plan : SessionPlan) (log : List Record) (st : Standing) : Type 0 where
  pub answered : st.answered ≤ length plan.commands
  pub next : st.begun ≡ true → st.answered < length plan.commands
  pub seen : AreCovered st.past (count_of log)
  pub floor : st.floor ≤ length log

abbrev pub AreWithin : World → Type 0
AreWithin w = (s : ℕ) → IsWithin (plan_of w.workload s) (log_of w (plan_of w.workload s).home) (standing_of w s)

pub on_its_way : (w : World) → AreWithin w → (s : ℕ) → IsOnItsWay w s
on_its_way w h s = record { answered = (h s).answered; next = (h s).next; seen = (h s).seen; floor = (h s).floor }

length-grows : (w : World) (e : Event) (d : ℕ) → Grows w e d → length (log_of w d) ≤ length (log_of (after w e) d)
length-grows w e d (inl same) = omega (arith, ap (λ xs. length xs) same)
length-grows w e d (inr (r, g)) = omega (arith, ap (λ xs. length xs) g.last, length_push (log_of w d) r)

within_grown : (w : World) (e : Event) (d : ℕ) (plan : SessionPlan) (st : Standing) → Grows w e d → IsWithin plan (log_of w d) st → IsWithin plan (log_of (after w e) d) st
within_grown w e d plan st g h = record {
  answered = h.answered;
  next = h.next;
  seen = λ x. omega (arith, h.seen x, count_of-grows w e d x g);
  floor = omega (arith, h.floor, length-grows w e d g);
}

-- one standing changes
standings_with : (w : World) (logs : List (List Record)) (s : ℕ) (st : Standing)
    → ((i : ℕ) → IsWithin (plan_of w.workload i) (get_or logs (plan_of w.workload i).home []) (standing_of w i))
    → IsWithin (plan_of w.workload s) (get_or logs (plan_of w.workload s).home []) st
    → (i : ℕ) → IsWithin (plan_of w.workload i) (get_or logs (plan_of w.workload i).home []) (get_or (set w.sessions s st) i nowhere)
standings_with w logs s st others one i =
    let At : ℕ → Standing → Type 0 = λ j x. IsWithin (plan_of w.workload j) (get_or logs (plan_of w.workload j).home []) x in
    elim (get_or-set_cases w.sessions s i st nowhere) [
      | inl here ↦ subst (At i) (sym here.2) (subst (λ (j : ℕ). At j st) (sym here.0) one)
      | inr same ↦ subst (At i) (sym same) (others i)
    ]

begun_is_not : false ≡ true → ⊥
begun_is_not is = cc

pub first_within : (load : Workload) → AreWithin (start load)
first_within load s =
    let At : Standing → Type 0 = λ x. IsWithin (plan_of load s) (log_of (start load) (plan_of load s).home) x in
    let blank : (st : Standing) → st.answered ≡ 0 → st.begun ≡ false → ((g : ℕ) → get_or st.past g 0 ≡ 0) → st.floor ≡ 0 → At st = λ st answered begun past floor. record {
      answered = omega (arith, answered);
      next = λ is. absurd (begun_is_not (sym begun ∙ is));
      seen = λ g. omega (arith, past g);
      floor = omega (arith, floor);
    } in
    elim (cases_lt s (length load.sessions)) [
      | inl there ↦ subst At (sym (get_or-map (λ _. first_standing load.dcs) load.sessions s (record { home = 0; commands = [] }) nowhere there))
          (blank (first_standing load.dcs) refl refl (λ g. blank_at load.dcs g 0) refl)
      | inr past ↦ subst At (sym (get_or_past (start load).sessions s nowhere (omega (arith, length-map load.sessions (λ _. first_standing load.dcs)))))
          (blank nowhere refl refl (λ g. refl) refl)
    ]

submits : (w : World) (s k : ℕ) → AreWithin w → CanHappen w (Submit s k) → AreWithin (after w (Submit s k))
submits w s k h can = standings_with w w.logs s (record (standing_of w s) { begun = true }) h (record {
  answered = (h s).answered;
  next = λ _. omega (arith, can.1.1.0.0, can.1.1.0.1);
  seen = (h s).seen;
  floor = (h s).floor;
})

appends_within : (w : World) (d s k lid toid : ℕ) → IsShaped w → EachLogIsCausal w → AreWithin w → CanHappen w (Append d s k lid toid) → AreWithin (after w (Append d s k lid toid))
appends_within w d s k lid toid shape causal h can =
    let e : Event = Append d s k lid toid in
    let logs : List (List Record) = logs_with w d (written w s k d toid) in
    let st : Standing = record { answered = k; begun = false; past = raised (standing_of w s).past d toid; floor = max (standing_of w s).floor lid } in
    let c = IsSomeAnd_is (open_command w s k) (λ c. is_write c ≡ true) can.1.0 in
    let open_at : IsOpen w s k c.0 = open_is w s k c.0 c.1 in
    let new = appended w d s k lid toid shape can in
    let r : Record = sealed new.draft d toid in
    let grown : count_of (log_of w d ++ r ∷ []) d ≡ count_of (log_of w d) d + 1 = count_of-push_own (log_of w d) r in
    let at_d : IsWithin (plan_of w.workload s) (log_of w d ++ r ∷ []) st = record {
      answered = omega (arith, slice_get_within (plan_of w.workload s).commands (standing_of w s).answered c.0 open_at.is, open_at.next);
      next = λ is. absurd (begun_is_not is);
      seen = raised_covered (standing_of w s).past d toid (count_of (log_of w d ++ r ∷ [])) (λ g. omega (arith, can.1.1.1.1.0 g, count_of-push (log_of w d) r g)) (omega (arith, can.1.1.1.0, grown));
      floor = omega (arith, (h s).floor, ap (λ (j : ℕ). length (log_of w j)) can.0.home, can.1.1.0, length_push (log_of w d) r);
    } in
    let now : IsWithin (plan_of w.workload s) (get_or logs d []) st = subst (λ (xs : List Record). IsWithin (plan_of w.workload s) xs st) (sym new.last) at_d in
    standings_with w logs s st (λ i. within_grown w e (plan_of w.workload i).home (plan_of w.workload i) (standing_of w i) (grows w e (plan_of w.workload i).home causal can) (h i))
    (subst (λ (j : ℕ). IsWithin (plan_of w.workload s) (get_or logs j []) st) (sym can.0.home) now)

replies_within : (w : World) (d s k at : ℕ) (answer : Answer) → EachLogIsCausal w → AreWithin w → CanHappen w (Reply d s k at answer) → AreWithin (after w (Reply d s k at answer))
replies_within w d s k at answer causal h can =
    let st : Standing = record { answered = k; begun = false; past = past_with (standing_of w s).past (places_in answer); floor = at } in
    let c = IsSomeAnd_is (open_command w s k) (λ c. answer_to w d c at ≡ Some answer) can.1.1.1.0 in
    let open_at : IsOpen w s k c.0 = open_is w s k c.0 c.1 in
    let old : AreCovered (standing_of w s).past (count_of (log_of w d)) = subst (λ (j : ℕ). AreCovered (standing_of w s).past (count_of (log_of w j))) can.0.home (h s).seen in
    let at_d : IsWithin (plan_of w.workload s) (log_of w d) st = record {
      answered = omega (arith, slice_get_within (plan_of w.workload s).commands (standing_of w s).answered c.0 open_at.is, open_at.next);
      next = λ is. absurd (begun_is_not is);
      seen = past_with-covered (standing_of w s).past (places_in answer) (count_of (log_of w d)) old (answer_counted w d c.0 at answer (causal d) c.2);
      floor = can.1.1.0.1;
    } in
    standings_with w w.logs s st h (subst (λ (j : ℕ). IsWithin (plan_of w.workload s) (log_of w j) st) (sym can.0.home) at_d)

pub within_kept : (w : World) (e : Event) → IsShaped w → EachLogIsCausal w → AreWithin w → CanHappen w e → AreWithin (after w e)
within_kept w (Submit s k) shape causal h can = submits w s k h can
within_kept w (Append d s k lid toid) shape causal h can = appends_within w d s k lid toid shape causal h can
within_kept w (Receive d from table names) shape causal h can = h
within_kept w (Add d lid host t) shape causal h can =
    let e : Event = Add d lid host t in
    λ i. within_grown w e (plan_of w.workload i).home (plan_of w.workload i) (standing_of w i) (grows w e (plan_of w.workload i).home causal can) (h i)
within_kept w (Learn d row) shape causal h can = h
within_kept w (Reply d s k at answer) shape causal h can = replies_within w d s k at answer causal h can
within_kept w (Collect d p) shape causal h can = h
