-- Every write that is answered has its record in the log of its home.
use Rattle.std.proofs.Common.{◌≡◌, ◌⊎◌, ℕ, ◌+◌, ◌<◌, ◌≤◌, true, false, [], ◌∷◌, ◌++◌, length, get_or, set, max, Some, slice_get, ap, sym, subst, ◌∙◌, inl, inr, arith, Contains, option_to_list, get_or-set_same}
use Rattle.std.proofs.lemmas.Bool.{cases_lt, true≢false}
use Rattle.std.proofs.lemmas.Option.{same_Some}
use Rattle.std.proofs.lemmas.List.{get_or-map, get_or_past, length-map}
use Rattle.causal_deps.specs.Counts.{raised}
use Rattle.causal_deps.proofs.Lists.{get_or-set_cases, slice_get_at_end, Contains-slice_get}
use Rattle.abstract_log.specs.declared.answer.Answer.{Answer}
use Rattle.abstract_log.specs.declared.command.Command.{Command}
use Rattle.abstract_log.specs.declared.command.Workload.{Workload}
use Rattle.abstract_log.specs.declared.event.Event.{Event}
use Rattle.abstract_log.specs.declared.event.Event.TheVariants.{Submit, Append, Receive, Add, Learn, Reply, Collect}
use Rattle.abstract_log.specs.declared.world.World.{World}
use Rattle.abstract_log.specs.declared.world.Standing.{Standing}
use Rattle.abstract_log.specs.Answers.{places_in, past_with}
use Rattle.abstract_log.specs.Commands.{is_write, no_plan}
use Rattle.abstract_log.specs.Worlds.{log_of, standing_of, plan_of, open_command, nowhere, first_standing, start}
use Rattle.abstract_log.specs.Steps.{CanHappen, after, written}
use Rattle.abstract_log.specs.Shapes.{IsShaped}
use Rattle.abstract_log.proofs.Writing.{IsSomeAnd_is}
use Rattle.log_laws.specs.Laws.{EachLogIsCausal}
use Rattle.log_laws.specs.Lawful.{HasRecordOf, HasRecordsOfAnswered}
use Rattle.log_laws.proofs.Growth.{Grows, grows}
use Rattle.log_laws.proofs.LawsLemmas.{Contains-grows}
use Rattle.log_laws.proofs.SessionsLemmas.{IsOpen, open_is, home_within}
use Rattle.log_laws.proofs.WrittenLemmas.{new_record}

nothing_answered : (load : Workload) (s : ℕ) → (standing_of (start load) s).answered ≡ 0
nothing_answered load s = elim (cases_lt s (length load.sessions)) [
  | inl there ↦ ap (λ (x : Standing). x.answered) (get_or-map (λ _. first_standing load.dcs) load.sessions s no_plan nowhere there)
  | inr past ↦ ap (λ (x : Standing). x.answered) (get_or_past (start load).sessions s nowhere (omega (arith, length-map load.sessions (λ _. first_standing load.dcs))))
]

pub none_present : (load : Workload) → HasRecordsOfAnswered (start load)
none_present load s k c done at writes = absurd (omega (arith, done, nothing_answered load s))

record-grows : (w : World) (e : Event) (d s k : ℕ) → Grows w e d → HasRecordOf (log_of w d) s k → HasRecordOf (log_of (after w e) d) s k
record-grows w e d s k g h = record { rec = h.rec; there = Contains-grows w e d h.rec g h.there; session = h.session; index = h.index }

-- a command that is answered after one standing went on was answered, or it is the next one of that session
was_answered : (w : World) (s : ℕ) (st : Standing) (i k : ℕ) → st.answered ≤ (standing_of w s).answered + 1 → k < (get_or (set w.sessions s st) i nowhere).answered
    → (k < (standing_of w i).answered) ⊎ ((i ≡ s) × (k ≡ (standing_of w s).answered) × (k < st.answered))
was_answered w s st i k next done = elim (get_or-set_cases w.sessions s i st nowhere) [
  | inl here ↦
      let within : k < st.answered = omega (arith, done, ap (λ (x : Standing). x.answered) here.2) in
      elim (cases_lt k (standing_of w s).answered) [
        | inl before ↦ inl (omega (arith, before, ap (λ (x : ℕ). (standing_of w x).answered) here.0))
        | inr now ↦ inr (here.0, omega (arith, within, next), within)
      ]
  | inr same ↦ inl (omega (arith, done, ap (λ (x : Standing). x.answered) same))
]

submits_present : (w : World) (s k : ℕ) → HasRecordsOfAnswered w → HasRecordsOfAnswered (after w (Submit s k))
submits_present w s k h i n c done at writes = elim (was_answered w s (record (standing_of w s) { begun = true }) i n (omega arith) done) [
  | inl before ↦ h i n c before at writes
  | inr now ↦ absurd (omega (arith, now.1, now.2))
]

-- the open command is the one that is answered next
open_command_is : (w : World) (s k n : ℕ) (c q : Command) → IsOpen w s k c → n ≡ (standing_of w s).answered → slice_get (plan_of w.workload s).commands n ≡ Some q → c ≡ q
open_command_is w s k n c q open_at same at = same_Some c q (sym open_at.is ∙ ap (λ (x : ℕ). slice_get (plan_of w.workload s).commands x) (sym same) ∙ at)

replies_present : (w : World) (d s k at : ℕ) (answer : Answer) → HasRecordsOfAnswered w → CanHappen w (Reply d s k at answer) → HasRecordsOfAnswered (after w (Reply d s k at answer))
replies_present w d s k at answer h can i n q done is writes =
    let st : Standing = record { answered = k; begun = false; past = past_with (standing_of w s).past (places_in answer); floor = at } in
    let c = IsSomeAnd_is (open_command w s k) (λ c. is_write c ≡ false) can.1.0 in
    let open_at : IsOpen w s k c.0 = open_is w s k c.0 c.1 in
    elim (was_answered w s st i n (omega (arith, open_at.next)) done) [
      | inl before ↦ h i n q before is writes
      | inr now ↦
          let same : c.0 ≡ q = open_command_is w s k n c.0 q open_at now.1 (ap (λ (x : ℕ). slice_get (plan_of w.workload x).commands n) (sym now.0) ∙ is) in
          absurd (true≢false (sym writes ∙ ap is_write (sym same) ∙ c.2))
    ]

appends_present : (w : World) (d s k lid toid : ℕ) → IsShaped w → EachLogIsCausal w → HasRecordsOfAnswered w → CanHappen w (Append d s k lid toid) → HasRecordsOfAnswered (after w (Append d s k lid toid))
appends_present w d s k lid toid shape causal h can i n q done is writes =
    let e : Event = Append d s k lid toid in
    let st : Standing = record { answered = k; begun = false; past = raised (standing_of w s).past d toid; floor = max (standing_of w s).floor lid } in
    let new = new_record w d s k lid toid shape can in
    let home : ℕ → ℕ = λ j. (plan_of w.workload j).home in
    elim (was_answered w s st i n (omega (arith, new.1.next)) done) [
      | inl before ↦ record-grows w e (home i) i (n + 1) (grows w e (home i) causal can) (h i n q before is writes)
      | inr now ↦
          let last : log_of (after w e) d ≡ log_of w d ++ new.0 ∷ [] =
          get_or-set_same w.logs d (log_of w d ++ option_to_list (written w s k d toid)) [] (omega (arith, home_within w s d shape can.0, shape.logs))
          ∙ ap (λ o. log_of w d ++ option_to_list o) new.1.is in
          let at_end : slice_get (log_of (after w e) d) (length (log_of w d)) ≡ Some new.0 = ap (λ xs. slice_get xs (length (log_of w d))) last ∙ slice_get_at_end (log_of w d) new.0 in
          let at_home : home i ≡ d = ap home now.0 ∙ can.0.home in
          record {
            rec = new.0;
            there = subst (λ (x : ℕ). Contains (log_of (after w e) x) new.0) (sym at_home) (Contains-slice_get (log_of (after w e) d) (length (log_of w d)) new.0 at_end);
            session = new.1.session ∙ sym now.0;
            index = omega (arith, new.1.index, new.1.next, now.1);
          }
    ]

adds_present : (w : World) (d lid host t : ℕ) → EachLogIsCausal w → HasRecordsOfAnswered w → CanHappen w (Add d lid host t) → HasRecordsOfAnswered (after w (Add d lid host t))
adds_present w d lid host t causal h can i n q done is writes =
    let e : Event = Add d lid host t in
    record-grows w e (plan_of w.workload i).home i (n + 1) (grows w e (plan_of w.workload i).home causal can) (h i n q done is writes)

pub present_kept : (w : World) (e : Event) → IsShaped w → EachLogIsCausal w → HasRecordsOfAnswered w → CanHappen w e → HasRecordsOfAnswered (after w e)
present_kept w (Submit s k) shape causal h can = submits_present w s k h
present_kept w (Append d s k lid toid) shape causal h can = appends_present w d s k lid toid shape causal h can
present_kept w (Receive d from table names) shape causal h can = h
present_kept w (Add d lid host t) shape causal h can = adds_present w d lid host t causal h can
present_kept w (Learn d row) shape causal h can = h
present_kept w (Reply d s k at answer) shape causal h can = replies_present w d s k at answer h can
present_kept w (Collect d p) shape causal h can = h
