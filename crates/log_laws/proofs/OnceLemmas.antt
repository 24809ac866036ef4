-- A command writes one record, when it is answered.
use Rattle.std.proofs.Common.{◌≡◌, ℕ, ◌≤◌, true, false, List, [], get_or, set, max, Option, Some, slice_get, refl, ap, sym, subst, ◌∙◌, inl, inr, arith, All, get_or-set_same}
use Rattle.std.proofs.lemmas.Option.{same_Some}
use Rattle.std.proofs.lemmas.List.Elements.{All-nil, All-weaker}
use Rattle.causal_deps.specs.declared.record.Record.{Record}
use Rattle.causal_deps.specs.Counts.{raised}
use Rattle.causal_deps.proofs.Lists.{get_or-set_cases}
use Rattle.causal_deps.proofs.LogsLemmas.{nth_of_is, nth_of_place, names_once}
use Rattle.abstract_log.specs.declared.command.Workload.{Workload}
use Rattle.abstract_log.specs.declared.event.Event.{Event}
use Rattle.abstract_log.specs.declared.event.Event.TheVariants.{Submit, Append, Receive, Add, Learn, Reply, Collect}
use Rattle.abstract_log.specs.declared.world.World.{World}
use Rattle.abstract_log.specs.declared.world.Standing.{Standing}
use Rattle.abstract_log.specs.Answers.{places_in, past_with}
use Rattle.abstract_log.specs.Commands.{is_write}
use Rattle.abstract_log.specs.Worlds.{log_of, record_of, standing_of, plan_of, open_command, nowhere, start}
use Rattle.abstract_log.specs.Steps.{CanHappen, after, written}
use Rattle.abstract_log.specs.Shapes.{IsShaped}
use Rattle.abstract_log.proofs.Writing.{IsSomeAnd_is}
use Rattle.abstract_log.proofs.ShapesLemmas.{blank_at}
use Rattle.log_laws.specs.Laws.{EachLogIsCausal, HasOneRecordForEachName, ArePendingSound}
use Rattle.log_laws.specs.Records.{IsWritten}
use Rattle.log_laws.specs.Lawful.{AreAllWritten, AreCommandsAnswered, IsOneForEachCommand}
use Rattle.log_laws.proofs.Places.{All-at_place}
use Rattle.log_laws.proofs.SessionsLemmas.{IsOpen, open_is}
use Rattle.log_laws.proofs.WrittenLemmas.{place_cases, logs_with_all, IsNew, new_record, same_option, added_all}
use Rattle.log_laws.proofs.AnsweredLemmas.{added_from_elsewhere}

-- the command of a record is answered in a list of standings
abbrev IsDone : List Standing → Record → Type 0
IsDone sts r = r.index ≤ (get_or sts r.session nowhere).answered

-- one standing goes on
still_done : (sts : List Standing) (s : ℕ) (st : Standing) → (get_or sts s nowhere).answered ≤ st.answered → (r : Record) → IsDone sts r → IsDone (set sts s st) r
still_done sts s st more r h = elim (get_or-set_cases sts s r.session st nowhere) [
  | inl here ↦ omega (arith, h, more, ap (λ (x : Standing). x.answered) here.2, ap (λ (x : ℕ). (get_or sts x nowhere).answered) here.0)
  | inr same ↦ omega (arith, h, ap (λ (x : Standing). x.answered) same)
]

all_still_done : (w : World) (s : ℕ) (st : Standing) → (standing_of w s).answered ≤ st.answered → AreCommandsAnswered w → (d : ℕ) → All (IsDone (set w.sessions s st)) (log_of w d)
all_still_done w s st more h d = All-weaker (IsDone w.sessions) (IsDone (set w.sessions s st)) (still_done w.sessions s st more) (log_of w d) (h d)

pub none_done : (load : Workload) → AreCommandsAnswered (start load)
none_done load d = let P : Record → Type 0 = IsDone (start load).sessions in subst (λ (xs : List Record). All P xs) (sym (blank_at load.dcs d [])) (All-nil P)

appends_done : (w : World) (d s k lid toid : ℕ) → IsShaped w → AreCommandsAnswered w → CanHappen w (Append d s k lid toid) → AreCommandsAnswered (after w (Append d s k lid toid))
appends_done w d s k lid toid shape h can =
    let st : Standing = record { answered = k; begun = false; past = raised (standing_of w s).past d toid; floor = max (standing_of w s).floor lid } in
    let new = new_record w d s k lid toid shape can in
    let now : (get_or (set w.sessions s st) s nowhere).answered ≡ k = ap (λ (x : Standing). x.answered) (get_or-set_same w.sessions s st nowhere can.0.there) in
    let done : IsDone (set w.sessions s st) new.0 = omega (arith, new.1.index, now, ap (λ (x : ℕ). (get_or (set w.sessions s st) x nowhere).answered) new.1.session) in
    logs_with_all (IsDone (set w.sessions s st)) w d (written w s k d toid) (all_still_done w s st (omega (arith, new.1.next)) h)
    (λ q is. subst (IsDone (set w.sessions s st)) (same_option (written w s k d toid) new.0 q new.1.is is) done)

pub done_kept : (w : World) (e : Event) → IsShaped w → AreCommandsAnswered w → CanHappen w e → AreCommandsAnswered (after w e)
done_kept w (Submit s k) shape h can = all_still_done w s (record (standing_of w s) { begun = true }) (omega arith) h
done_kept w (Append d s k lid toid) shape h can = appends_done w d s k lid toid shape h can
done_kept w (Receive d from table names) shape h can = h
done_kept w (Add d lid host t) shape h can = logs_with_all (IsDone w.sessions) w d (record_of w host t) h (added_all (IsDone w.sessions) w d lid host t h)
done_kept w (Learn d row) shape h can = h
done_kept w (Reply d s k at answer) shape h can =
    let c = IsSomeAnd_is (open_command w s k) (λ c. is_write c ≡ false) can.1.0 in
    let open_at : IsOpen w s k c.0 = open_is w s k c.0 c.1 in
    all_still_done w s (record { answered = k; begun = false; past = past_with (standing_of w s).past (places_in answer); floor = at }) (omega (arith, open_at.next)) h
done_kept w (Collect d p) shape h can = h

-- a command writes one record in the log of its home
abbrev pub IsOnceAtHome : World → Type 0
IsOnceAtHome w = (d j k : ℕ) (q r : Record) → slice_get (log_of w d) j ≡ Some q → slice_get (log_of w d) k ≡ Some r → q.host ≡ d → r.host ≡ d → q.session ≡ r.session → q.index ≡ r.index → j ≡ k

pub none_twice : (load : Workload) → IsOnceAtHome (start load)
none_twice load d j k q r at_j at_k host_q host_r session index = absurd (none (sym (ap (λ xs. slice_get xs j) (blank_at load.dcs d [])) ∙ at_j))
  where
    none : slice_get [] j ≡ Some q → ⊥
    none h = cc

-- the record of the open write is of no command with a record
is_newer : (w : World) (d s k toid j : ℕ) (q r : Record) → AreCommandsAnswered w → IsNew w s k d toid r → slice_get (log_of w d) j ≡ Some q → q.session ≡ r.session → q.index ≡ r.index → ⊥
is_newer w d s k toid j q r done new at session index = omega (
  arith,
  All-at_place (IsDone w.sessions) (log_of w d) j q (done d) at,
  new.index,
  new.next,
  index,
  ap (λ (x : ℕ). (standing_of w x).answered) (session ∙ new.session),
)

appends_once : (w : World) (d s k lid toid : ℕ) → IsShaped w → AreCommandsAnswered w → IsOnceAtHome w → CanHappen w (Append d s k lid toid) → IsOnceAtHome (after w (Append d s k lid toid))
appends_once w d s k lid toid shape done h can i a b q r at_a at_b host_q host_r session index =
    let o : Option Record = written w s k d toid in
    let new = new_record w d s k lid toid shape can in
    let IsNewOne : Record → Type 0 = IsNew w s k d toid in
    let is_new = λ (x : Record) (is : o ≡ Some x). subst IsNewOne (same_option o new.0 x new.1.is is) new.1 in
    elim (place_cases w d o i a q at_a) [
      | inl old_q ↦ elim (place_cases w d o i b r at_b) [
        | inl old_r ↦ h i a b q r old_q old_r host_q host_r session index
        | inr new_r ↦ absurd (is_newer w d s k toid a q r done (is_new r new_r.2) (ap (λ (x : ℕ). slice_get (log_of w x) a) (sym new_r.0) ∙ old_q) session index)
      ]
      | inr new_q ↦ elim (place_cases w d o i b r at_b) [
        | inl old_r ↦ absurd (is_newer w d s k toid b r q done (is_new q new_q.2) (ap (λ (x : ℕ). slice_get (log_of w x) b) (sym new_q.0) ∙ old_r) (sym session) (sym index))
        | inr new_r ↦ new_q.1 ∙ sym new_r.1
      ]
    ]

adds_once : (w : World) (d lid host t : ℕ) → EachLogIsCausal w → ArePendingSound w → IsOnceAtHome w → CanHappen w (Add d lid host t) → IsOnceAtHome (after w (Add d lid host t))
adds_once w d lid host t causal pending h can i a b q r at_a at_b host_q host_r session index =
    let o : Option Record = record_of w host t in
    let not_own = λ (x : Record) (is : o ≡ Some x) (here : i ≡ d) (own : x.host ≡ i).
    added_from_elsewhere w d host t pending can.1.0 (sym (nth_of_is (log_of w host) host t x (causal host) is).0 ∙ own ∙ here) in
    elim (place_cases w d o i a q at_a) [
      | inl old_q ↦ elim (place_cases w d o i b r at_b) [
        | inl old_r ↦ h i a b q r old_q old_r host_q host_r session index
        | inr new_r ↦ absurd (not_own r new_r.2 new_r.0 host_r)
      ]
      | inr new_q ↦ absurd (not_own q new_q.2 new_q.0 host_q)
    ]

pub once_kept : (w : World) (e : Event) → IsShaped w → EachLogIsCausal w → ArePendingSound w → AreCommandsAnswered w → IsOnceAtHome w → CanHappen w e → IsOnceAtHome (after w e)
once_kept w (Submit s k) shape causal pending done h can = h
once_kept w (Append d s k lid toid) shape causal pending done h can = appends_once w d s k lid toid shape done h can
once_kept w (Receive d from table names) shape causal pending done h can = h
once_kept w (Add d lid host t) shape causal pending done h can = adds_once w d lid host t causal pending h can
once_kept w (Learn d row) shape causal pending done h can = h
once_kept w (Reply d s k at answer) shape causal pending done h can = h
once_kept w (Collect d p) shape causal pending done h can = h

-- two records of a log with the same session and index are one, since they are at their home
pub one_for_each_command : (w : World) → EachLogIsCausal w → HasOneRecordForEachName w → AreAllWritten w → IsOnceAtHome w → IsOneForEachCommand w
one_for_each_command w causal one written once d j k q r at_j at_k session index =
    let of_q = All-at_place (IsWritten w.workload) (log_of w d) j q (written d) at_j in
    let of_r = All-at_place (IsWritten w.workload) (log_of w d) k r (written d) at_k in
    let host : q.host ≡ r.host = sym of_q.home ∙ ap (λ (x : ℕ). (plan_of w.workload x).home) session ∙ of_r.home in
    let own_q = nth_of_place (log_of w q.host) q.host q.toid q (one d j q at_j) in
    let own_r = nth_of_place (log_of w r.host) r.host r.toid r (one d k r at_k) in
    let at_q : slice_get (log_of w r.host) own_q.0 ≡ Some q = ap (λ (x : ℕ). slice_get (log_of w x) own_q.0) (sym host) ∙ own_q.1 in
    let place : own_q.0 ≡ own_r.0 = once r.host own_q.0 own_r.0 q r at_q own_r.1 host refl session index in
    let same : q ≡ r = same_Some q r (sym at_q ∙ ap (λ (x : ℕ). slice_get (log_of w r.host) x) place ∙ own_r.1) in
    names_once (log_of w d) j k q r (causal d) at_j at_k host (ap (λ (x : Record). x.toid) same)
