-- Every record was written by a command of the workload.
use Rattle.std.proofs.Common.{◌≡◌, ◌⊎◌, ℕ, ◌+◌, ◌-◌, ◌<◌, ◌≤◌, true, List, [], ◌∷◌, ◌++◌, length, get_or, Option, Some, None, slice_get, append-nil, refl, ap, sym, subst, ◌∙◌, inl, inr, arith, All, option_map, option_and_then}
use Rattle.std.proofs.lemmas.Option.{same_Some}
use Rattle.std.proofs.lemmas.List.Elements.{All-nil}
use Rattle.causal_deps.specs.declared.record.Record.{Record}
use Rattle.causal_deps.specs.declared.record.Draft.{Draft}
use Rattle.causal_deps.specs.declared.record.Kind.TheVariants.{Append as AppendKind, Put as PutKind, Del as DelKind}
use Rattle.causal_deps.specs.Logs.{sealed}
use Rattle.causal_deps.proofs.Lists.{get_or-set_cases, slice_get_push_cases}
use Rattle.causal_deps.proofs.LogsLemmas.{nth_of_place}
use Rattle.abstract_log.specs.declared.command.Command.{Command}
use Rattle.abstract_log.specs.declared.command.Command.TheVariants.{Append as AppendCommand, Put, Del, Get, Tx, Read, Last}
use Rattle.abstract_log.specs.declared.command.Workload.{Workload}
use Rattle.abstract_log.specs.declared.event.Event.{Event}
use Rattle.abstract_log.specs.declared.event.Event.TheVariants.{Submit, Append, Receive, Add, Learn, Reply, Collect}
use Rattle.abstract_log.specs.declared.world.World.{World}
use Rattle.abstract_log.specs.Commands.{draft_of, is_write}
use Rattle.abstract_log.specs.Worlds.{log_of, record_of, standing_of, plan_of, open_command, start}
use Rattle.abstract_log.specs.Steps.{CanHappen, after, written, logs_with}
use Rattle.abstract_log.specs.Shapes.{IsShaped}
use Rattle.abstract_log.proofs.Writing.{IsSomeAnd_is}
use Rattle.abstract_log.proofs.ShapesLemmas.{blank_at}
use Rattle.log_laws.specs.Records.{IsWritten}
use Rattle.log_laws.specs.Lawful.{AreAllWritten}
use Rattle.log_laws.proofs.Places.{All-at_place, All-from_places}
use Rattle.log_laws.proofs.SessionsLemmas.{IsOpen, open_is}

-- command k of a session, sealed at its home
module _ (load : Workload) (s k d toid : ℕ) (past : List ℕ) (there : s < length load.sessions) (home : (plan_of load s).home ≡ d) (first : 1 ≤ k) where
  pub sealed_written : (c : Command) → is_write c ≡ true → slice_get (plan_of load s).commands (k - 1) ≡ Some c
      → (r : Record) × (option_map (λ draft. sealed draft d toid) (draft_of s k past c) ≡ Some r) × IsWritten load r × (r.session ≡ s) × (r.index ≡ k)
  sealed_written (AppendCommand tags body) writes at =
      let draft : Draft = record { session = s; index = k; kind = AppendKind; tags = tags; body = body; dep = past } in
      (sealed draft d toid, refl, record { there = there; home = home; first = first; command = AppendCommand tags body; is = at; draft = draft; drafted = refl; sealing = refl }, refl, refl)
  sealed_written (Put key body) writes at =
      let draft : Draft = record { session = s; index = k; kind = PutKind; tags = key ∷ []; body = body; dep = past } in
      (sealed draft d toid, refl, record { there = there; home = home; first = first; command = Put key body; is = at; draft = draft; drafted = refl; sealing = refl }, refl, refl)
  sealed_written (Del key) writes at =
      let draft : Draft = record { session = s; index = k; kind = DelKind; tags = key ∷ []; body = []; dep = past } in
      (sealed draft d toid, refl, record { there = there; home = home; first = first; command = Del key; is = at; draft = draft; drafted = refl; sealing = refl }, refl, refl)
  sealed_written (Get key) writes at = cc
  sealed_written (Tx keys) writes at = cc
  sealed_written (Read lid) writes at = cc
  sealed_written (Last tag n) writes at = cc

pub none_written : (load : Workload) → AreAllWritten (start load)
none_written load d = let P : List Record → Type 0 = λ xs. All (IsWritten load) xs in subst P (sym (blank_at load.dcs d [])) (All-nil (IsWritten load))

-- a record of a log to which one may have gone is an old one, or that one
pub place_cases : (w : World) (d : ℕ) (o : Option Record) (i j : ℕ) (q : Record) → slice_get (get_or (logs_with w d o) i []) j ≡ Some q
    → (slice_get (log_of w i) j ≡ Some q) ⊎ ((i ≡ d) × (j ≡ length (log_of w d)) × (o ≡ Some q))
place_cases w d None i j q is = elim (get_or-set_cases w.logs d i (log_of w d ++ []) []) [
  | inl here ↦ inl (ap (λ (x : ℕ). slice_get (log_of w x) j) here.0 ∙ sym (ap (λ xs. slice_get xs j) (here.2 ∙ append-nil (log_of w d))) ∙ is)
  | inr same ↦ inl (sym (ap (λ xs. slice_get xs j) same) ∙ is)
]
place_cases w d (Some r) i j q is = elim (get_or-set_cases w.logs d i (log_of w d ++ r ∷ []) []) [
  | inl here ↦ elim (slice_get_push_cases (log_of w d) r q j (sym (ap (λ xs. slice_get xs j) here.2) ∙ is)) [
    | inl old ↦ inl (ap (λ (x : ℕ). slice_get (log_of w x) j) here.0 ∙ old)
    | inr new ↦ inr (here.0, new.0, ap (λ x. Some x) new.1)
  ]
  | inr same ↦ inl (sym (ap (λ xs. slice_get xs j) same) ∙ is)
]

-- what holds of all records goes on where it holds of the one that goes last
pub logs_with_all : (P : Record → Type 0) (w : World) (d : ℕ) (o : Option Record) → ((i : ℕ) → All P (log_of w i)) → ((r : Record) → o ≡ Some r → P r)
    → (i : ℕ) → All P (get_or (logs_with w d o) i [])
logs_with_all P w d o others one i = All-from_places P (get_or (logs_with w d o) i []) (λ j q is. elim (place_cases w d o i j q is) [
  | inl old ↦ All-at_place P (log_of w i) j q (others i) old
  | inr new ↦ one q new.2
])

-- the record of an open write: session s and its command k
pub record IsNew (w : World) (s k d toid : ℕ) (r : Record) : Type 0 where
  pub is : written w s k d toid ≡ Some r
  pub written_by : IsWritten w.workload r
  pub session : r.session ≡ s
  pub index : r.index ≡ k
  pub next : (standing_of w s).answered + 1 ≡ k

pub new_record : (w : World) (d s k lid toid : ℕ) → IsShaped w → CanHappen w (Append d s k lid toid) → (r : Record) × IsNew w s k d toid r
new_record w d s k lid toid shape can =
    let c = IsSomeAnd_is (open_command w s k) (λ c. is_write c ≡ true) can.1.0 in
    let open_at : IsOpen w s k c.0 = open_is w s k c.0 c.1 in
    let before : (standing_of w s).answered ≡ k - 1 = omega (arith, open_at.next) in
    let at : slice_get (plan_of w.workload s).commands (k - 1) ≡ Some c.0 = ap (λ n. slice_get (plan_of w.workload s).commands n) (sym before) ∙ open_at.is in
    let new = sealed_written w.workload s k d toid (standing_of w s).past (omega (arith, shape.sessions, can.0.there)) can.0.home (omega (arith, open_at.next)) c.0 c.2 at in (
      new.0,
      record {
        is = ap (λ o. option_map (λ draft. sealed draft d toid) (option_and_then (draft_of s k (standing_of w s).past) o)) c.1 ∙ new.1;
        written_by = new.2;
        session = new.3;
        index = new.4;
        next = open_at.next;
      },
    )

-- two records that are both the one option
pub same_option : (o : Option Record) (q r : Record) → o ≡ Some q → o ≡ Some r → q ≡ r
same_option o q r is_q is_r = same_Some q r (sym is_q ∙ is_r)

-- what holds of all records holds of the one that is added
pub added_all : (P : Record → Type 0) (w : World) (d lid host t : ℕ) → ((i : ℕ) → All P (log_of w i)) → (r : Record) → record_of w host t ≡ Some r → P r
added_all P w d lid host t all r is = let place = nth_of_place (log_of w host) host t r is in All-at_place P (log_of w host) place.0 r (all host) place.1

appends_written : (w : World) (d s k lid toid : ℕ) → IsShaped w → AreAllWritten w → CanHappen w (Append d s k lid toid) → AreAllWritten (after w (Append d s k lid toid))
appends_written w d s k lid toid shape h can =
    let new = new_record w d s k lid toid shape can in
    logs_with_all (IsWritten w.workload) w d (written w s k d toid) h (λ q is. subst (IsWritten w.workload) (same_option (written w s k d toid) new.0 q new.1.is is) new.1.written_by)

adds_written : (w : World) (d lid host t : ℕ) → AreAllWritten w → AreAllWritten (after w (Add d lid host t))
adds_written w d lid host t h = logs_with_all (IsWritten w.workload) w d (record_of w host t) h (added_all (IsWritten w.workload) w d lid host t h)

pub written_kept : (w : World) (e : Event) → IsShaped w → AreAllWritten w → CanHappen w e → AreAllWritten (after w e)
written_kept w (Submit s k) shape h can = h
written_kept w (Append d s k lid toid) shape h can = appends_written w d s k lid toid shape h can
written_kept w (Receive d from table names) shape h can = h
written_kept w (Add d lid host t) shape h can = adds_written w d lid host t h
written_kept w (Learn d row) shape h can = h
written_kept w (Reply d s k at answer) shape h can = h
written_kept w (Collect d p) shape h can = h
