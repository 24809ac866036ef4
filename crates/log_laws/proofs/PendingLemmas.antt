-- Names that wait: of records that their host has and the datacentre has not.
use Rattle.std.proofs.Common.{◌≡◌, ◌⊎◌, ℕ, zero, ◌+◌, ◌<◌, ◌==◌, ◌&&◌, Bool, true, false, not, if◌then◌else◌, nat_le, List, [], ◌∷◌, ◌++◌, length, get_or, set, refl, ap, sym, subst, ◌∙◌, inl, inr, arith, Contains, leb-false, eq-eqb, true≢false, option_to_list}
use Rattle.std.proofs.lemmas.List.Elements.{All-contains}
use Rattle.std.proofs.lemmas.Bool.{cases_eq, cases_lt}
use Rattle.std.proofs.lemmas.List.{get_or-set_same, length-set, length-replicate}
use Rattle.causal_deps.specs.declared.record.Record.{Record}
use Rattle.causal_deps.specs.Logs.{count_of, HasName, IsReady, sealed}
use Rattle.causal_deps.proofs.Lists.{get_or-set_cases, Contains-there, Contains-filter}
use Rattle.causal_deps.proofs.LogsLemmas.{nth_of_is, nth_of_some, nth_of_has, nth_of_place, count_of-push_own, count_of-push_other}
use Rattle.abstract_log.specs.declared.command.Workload.{Workload}
use Rattle.abstract_log.specs.declared.event.Event.{Event}
use Rattle.abstract_log.specs.declared.event.Event.TheVariants.{Submit, Append, Receive, Add, Learn, Reply, Collect}
use Rattle.abstract_log.specs.declared.world.World.{World}
use Rattle.abstract_log.specs.Worlds.{log_of, pending_of, record_of, start}
use Rattle.abstract_log.specs.Steps.{CanHappen, after, inserted, name_before, names_with, names_without, written}
use Rattle.log_laws.specs.Laws.{EachLogIsCausal, HasOneRecordForEachName, IsOrderly, ArePendingSound}
use Rattle.abstract_log.proofs.Writing.{written_is, IsSomeAnd_is}
use Rattle.abstract_log.proofs.ShapesLemmas.{blank_at}
use Rattle.log_laws.proofs.Growth.{Grows, grows, count_of-grows}
use Rattle.log_laws.proofs.LawsLemmas.{Contains-inserted, lawful_at_start, lawful_kept}
use Rattle.abstract_log.specs.Runs.{IsRun, world_of}
use Rattle.log_laws.proofs.Runs.{kept_by_runs}

-- a name that waits with more was there, or is one of those that the log has not
pub Contains-names_with : (xs : List Record) (names ns : List (ℕ × ℕ)) (m : ℕ × ℕ) → Contains (names_with xs names ns) m
    → Contains names m ⊎ (Contains ns m × (count_of xs m.0 < m.1))
Contains-names_with xs names [] m has = inl has
Contains-names_with xs names (n ∷ ns) m has =
    elim (Contains-names_with xs (if nat_le n.1 (count_of xs n.0) then names else inserted name_before n names) ns m has) [
      | inr new ↦ inr (Contains-there n ns m new.0, new.1)
      | inl old ↦ elim (nat_le n.1 (count_of xs n.0)) as (λ b. nat_le n.1 (count_of xs n.0) ≡ b → Contains (if b then names else inserted name_before n names) m → Contains names m ⊎ (Contains (n ∷ ns) m × (count_of xs m.0 < m.1))) [
        | true ↦ λ known h. inl h
        | false ↦ λ unknown h. elim (Contains-inserted name_before n names m h) [
          | inl here ↦ inr ((zero, omega arith, here), let P : ℕ × ℕ → Type 0 = λ x. count_of xs x.0 < x.1 in subst P here (leb-false n.1 (count_of xs n.0) unknown))
          | inr there ↦ inl there
        ]
      ] refl old
    ]

-- a name that any log has its host's log has too
pub host_has : (w : World) (e h t : ℕ) → EachLogIsCausal w → HasOneRecordForEachName w → HasName (log_of w e) h t → HasName (log_of w h) h t
host_has w e h t causal one has =
    let r = nth_of_some (log_of w e) h t has in
    let name = nth_of_is (log_of w e) h t r.0 (causal e) r.1 in
    let place = nth_of_place (log_of w e) h t r.0 r.1 in
    nth_of_has (log_of w h) h t r.0 (sym (ap (λ g. record_of w g r.0.toid) name.0 ∙ ap (λ u. record_of w h u) name.1) ∙ one e place.0 r.0 place.1)

has-grows : (w : World) (e : Event) (h t : ℕ) → Grows w e h → HasName (log_of w h) h t → HasName (log_of (after w e) h) h t
has-grows w e h t g has = record { first = has.first; counted = omega (arith, has.counted, count_of-grows w e h h g) }

pub pending_at_start : (load : Workload) → ArePendingSound (start load)
pending_at_start load = let P : ℕ × ℕ → List (ℕ × ℕ) → Type 0 = λ m xs. Contains xs m in record {
  held = λ d h t waits. absurd (none (h, t) (subst (P (h, t)) (blank_at load.dcs d []) waits));
  unknown = λ d h t waits. absurd (none (h, t) (subst (P (h, t)) (blank_at load.dcs d []) waits));
}
  where
    none : (m : ℕ × ℕ) → Contains [] m → ⊥
    none m (k, inside, is) = omega arith

-- a name that the log gains is the record's
still_unknown : (xs : List Record) (r : Record) (h t : ℕ) → r.toid ≡ count_of xs r.host + 1 → count_of xs h < t → (h ≡ r.host → t ≡ r.toid → ⊥) → count_of (xs ++ r ∷ []) h < t
still_unknown xs r h t next below differs = elim (cases_eq r.host h) [
  | inr other ↦ omega (arith, count_of-push_other xs r h other)
  | inl same ↦
      let now : count_of (xs ++ r ∷ []) h ≡ count_of xs h + 1 = ap (count_of (xs ++ r ∷ [])) (sym same) ∙ count_of-push_own xs r ∙ ap (λ g. count_of xs g + 1) same in
      elim (cases_lt (count_of xs h + 1) t) [
        | inl above ↦ omega (arith, now)
        | inr not_above ↦ absurd (differs (sym same) (omega (arith, next, ap (count_of xs) same)))
      ]
]

abbrev SameLengths : World → Type 0
SameLengths w = length w.pending ≡ length w.logs

appends_keep : (w : World) (d s k lid toid : ℕ) → EachLogIsCausal w → ArePendingSound w → CanHappen w (Append d s k lid toid) → ArePendingSound (after w (Append d s k lid toid))
appends_keep w d s k lid toid causal h can =
    let e = Append d s k lid toid in
    let new = written_is w s k d toid can.1.0 in
    record {
      held = λ i g t waits. has-grows w e g t (grows w e g causal can) (h.held i g t waits);
      unknown = λ i g t waits. elim (get_or-set_cases w.logs d i (log_of w d ++ option_to_list (written w s k d toid)) []) [
        | inr same ↦ omega (arith, h.unknown i g t waits, ap (λ xs. count_of xs g) same)
        | inl here ↦
            let at_d : count_of (log_of w d) g < t = omega (arith, h.unknown i g t waits, ap (λ j. count_of (log_of w j) g) here.0) in
            let grown = still_unknown (log_of w d) (sealed new.0 d toid) g t can.1.1.1.0 at_d (λ own number. omega (arith, (h.held i g t waits).counted, ap (λ j. count_of (log_of w j) g) own)) in
            omega (arith, ap (λ xs. count_of xs g) here.2, ap (λ o. count_of (log_of w d ++ option_to_list o) g) new.1, grown)
      ];
    }

-- a name that still waits waited before, and is not the one added
was_waiting : (w : World) (d lid host number i g t : ℕ) → Contains (pending_of (after w (Add d lid host number)) i) (g, t)
    → Contains (pending_of w i) (g, t) × (i ≡ d → d < length w.pending → g ≡ host → t ≡ number → ⊥)
was_waiting w d lid host number i g t waits =
    let P : List (ℕ × ℕ) → Type 0 = λ xs. Contains xs (g, t) in
    let test : ℕ × ℕ → Bool = λ n. not ((n.0 == host) && (n.1 == number)) in
    elim (get_or-set_cases w.pending d i (names_without host number (pending_of w d)) []) [
      | inl here ↦
          let kept = Contains-filter test (pending_of w d) (g, t) (subst P here.2 waits) in (
            subst (λ (j : ℕ). P (pending_of w j)) (sym here.0) kept.0,
            λ _ _ same_host same_number. true≢false (sym kept.1 ∙ ap not (ap (λ b. b && (t == number)) (eq-eqb g host same_host) ∙ eq-eqb t number same_number)),
          )
      | inr same ↦ (
        subst P same waits,
        λ at inside same_host same_number.
            let kept = Contains-filter test (pending_of w d) (g, t) (subst P (get_or-set_same w.pending d (names_without host number (pending_of w d)) [] inside)
            (subst (λ (j : ℕ). P (get_or (set w.pending d (names_without host number (pending_of w d))) j [])) at waits)) in
            true≢false (sym kept.1 ∙ ap not (ap (λ b. b && (t == number)) (eq-eqb g host same_host) ∙ eq-eqb t number same_number)),
      )
    ]

adds_keep : (w : World) (d lid host number : ℕ) → SameLengths w → EachLogIsCausal w → ArePendingSound w → CanHappen w (Add d lid host number) → ArePendingSound (after w (Add d lid host number))
adds_keep w d lid host number lengths causal h can =
    let e = Add d lid host number in
    let new = IsSomeAnd_is (record_of w host number) (IsReady (log_of w d)) can.1.1.1.0 in
    let name = nth_of_is (log_of w host) host number new.0 (causal host) new.1 in
    let old = λ (i g t : ℕ) (waits : Contains (pending_of (after w e) i) (g, t)). was_waiting w d lid host number i g t waits in
    record {
      held = λ i g t waits. has-grows w e g t (grows w e g causal can) (h.held i g t (old i g t waits).0);
      unknown = λ i g t waits. elim (get_or-set_cases w.logs d i (log_of w d ++ option_to_list (record_of w host number)) []) [
        | inr same ↦ omega (arith, h.unknown i g t (old i g t waits).0, ap (λ xs. count_of xs g) same)
        | inl here ↦
            let at_d : count_of (log_of w d) g < t = omega (arith, h.unknown i g t (old i g t waits).0, ap (λ j. count_of (log_of w j) g) here.0) in
            let grown = still_unknown (log_of w d) new.0 g t new.2.next at_d (λ own same. (old i g t waits).1 here.0 (omega (arith, lengths, here.1)) (own ∙ name.0) (same ∙ name.1)) in
            omega (arith, ap (λ xs. count_of xs g) here.2, ap (λ o. count_of (log_of w d ++ option_to_list o) g) new.1, grown)
      ];
    }

receives_keep : (w : World) (d from : ℕ) (table : List (List ℕ)) (names : List (ℕ × ℕ)) → EachLogIsCausal w → HasOneRecordForEachName w → ArePendingSound w → CanHappen w (Receive d from table names) → ArePendingSound (after w (Receive d from table names))
receives_keep w d from table names causal one h can =
    let Known : ℕ × ℕ → Type 0 = λ n. HasName (log_of w from) n.0 n.1 in
    let P : ℕ × ℕ → List (ℕ × ℕ) → Type 0 = λ m xs. Contains xs m in
    record {
      held = λ i g t waits. elim (get_or-set_cases w.pending d i (names_with (log_of w d) (pending_of w d) names) []) [
        | inr same ↦ h.held i g t (subst (P (g, t)) same waits)
        | inl here ↦ elim (Contains-names_with (log_of w d) (pending_of w d) names (g, t) (subst (P (g, t)) here.2 waits)) [
          | inl old ↦ h.held d g t old
          | inr new ↦ host_has w from g t causal one (All-contains Known names (g, t) can.1.1.1.0 new.0)
        ]
      ];
      unknown = λ i g t waits. elim (get_or-set_cases w.pending d i (names_with (log_of w d) (pending_of w d) names) []) [
        | inr same ↦ h.unknown i g t (subst (P (g, t)) same waits)
        | inl here ↦ let at_i = ap (λ j. count_of (log_of w j) g) here.0 in elim (Contains-names_with (log_of w d) (pending_of w d) names (g, t) (subst (P (g, t)) here.2 waits)) [
          | inl old ↦ omega (arith, h.unknown d g t old, at_i)
          | inr new ↦ omega (arith, new.1, at_i)
        ]
      ];
    }

pub pending_kept : (w : World) (e : Event) → SameLengths w → EachLogIsCausal w → HasOneRecordForEachName w → ArePendingSound w → CanHappen w e → ArePendingSound (after w e)
pending_kept w (Submit s k) lengths causal one h can = record { held = h.held; unknown = h.unknown }
pending_kept w (Append d s k lid toid) lengths causal one h can = appends_keep w d s k lid toid causal h can
pending_kept w (Receive d from table names) lengths causal one h can = receives_keep w d from table names causal one h can
pending_kept w (Add d lid host number) lengths causal one h can = adds_keep w d lid host number lengths causal h can
pending_kept w (Learn d row) lengths causal one h can = record { held = h.held; unknown = h.unknown }
pending_kept w (Reply d s k at answer) lengths causal one h can = record { held = h.held; unknown = h.unknown }
pending_kept w (Collect d p) lengths causal one h can = record { held = h.held; unknown = h.unknown }

lengths_kept : (w : World) (e : Event) → SameLengths w → SameLengths (after w e)
lengths_kept w (Submit s k) same = same
lengths_kept w (Append d s k lid toid) same = same ∙ sym (length-set w.logs d (log_of w d ++ option_to_list (written w s k d toid)))
lengths_kept w (Receive d from table names) same = length-set w.pending d (names_with (log_of w d) (pending_of w d) names) ∙ same
lengths_kept w (Add d lid host number) same =
    length-set w.pending d (names_without host number (pending_of w d)) ∙ same ∙ sym (length-set w.logs d (log_of w d ++ option_to_list (record_of w host number)))
lengths_kept w (Learn d row) same = same
lengths_kept w (Reply d s k at answer) same = same
lengths_kept w (Collect d p) same = same

-- the laws with the one on names that wait
pub record IsSteady (w : World) : Type 0 where
  pub lawful : IsOrderly w
  pub lengths : SameLengths w
  pub pending : ArePendingSound w

pub steady_at_start : (load : Workload) → IsSteady (start load)
steady_at_start load = let no_log : List Record = [] in let no_names : List (ℕ × ℕ) = [] in
    record { lawful = lawful_at_start load; lengths = length-replicate load.dcs no_names ∙ sym (length-replicate load.dcs no_log); pending = pending_at_start load }

pub steady_kept : (w : World) (e : Event) → IsSteady w → CanHappen w e → IsSteady (after w e)
steady_kept w e h can = record {
  lawful = lawful_kept w e h.lawful can;
  lengths = lengths_kept w e h.lengths;
  pending = pending_kept w e h.lengths h.lawful.causal h.lawful.one_record h.pending can;
}

pub pending_sound : (load : Workload) (events : List Event) → IsRun load events → ArePendingSound (world_of load events)
pending_sound load events run = (kept_by_runs IsSteady steady_kept (start load) events (steady_at_start load) run).pending
