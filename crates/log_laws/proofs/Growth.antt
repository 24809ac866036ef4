-- How an event changes each log: not at all, or by one record at its end.
use Rattle.std.proofs.Common.{◌≡◌, ◌⊎◌, ℕ, ◌+◌, ◌-◌, ◌≤◌, List, [], ◌∷◌, ◌++◌, Some, refl, ap, sym, subst, ◌∙◌, inl, inr, arith, option_to_list, get_or-set_other}
use Rattle.causal_deps.specs.declared.record.Record.{Record}
use Rattle.causal_deps.specs.declared.record.Draft.{Draft}
use Rattle.causal_deps.specs.Counts.{AreCovered}
use Rattle.causal_deps.specs.Logs.{count_of, nth_of, IsReady, sealed}
use Rattle.causal_deps.proofs.Lists.{get_or-set_cases}
use Rattle.causal_deps.proofs.LogsLemmas.{nth_of_is, nth_of-push, count_of-push}
use Rattle.abstract_log.specs.declared.event.Event.{Event}
use Rattle.abstract_log.specs.declared.event.Event.TheVariants.{Submit, Append, Receive, Add, Learn, Reply, Collect}
use Rattle.abstract_log.specs.declared.world.World.{World}
use Rattle.abstract_log.specs.Worlds.{log_of, record_of}
use Rattle.abstract_log.specs.Steps.{CanHappen, after, written}
use Rattle.abstract_log.proofs.Writing.{IsSomeAnd_is, written_is}
use Rattle.log_laws.specs.Laws.{EachLogIsCausal}

-- d's log gains r: it is ready there, and d's own or the record that its host has
pub record Gains (w : World) (e : Event) (d : ℕ) (r : Record) : Type 0 where
  pub last : log_of (after w e) d ≡ log_of w d ++ r ∷ []
  pub ready : IsReady (log_of w d) r
  pub origin : (r.host ≡ d) ⊎ (record_of w r.host r.toid ≡ Some r)

abbrev pub Grows : World → Event → ℕ → Type 0
Grows w e d = (log_of (after w e) d ≡ log_of w d) ⊎ ((r : Record) × Gains w e d r)

sealed_ready : (xs : List Record) (draft : Draft) (d toid : ℕ) → toid ≡ count_of xs d + 1 → AreCovered draft.dep (count_of xs) → IsReady xs (sealed draft d toid)
sealed_ready xs draft d toid next covered = record {
  next = next;
  known = λ g other. omega (arith, get_or-set_other draft.dep d g (toid - 1) 0 other, covered g);
}

appends : (w : World) (d s k lid toid i : ℕ) → CanHappen w (Append d s k lid toid) → Grows w (Append d s k lid toid) i
appends w d s k lid toid i can =
    let new = written_is w s k d toid can.1.0 in
    let covers : AreCovered new.0.dep (count_of (log_of w d)) = let P : List ℕ → Type 0 = λ past. AreCovered past (count_of (log_of w d)) in subst P (sym new.2) can.1.1.1.1.0 in
    elim (get_or-set_cases w.logs d i (log_of w d ++ option_to_list (written w s k d toid)) []) [
      | inl here ↦ inr (
        sealed new.0 d toid,
        record {
          last = here.2 ∙ ap (λ o. log_of w d ++ option_to_list o) new.1 ∙ ap (λ e. log_of w e ++ sealed new.0 d toid ∷ []) (sym here.0);
          ready = let P : ℕ → Type 0 = λ e. IsReady (log_of w e) (sealed new.0 d toid) in subst P (sym here.0) (sealed_ready (log_of w d) new.0 d toid can.1.1.1.0 covers);
          origin = inl (sym here.0);
        },
      )
      | inr same ↦ inl same
    ]

adds : (w : World) (d lid h t i : ℕ) → EachLogIsCausal w → CanHappen w (Add d lid h t) → Grows w (Add d lid h t) i
adds w d lid h t i causal can =
    let new = IsSomeAnd_is (record_of w h t) (IsReady (log_of w d)) can.1.1.1.0 in
    let name = nth_of_is (log_of w h) h t new.0 (causal h) new.1 in
    elim (get_or-set_cases w.logs d i (log_of w d ++ option_to_list (record_of w h t)) []) [
      | inl here ↦ inr (
        new.0,
        record {
          last = here.2 ∙ ap (λ o. log_of w d ++ option_to_list o) new.1 ∙ ap (λ e. log_of w e ++ new.0 ∷ []) (sym here.0);
          ready = let P : ℕ → Type 0 = λ e. IsReady (log_of w e) new.0 in subst P (sym here.0) new.2;
          origin = inr (ap (λ g. record_of w g new.0.toid) name.0 ∙ ap (λ u. record_of w h u) name.1 ∙ new.1);
        },
      )
      | inr same ↦ inl same
    ]

pub grows : (w : World) (e : Event) (i : ℕ) → EachLogIsCausal w → CanHappen w e → Grows w e i
grows w (Submit s k) i causal can = inl refl
grows w (Append d s k lid toid) i causal can = appends w d s k lid toid i can
grows w (Receive d e table names) i causal can = inl refl
grows w (Add d lid h t) i causal can = adds w d lid h t i causal can
grows w (Learn d row) i causal can = inl refl
grows w (Reply d s k at answer) i causal can = inl refl
grows w (Collect d p) i causal can = inl refl

-- counts only grow
pub count_of-grows : (w : World) (e : Event) (d h : ℕ) → Grows w e d → count_of (log_of w d) h ≤ count_of (log_of (after w e) d) h
count_of-grows w e d h (inl same) = omega (arith, ap (λ xs. count_of xs h) same)
count_of-grows w e d h (inr (r, g)) = omega (arith, ap (λ xs. count_of xs h) g.last, count_of-push (log_of w d) r h)

-- a record that its host has stays so
pub record_of-grows : (w : World) (e : Event) (h t : ℕ) (r : Record) → Grows w e h → record_of w h t ≡ Some r → record_of (after w e) h t ≡ Some r
record_of-grows w e h t r (inl same) is = ap (λ xs. nth_of xs h t) same ∙ is
record_of-grows w e h t r (inr (q, g)) is = ap (λ xs. nth_of xs h t) g.last ∙ nth_of-push (log_of w h) q h t r is
