-- The laws at every run.
use Rattle.std.proofs.Common.{◌≡◌, ℕ, List, [], ◌∷◌, ◌++◌, inl, inr, ap, sym, ◌∙◌, append-nil, append_assoc}
use Rattle.causal_deps.specs.declared.record.Record.{Record}
use Rattle.abstract_log.specs.declared.command.Workload.{Workload}
use Rattle.abstract_log.specs.declared.event.Event.{Event}
use Rattle.abstract_log.specs.declared.world.World.{World}
use Rattle.abstract_log.specs.Worlds.{log_of, start}
use Rattle.abstract_log.specs.Steps.{after}
use Rattle.abstract_log.specs.Runs.{IsRun, world_of, after_all, CanAllHappen}
use Rattle.log_laws.specs.Laws.{IsOrderly}
use Rattle.log_laws.proofs.Runs.{kept_by_runs}
use Rattle.log_laws.proofs.Growth.{Grows, grows}
use Rattle.log_laws.proofs.LawsLemmas.{lawful_at_start, lawful_kept}

pub lawful : (load : Workload) (events : List Event) → IsRun load events → IsOrderly (world_of load events)
lawful load events run = kept_by_runs IsOrderly lawful_kept (start load) events (lawful_at_start load) run

one_more : (w : World) (e : Event) (d : ℕ) → Grows w e d → (rest : List Record) × (log_of (after w e) d ≡ log_of w d ++ rest)
one_more w e d (inl same) = ([], same ∙ sym (append-nil (log_of w d)))
one_more w e d (inr (r, g)) = (r ∷ [], g.last)

pub all_more : (w : World) (es : List Event) (d : ℕ) → IsOrderly w → CanAllHappen w es → (rest : List Record) × (log_of (after_all w es) d ≡ log_of w d ++ rest)
all_more w [] d h can = ([], sym (append-nil (log_of w d)))
all_more w (e ∷ es) d h can =
    let first = one_more w e d (grows w e d h.causal can.0) in
    let others = all_more (after w e) es d (lawful_kept w e h can.0) can.1 in
    (first.0 ++ others.0, others.1 ∙ ap (λ xs. xs ++ others.0) first.1 ∙ append_assoc (log_of w d) first.0 others.0)
