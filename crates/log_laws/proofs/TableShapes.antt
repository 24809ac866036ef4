-- Every table has a row of entries for each datacentre.
use Rattle.std.proofs.Common.{◌≡◌, ℕ, ◌<◌, List, [], length, get_or, set, replicate, ap, sym, subst, ◌∙◌, inl, inr, length-set}
use Rattle.std.proofs.lemmas.List.{length-replicate, get_or-replicate}
use Rattle.causal_deps.specs.Counts.{IsSquare, greater, greater_rows, raised_row, row_of, zero_table}
use Rattle.causal_deps.proofs.CountsLemmas.{length-greater, length-greater_rows, get_or-greater_rows}
use Rattle.causal_deps.proofs.Lists.{get_or-set_cases}
use Rattle.abstract_log.specs.declared.command.Workload.{Workload}
use Rattle.abstract_log.specs.declared.event.Event.{Event}
use Rattle.abstract_log.specs.declared.event.Event.TheVariants.{Submit, Append, Receive, Add, Learn, Reply, Collect}
use Rattle.abstract_log.specs.declared.world.World.{World}
use Rattle.abstract_log.specs.Worlds.{table_of, start}
use Rattle.abstract_log.specs.Steps.{CanHappen, after}
use Rattle.log_laws.specs.Lawful.{AreTablesSquare}

zeros_square : (n : ℕ) → IsSquare n (zero_table n)
zeros_square n = record {
  rows = length-replicate n (replicate n 0);
  entries = λ k below. ap length (get_or-replicate n k (replicate n 0) [] below) ∙ length-replicate n 0;
}

pub square_at_start : (load : Workload) → AreTablesSquare (start load)
square_at_start load d below = subst (IsSquare load.dcs) (sym (get_or-replicate load.dcs d (zero_table load.dcs) [] below)) (zeros_square load.dcs)

greater_square : (n : ℕ) (t u : List (List ℕ)) → IsSquare n t → IsSquare n u → IsSquare n (greater_rows t u)
greater_square n t u st su = record {
  rows = length-greater_rows t u (st.rows ∙ sym su.rows) ∙ st.rows;
  entries = λ k below. ap length (get_or-greater_rows t u k) ∙ length-greater (row_of t k) (row_of u k) (st.entries k below ∙ sym (su.entries k below)) ∙ st.entries k below;
}

raised_square : (n : ℕ) (t : List (List ℕ)) (i : ℕ) (row : List ℕ) → i < n → length row ≡ n → IsSquare n t → IsSquare n (raised_row t i row)
raised_square n t i row within long s = record {
  rows = length-set t i (greater (row_of t i) row) ∙ s.rows;
  entries = λ k below. elim (get_or-set_cases t i k (greater (row_of t i) row) []) [
    | inl here ↦ ap length here.2 ∙ length-greater (row_of t i) row (s.entries i within ∙ sym long) ∙ s.entries i within
    | inr same ↦ ap length same ∙ s.entries k below
  ];
}

tables_with : (w : World) (i : ℕ) (t : List (List ℕ)) → AreTablesSquare w → IsSquare w.workload.dcs t → (d : ℕ) → d < w.workload.dcs → IsSquare w.workload.dcs (get_or (set w.tables i t) d [])
tables_with w i t h new d below = elim (get_or-set_cases w.tables i d t []) [
  | inl here ↦ subst (IsSquare w.workload.dcs) (sym here.2) new
  | inr same ↦ subst (IsSquare w.workload.dcs) (sym same) (h d below)
]

pub square_kept : (w : World) (e : Event) → AreTablesSquare w → CanHappen w e → AreTablesSquare (after w e)
square_kept w (Submit s k) h can = h
square_kept w (Append d s k lid toid) h can = h
square_kept w (Receive d from table names) h can = tables_with w d (greater_rows (table_of w d) table) h (greater_square w.workload.dcs (table_of w d) table (h d can.0.0) can.1.0)
square_kept w (Add d lid host t) h can = h
square_kept w (Learn d row) h can = tables_with w d (raised_row (table_of w d) d row) h (raised_square w.workload.dcs (table_of w d) d row can.0.0 can.0.1 (h d can.0.0))
square_kept w (Reply d s k at answer) h can = h
square_kept w (Collect d p) h can = h
