-- The parts of a report, one after another.
use Rattle.std.proofs.Common.{◌≡◌, ℕ, List, [], ◌++◌, length, Option, ap, subst, ◌∙◌}
use Rattle.abstract_log.specs.declared.event.Run.{Run}
use Rattle.abstract_log.specs.declared.script.StageLine.{StageLine}
use Rattle.abstract_log.specs.Runs.{world_of}
use Rattle.abstract_log.specs.declared.left.LeftAt.{LeftAt}
use Rattle.abstract_log.specs.Left.{left_of}
use Rattle.report_text.specs.Lines.{line_text, lines_text}
use Rattle.report_text.specs.Report.{first_lines, workload_lines, stages_lines, trace_lines, datacentres_lines, replies_lines, end_line, full_text}
use Rattle.report_text.proofs.LineLemmas.{joined}

module _ (run : Run) (stages : Option (List StageLine)) (left : List LeftAt) (t0 t1 t2 t3 t4 t5 t6 t7 : List ℕ) (sessions : ℕ) where
  pub full_told : left ≡ left_of (world_of run.workload run.events) → sessions ≡ length run.workload.sessions → t0 ≡ [] → t1 ≡ t0 ++ lines_text (first_lines run.workload.dcs)
      → t2 ≡ t1 ++ lines_text (workload_lines run.workload) → t3 ≡ t2 ++ lines_text (stages_lines stages) → t4 ≡ t3 ++ lines_text (trace_lines run.events)
      → t5 ≡ t4 ++ lines_text (datacentres_lines left) → t6 ≡ t5 ++ lines_text (replies_lines run.events sessions) → t7 ≡ t6 ++ lines_text end_line
      → t7 ≡ full_text run stages
  full_told lefts counted nothing first workload turned trace logs replies end =
      let first_part = first_lines run.workload.dcs in
      let datacentres = datacentres_lines (left_of (world_of run.workload run.events)) in
      let answers = replies_lines run.events (length run.workload.sessions) in
      let told : t5 ≡ t4 ++ lines_text datacentres = logs ∙ ap (λ l. t4 ++ lines_text (datacentres_lines l)) lefts in
      let replied : t6 ≡ t5 ++ lines_text answers = replies ∙ ap (λ n. t5 ++ lines_text (replies_lines run.events n)) counted in
      let upto_2 = joined line_text t0 t1 t2 first_part (workload_lines run.workload) first workload in
      let upto_3 = joined line_text t0 t2 t3 (first_part ++ workload_lines run.workload) (stages_lines stages) upto_2 turned in
      let upto_4 = joined line_text t0 t3 t4 (first_part ++ workload_lines run.workload ++ stages_lines stages) (trace_lines run.events) upto_3 trace in
      let upto_5 = joined line_text t0 t4 t5 (first_part ++ workload_lines run.workload ++ stages_lines stages ++ trace_lines run.events) datacentres upto_4 told in
      let upto_6 = joined line_text t0 t5 t6 (first_part ++ workload_lines run.workload ++ stages_lines stages ++ trace_lines run.events ++ datacentres) answers upto_5 replied in
      let all = joined line_text t0 t6 t7 (first_part ++ workload_lines run.workload ++ stages_lines stages ++ trace_lines run.events ++ datacentres ++ answers) end_line upto_6 end in
      subst (λ (t : List ℕ). t7 ≡ t ++ full_text run stages) nothing all
