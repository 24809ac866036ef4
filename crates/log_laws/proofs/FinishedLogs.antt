-- In a finished world each log has a record for each write of the workload.
use Rattle.std.proofs.Common.{◌≡◌, ℕ, ◌<◌, ◌==◌, if◌then◌else◌, List, length, ap, sym, ◌∙◌, inl, inr, arith, All, true, Some, slice_get, Contains, ◌+◌}
use Rattle.std.proofs.lemmas.Bool.{cases_lt}
use Rattle.std.proofs.lemmas.List.{take_all, get_or_past}
use Rattle.std.proofs.lemmas.Option.{same_Some, slice_get_within, slice_get-get_or}
use Rattle.causal_deps.specs.declared.record.Record.{Record}
use Rattle.causal_deps.specs.Logs.{count_of, HasName}
use Rattle.causal_deps.proofs.Lists.{Contains-slice_get}
use Rattle.causal_deps.proofs.LogsLemmas.{nth_of_is, nth_of_some, nth_of_has, nth_of_place}
use Rattle.abstract_log.specs.declared.command.Command.{Command}
use Rattle.abstract_log.specs.declared.command.SessionPlan.{SessionPlan}
use Rattle.abstract_log.specs.declared.world.World.{World}
use Rattle.abstract_log.specs.Commands.{is_write, no_plan}
use Rattle.abstract_log.specs.Worlds.{log_of, record_of, standing_of, plan_of}
use Rattle.abstract_log.specs.Runs.{IsFinished}
use Rattle.log_laws.specs.Writes.{sum_below, writes_in, writes_at, answered_by, answered_at}
use Rattle.log_laws.specs.Lawful.{HasRecordOf, AreLogsWhole}
use Rattle.log_laws.proofs.Sums.{sum_below-same, sum_by-places}
use Rattle.log_laws.proofs.WriteCounts.{at_home, homes_whole, length_by_hosts}
use Rattle.log_laws.proofs.Places.{All-from_places}
use Rattle.log_laws.proofs.LimitedRuns.{IsKept, host_has_most}

no_command : (k : ℕ) (c : Command) → slice_get no_plan.commands k ≡ Some c → ⊥
no_command k c is = cc

module _ (w : World) (h : IsKept w) (finished : IsFinished w) where
  all_answered : (g : ℕ) → answered_at w g ≡ writes_at w.workload.sessions g
  all_answered g =
      let each : (i : ℕ) → i < length w.sessions → answered_by w g i ≡ at_home (plan_of w.workload i) g = λ i below.
      ap (λ (commands : List Command). if (plan_of w.workload i).home == g then writes_in commands else 0)
      (take_all (standing_of w i).answered (plan_of w.workload i).commands (omega (arith, finished.answered i below))) in
      sum_below-same (answered_by w g) (λ i. at_home (plan_of w.workload i) g) (length w.sessions) each
      ∙ ap (sum_below (λ i. at_home (plan_of w.workload i) g)) h.shape.sessions
      ∙ sym (sum_by-places (λ (plan : SessionPlan). at_home plan g) w.workload.sessions no_plan)

  same_counts : (d g : ℕ) → d < w.workload.dcs → count_of (log_of w d) g ≡ count_of (log_of w g) g
  same_counts d g within = elim (cases_lt 0 (count_of (log_of w g) g)) [
    | inl some ↦ omega (arith, host_has_most w h d g, (finished.complete d g g (count_of (log_of w g) g) within (record { first = omega arith; counted = omega arith })).counted)
    | inr none ↦ omega (arith, host_has_most w h d g)
  ]

  each_host : (d g : ℕ) → d < w.workload.dcs → count_of (log_of w d) g ≡ writes_at w.workload.sessions g
  each_host d g within = same_counts d g within ∙ h.answered g ∙ all_answered g

  -- a log that has the name has the record
  has_record : (d : ℕ) (r : Record) → record_of w r.host r.toid ≡ Some r → HasName (log_of w d) r.host r.toid → Contains (log_of w d) r
  has_record d r ours has =
      let causal = h.steady.lawful.causal in
      let q = nth_of_some (log_of w d) r.host r.toid has in
      let name = nth_of_is (log_of w d) r.host r.toid q.0 (causal d) q.1 in
      let there = nth_of_place (log_of w d) r.host r.toid q.0 q.1 in
      let theirs = h.steady.lawful.one_record d there.0 q.0 there.1 in
      let same : q.0 ≡ r = same_Some q.0 r (sym theirs ∙ ap (λ (x : ℕ). record_of w x q.0.toid) name.0 ∙ ap (λ (t : ℕ). record_of w r.host t) name.1 ∙ ours) in
      Contains-slice_get (log_of w d) there.0 r (there.1 ∙ ap (λ x. Some x) same)

  -- each write has its record in every log
  each_write : (d s k : ℕ) (c : Command) → d < w.workload.dcs → slice_get (plan_of w.workload s).commands k ≡ Some c → is_write c ≡ true → HasRecordOf (log_of w d) s (k + 1)
  each_write d s k c within at writes =
      let there : s < length w.sessions = elim (cases_lt s (length w.workload.sessions)) [
        | inl is_there ↦ omega (arith, h.shape.sessions)
        | inr past ↦ absurd (no_command k c (ap (λ (plan : SessionPlan). slice_get plan.commands k) (sym (get_or_past w.workload.sessions s no_plan (omega arith))) ∙ at))
      ] in
      let done : k < (standing_of w s).answered = omega (arith, finished.answered s there, slice_get_within (plan_of w.workload s).commands k c at) in
      let home : ℕ = (plan_of w.workload s).home in
      let mine = h.present s k c done at writes in
      let place = mine.there in
      let found : slice_get (log_of w home) place.0 ≡ Some mine.rec = slice_get-get_or (log_of w home) place.0 mine.rec place.1 ∙ ap (λ x. Some x) place.2 in
      let ours = h.steady.lawful.one_record home place.0 mine.rec found in
      let named : HasName (log_of w mine.rec.host) mine.rec.host mine.rec.toid = nth_of_has (log_of w mine.rec.host) mine.rec.host mine.rec.toid mine.rec ours in
      record {
        rec = mine.rec;
        there = has_record d mine.rec ours (finished.complete d mine.rec.host mine.rec.host mine.rec.toid within named);
        session = mine.session;
        index = mine.index;
      }

  pub logs_whole : AreLogsWhole w.workload w
  logs_whole = record {
    records = each_write;
    each = each_host;
    all = λ d within.
        let hosts : All (λ (r : Record). r.host < w.workload.dcs) (log_of w d) = All-from_places (λ (r : Record). r.host < w.workload.dcs) (log_of w d) (h.shape.records d).host in
        length_by_hosts w.workload.dcs (log_of w d) hosts
        ∙ sum_below-same (count_of (log_of w d)) (writes_at w.workload.sessions) w.workload.dcs (λ g _. each_host d g within)
        ∙ homes_whole w.workload.sessions w.workload.dcs (λ s there. omega (arith, h.shape.workload.homes s there));
  }
