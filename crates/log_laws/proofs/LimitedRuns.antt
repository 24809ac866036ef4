-- The laws that take the shape of the workload, and those that take its limits, at every run. What events keep is one
-- record, `IsKept`; `laws_of_run` is the theorem.
use Rattle.std.proofs.Common.{◌≡◌, ℕ, ◌<◌, ◌≤◌, ◌==◌, Bool, true, false, cond, List, [], ◌∷◌, length, take, refl, ap, sym, subst, ◌∙◌, inl, inr, arith, All, Contains}
use Rattle.std.proofs.lemmas.Bool.{cases_lt}
use Rattle.std.proofs.lemmas.List.{get_or_past}
use Rattle.std.proofs.lemmas.List.Sums.{length-filter, count_by-le-length}
use Rattle.cz_base.specs.declared.limits.TheConstants.{COMMANDS}
use Rattle.causal_deps.specs.declared.record.Record.{Record}
use Rattle.causal_deps.specs.Logs.{is_of, count_of, HasName}
use Rattle.abstract_log.specs.declared.command.Command.TheVariants.{Read}
use Rattle.abstract_log.specs.declared.command.SessionPlan.{SessionPlan}
use Rattle.abstract_log.specs.declared.command.Workload.{Workload}
use Rattle.abstract_log.specs.declared.event.Event.{Event}
use Rattle.abstract_log.specs.declared.world.World.{World}
use Rattle.abstract_log.specs.Commands.{no_plan}
use Rattle.abstract_log.specs.Worlds.{log_of, pending_of, standing_of, plan_of, start}
use Rattle.abstract_log.specs.Steps.{CanHappen, after}
use Rattle.abstract_log.specs.Runs.{IsRun, world_of, after_all}
use Rattle.abstract_log.specs.Shapes.{FitsWorkload, IsShaped}
use Rattle.abstract_log.specs.Fits.{FitsLimits}
use Rattle.abstract_log.proofs.ShapesLemmas.{shaped_at_start, shape_kept}
use Rattle.log_laws.specs.Records.{IsValid, IsWritten}
use Rattle.log_laws.specs.Writes.{sum_below, writes_in, writes_at, writes_of, answered_by, answered_at}
use Rattle.log_laws.specs.Lawful.{AreTablesSquare, AreAllWritten, AreCommandsAnswered, HasRecordsOfAnswered, IsOneForEachCommand, AreWritesAnswered, IsGoneOfLog, IsAwaited, IsLawful}
use Rattle.log_laws.proofs.Runs.{kept_by_runs}
use Rattle.log_laws.proofs.LawsLemmas.{workload-after}
use Rattle.log_laws.proofs.PendingLemmas.{IsSteady, steady_at_start, steady_kept, host_has}
use Rattle.log_laws.proofs.Places.{All-from_places, All-at_place, counted_record, front_counts}
use Rattle.log_laws.proofs.Sums.{sum_below-le, sum_by-places}
use Rattle.log_laws.proofs.WriteCounts.{at_home, homes_together, writes_are_commands, writes_in-take, length_by_hosts}
use Rattle.log_laws.proofs.SessionsLemmas.{AreWithin, first_within, within_kept, on_its_way}
use Rattle.log_laws.proofs.TableShapes.{square_at_start, square_kept}
use Rattle.log_laws.proofs.WrittenLemmas.{none_written, written_kept}
use Rattle.log_laws.proofs.AnsweredLemmas.{none_answered, answered_kept, added_from_elsewhere}
use Rattle.log_laws.proofs.OnceLemmas.{IsOnceAtHome, none_done, done_kept, none_twice, once_kept, one_for_each_command}
use Rattle.log_laws.proofs.PresentLemmas.{none_present, present_kept}
use Rattle.log_laws.proofs.ValidRecords.{valid_record, command_fits}

-- what every event keeps
pub record IsKept (w : World) : Type 0 where
  pub steady : IsSteady w
  pub shape : IsShaped w
  pub square : AreTablesSquare w
  pub within : AreWithin w
  pub written : AreAllWritten w
  pub done : AreCommandsAnswered w
  pub once : IsOnceAtHome w
  pub present : HasRecordsOfAnswered w
  pub answered : AreWritesAnswered w

kept_at_start : (load : Workload) → FitsWorkload load → IsKept (start load)
kept_at_start load fits = record {
  steady = steady_at_start load;
  shape = shaped_at_start load fits;
  square = square_at_start load;
  within = first_within load;
  written = none_written load;
  done = none_done load;
  once = none_twice load;
  present = none_present load;
  answered = none_answered load;
}

-- an event that may happen keeps all of it
pub all_kept : (w : World) (e : Event) → IsKept w → CanHappen w e → IsKept (after w e)
all_kept w e h can = record {
  steady = steady_kept w e h.steady can;
  shape = shape_kept w e h.shape can;
  square = square_kept w e h.square can;
  within = within_kept w e h.shape h.steady.lawful.causal h.within can;
  written = written_kept w e h.shape h.written can;
  done = done_kept w e h.shape h.done can;
  once = once_kept w e h.shape h.steady.lawful.causal h.steady.pending h.done h.once can;
  present = present_kept w e h.shape h.steady.lawful.causal h.present can;
  answered = answered_kept w e h.shape h.steady.lawful.causal h.steady.pending h.answered can;
}

pub kept : (load : Workload) (events : List Event) → FitsWorkload load → IsRun load events → IsKept (world_of load events)
kept load events fits run = kept_by_runs IsKept all_kept (start load) events (kept_at_start load fits) run

-- no event changes the workload
pub workload_stays : (w : World) (es : List Event) → (after_all w es).workload ≡ w.workload
workload_stays w [] = refl
workload_stays w (e ∷ es) = workload_stays (after w e) es ∙ workload-after w e

pub workload_is : (load : Workload) (events : List Event) → (world_of load events).workload ≡ load
workload_is load events = workload_stays (start load) events

module _ (w : World) (h : IsKept w) where
  -- no log has more records of a host than the host's own
  pub host_has_most : (d g : ℕ) → count_of (log_of w d) g ≤ count_of (log_of w g) g
  host_has_most d g = elim (cases_lt 0 (count_of (log_of w d) g)) [
    | inl some ↦ (host_has w d g (count_of (log_of w d) g) h.steady.lawful.causal h.steady.lawful.one_record (record { first = omega arith; counted = omega arith })).counted
    | inr none ↦ omega arith
  ]

  at_most_all : (b : Bool) (x y : ℕ) → x ≤ y → cond b x 0 ≤ cond b y 0
  at_most_all true x y le = le
  at_most_all false x y le = omega arith

  answered_at-le : (g : ℕ) → answered_at w g ≤ writes_at w.workload.sessions g
  answered_at-le g =
      let each : (i : ℕ) → i < length w.sessions → answered_by w g i ≤ at_home (plan_of w.workload i) g = λ i _.
      at_most_all ((plan_of w.workload i).home == g) (writes_in (take (standing_of w i).answered (plan_of w.workload i).commands)) (writes_in (plan_of w.workload i).commands)
      (writes_in-take (standing_of w i).answered (plan_of w.workload i).commands) in
      omega (
        arith,
        sum_below-le (answered_by w g) (λ i. at_home (plan_of w.workload i) g) (length w.sessions) each,
        ap (sum_below (λ i. at_home (plan_of w.workload i) g)) h.shape.sessions,
        sum_by-places (λ (plan : SessionPlan). at_home plan g) w.workload.sessions no_plan,
      )

  -- how many records of a host there are at most
  pub numbers_few : (d g : ℕ) → count_of (log_of w d) g ≤ writes_at w.workload.sessions g
  numbers_few d g = omega (arith, host_has_most d g, h.answered g, answered_at-le g)

  -- how many records a log has at most
  pub positions_few : (d : ℕ) → length (log_of w d) ≤ writes_of w.workload.sessions
  positions_few d =
      let hosts : All (λ (r : Record). r.host < w.workload.dcs) (log_of w d) = All-from_places (λ (r : Record). r.host < w.workload.dcs) (log_of w d) (h.shape.records d).host in
      omega (
        arith,
        length_by_hosts w.workload.dcs (log_of w d) hosts,
        sum_below-le (count_of (log_of w d)) (writes_at w.workload.sessions) w.workload.dcs (λ g _. numbers_few d g),
        homes_together w.workload.sessions w.workload.dcs,
      )

  -- one host's records are among those of the log
  host_count : (d g : ℕ) → count_of (log_of w d) g ≤ length (log_of w d)
  host_count d g = omega (arith, length-filter (is_of g) (log_of w d), count_by-le-length (is_of g) (log_of w d))

  pub one_record_each : IsOneForEachCommand w
  one_record_each = one_for_each_command w h.steady.lawful.causal h.steady.lawful.one_record h.written h.once

  pub gone_of_log : IsGoneOfLog w
  gone_of_log d p gone = let there = h.steady.lawful.gone d p 0 gone (omega (arith, h.shape.workload.some)) in (there.0, there.1)

  no_log : (g : ℕ) → w.workload.dcs ≤ g → count_of (log_of w g) g ≡ 0
  no_log g past = ap (λ xs. count_of xs g) (get_or_past w.logs g [] (omega (arith, h.shape.logs)))

  pub names_awaited : (d g t : ℕ) → Contains (pending_of w d) (g, t) → IsAwaited w d g t
  names_awaited d g t waits =
      let held : HasName (log_of w g) g t = h.steady.pending.held d g t waits in
      record {
        host = elim (cases_lt g w.workload.dcs) [ inl within ↦ within | inr past ↦ absurd (omega (arith, held.first, held.counted, no_log g (omega arith))) ];
        elsewhere = added_from_elsewhere w d g t h.steady.pending waits;
        held = held;
        unknown = h.steady.pending.unknown d g t waits;
      }

  module _ (limits : FitsLimits w.workload) where
    few_positions : (d : ℕ) → length (log_of w d) ≤ COMMANDS
    few_positions d = omega (arith, positions_few d, writes_are_commands w.workload.sessions, limits.commands)

    few_numbers : (d g : ℕ) → count_of (log_of w d) g ≤ COMMANDS
    few_numbers d g = omega (arith, host_count d g, few_positions d)

    pub valid_logs : (d : ℕ) → All (IsValid w.workload.dcs) (log_of w d)
    valid_logs d = All-from_places (IsValid w.workload.dcs) (log_of w d) (λ k r at.
        let ready = (h.steady.lawful.causal d).in_order k r at in
        valid_record w.workload r (count_of (take k (log_of w d))) limits (All-at_place (IsWritten w.workload) (log_of w d) k r (h.written d) at)
        ((h.shape.records d).host k r at) ((h.shape.records d).dep k r at) ready
        (omega (arith, counted_record (log_of w d) k r (h.steady.lawful.causal d) at, few_numbers d r.host))
        (λ g. omega (arith, front_counts (log_of w d) k g, few_numbers d g)))

    pub all_laws : IsLawful w
    all_laws = record {
      limits = limits;
      shape = h.shape;
      causal = h.steady.lawful.causal;
      one_record = h.steady.lawful.one_record;
      valid = valid_logs;
      written = h.written;
      done = h.done;
      present = h.present;
      once = one_record_each;
      answered = h.answered;
      numbers = numbers_few;
      few = few_positions;
      tables = h.steady.lawful.tables.by_owner;
      own_rows = h.steady.lawful.tables.by_log;
      square = h.square;
      entries = λ g k c. omega (arith, h.steady.lawful.tables.by_owner g k c, h.steady.lawful.tables.by_log k c, few_numbers k c);
      gone = h.steady.lawful.gone;
      positions = gone_of_log;
      awaited = names_awaited;
      sessions = on_its_way w h.within;
      reads = λ s k p is. (command_fits w.workload s k (Read p) limits is).0;
    }

-- All laws, at every run on a workload within the limits.
pub laws_of_run : (load : Workload) (events : List Event) → FitsLimits load → IsRun load events → IsLawful (world_of load events)
laws_of_run load events limits run =
    all_laws (world_of load events) (kept load events limits.workload run) (subst FitsLimits (sym (workload_is load events)) limits)
