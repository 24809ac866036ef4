-- What a summary counts.
use Rattle.std.proofs.Common.{◌≡◌, ℕ, zero, suc, ◌+◌, ◌<◌, ◌≤◌, cond, eqb, ltb, List, [], ◌∷◌, ◌++◌, length, take, get_or, replicate, refl, ap, ap₂, sym, ◌∙◌, subst, inl, inr, arith, add-one, Option, codes, Result, Ok, Err, OnOk}
use Rattle.std.specs.Fmt.{decimal}
use Rattle.std.specs.List.{Contains, count_by, sum_by}
use Rattle.std.proofs.Math.Seq.{take-suc}
use Rattle.std.proofs.lemmas.Bool.{cases_eq, cond-true, cond-false, cond_both, eq-eqb, ne_eqb, ltb-false}
use Rattle.std.proofs.lemmas.List.{get_or-set_same, get_or-set_other}
use Rattle.std.proofs.lemmas.List.Sums.{count_by-le-length, sum_by-cons, sum_by_push}
use Rattle.cz_base.specs.declared.limits.TheConstants.{COMMANDS}
use Rattle.abstract_log.specs.declared.command.SessionPlan.{SessionPlan}
use Rattle.abstract_log.specs.declared.command.Workload.{Workload}
use Rattle.abstract_log.specs.declared.event.Event.{Event}
use Rattle.abstract_log.specs.declared.event.Event.TheVariants.{Submit, Append, Receive, Add, Learn, Reply, Collect}
use Rattle.abstract_log.specs.declared.event.Run.{Run}
use Rattle.abstract_log.specs.declared.script.StageLine.{StageLine}
use Rattle.abstract_log.specs.declared.world.World.{World}
use Rattle.abstract_log.specs.Commands.{is_write}
use Rattle.abstract_log.specs.Fits.{commands_of}
use Rattle.abstract_log.specs.Runs.{IsRun, CanAllHappen, after_all, world_of}
use Rattle.abstract_log.specs.Shapes.{FitsWorkload, IsShaped}
use Rattle.abstract_log.specs.Steps.{CanHappen, after, inserted}
use Rattle.abstract_log.specs.Worlds.{gone_of, start}
use Rattle.abstract_log.proofs.ShapesLemmas.{shaped_at_start, shape_kept}
use Rattle.report_text.specs.Lines.{line_text, lines_text}
use Rattle.report_text.specs.Numbered.{below}
use Rattle.report_text.specs.Report.{end_line, fact_lines}
use Rattle.report_text.specs.Summary.{asked_lines, collected_lines, collects_at, gone_count_lines, summary_text, turns_lines, writes_in, writes_of}
use Rattle.report_text.specs.Values.{letter}
use Rattle.report_text.proofs.LineLemmas.{joined}

-- commands and writes of the first sessions

commands_next : (xs : List SessionPlan) (i : ℕ) (x : SessionPlan) → i < length xs → x ≡ get_or xs i x → commands_of (take (suc i) xs) ≡ commands_of (take i xs) + length x.commands
commands_next [] i x within at = absurd (omega arith)
commands_next (y ∷ ys) zero x within at = omega (arith, ap (λ (p : SessionPlan). length p.commands) at)
commands_next (y ∷ ys) (suc i) x within at = omega (arith, commands_next ys i x (omega arith) at)

commands_part : (xs : List SessionPlan) (i : ℕ) → commands_of (take i xs) ≤ commands_of xs
commands_part xs zero = omega arith
commands_part [] (suc i) = omega arith
commands_part (y ∷ ys) (suc i) = omega (arith, commands_part ys i)

-- a count once one session more is counted, which is small
pub record IsCounted (count : ℕ) (next : ℕ) (more : ℕ) : Type 0 where
  pub sum : count + more ≡ next
  pub small : next ≤ COMMANDS

pub commands_more : (count : ℕ) (xs all : List SessionPlan) (i : ℕ) (x : SessionPlan) → xs ≡ all → commands_of all ≤ COMMANDS → count ≡ commands_of (take i xs) → i < length xs → x ≡ get_or xs i x
    → IsCounted count (commands_of (take (i + 1) xs)) (length x.commands)
commands_more count xs all i x same few was within at =
    let next : commands_of (take (i + 1) xs) ≡ commands_of (take i xs) + length x.commands = ap (λ k. commands_of (take k xs)) (add-one i) ∙ commands_next xs i x within at in
    record { sum = omega (arith, was, next); small = omega (arith, few, ap commands_of same, commands_part xs (i + 1)) }

writes_few : (xs : List SessionPlan) → writes_of xs ≤ commands_of xs
writes_few [] = omega arith
writes_few (x ∷ xs) = omega (arith, writes_few xs, sum_by-cons writes_in x xs, count_by-le-length is_write x.commands)

pub writes_more : (count : ℕ) (xs all : List SessionPlan) (i : ℕ) (x : SessionPlan) → xs ≡ all → commands_of all ≤ COMMANDS → count ≡ writes_of (take i xs) → i < length xs → x ≡ get_or xs i x
    → IsCounted count (writes_of (take (i + 1) xs)) (writes_in x)
writes_more count xs all i x same few was within at =
    let more : take (i + 1) xs ≡ take i xs ++ x ∷ [] = rw (add-one, take-suc xs i x within, ← at) refl in
    let next : writes_of (take (i + 1) xs) ≡ writes_of (take i xs) + writes_in x = ap (sum_by writes_in) more ∙ sum_by_push writes_in (take i xs) x in
    record { sum = omega (arith, was, next); small = omega (arith, few, ap commands_of same, writes_few (take (i + 1) xs), commands_part xs (i + 1)) }

-- each position that is gone was collected once

length-inserted : (p : ℕ) (ps : List ℕ) → (Contains ps p → ⊥) → length (inserted ltb p ps) ≡ length ps + 1
length-inserted p [] new = omega arith
length-inserted p (x ∷ xs) new =
    cond_both (ltb p x) (p ∷ x ∷ xs) (cond (ltb x p) (x ∷ inserted ltb p xs) (x ∷ xs)) (λ ys. length ys ≡ length (x ∷ xs) + 1)
    (λ first. omega arith)
    (λ not_first. cond_both (ltb x p) (x ∷ inserted ltb p xs) (x ∷ xs) (λ ys. length ys ≡ length (x ∷ xs) + 1)
    (λ later. omega (arith, length-inserted p xs (λ has. new (suc has.0, omega (arith, has.1), has.2))))
    (λ not_later.
    let low : x ≤ p = ltb-false p x not_first in
    let high : p ≤ x = ltb-false x p not_later in
    absurd (new (0, omega arith, omega (arith, low, high)))))

gone_grows : (w : World) (e : Event) (d : ℕ) → IsShaped w → CanHappen w e → length (gone_of (after w e) d) ≡ length (gone_of w d) + cond (collects_at d e) 1 0
gone_grows w (Submit s k) d shape can = omega arith
gone_grows w (Append of s k lid toid) d shape can = omega arith
gone_grows w (Receive of e table names) d shape can = omega arith
gone_grows w (Add of lid h toid) d shape can = omega arith
gone_grows w (Learn of row) d shape can = omega arith
gone_grows w (Reply of s k at answer) d shape can = omega arith
gone_grows w (Collect of p) d shape can = elim (cases_eq of d) [
  | inl same ↦
      let there : of < length w.gone = omega (arith, can.0, shape.gone) in
      let now : gone_of (after w (Collect of p)) of ≡ inserted ltb p (gone_of w of) = get_or-set_same w.gone of (inserted ltb p (gone_of w of)) [] there in
      omega (
        arith,
        ap (λ k. length (gone_of (after w (Collect of p)) k)) same,
        ap (λ k. length (gone_of w k)) same,
        ap (length {A = ℕ}) now,
        length-inserted p (gone_of w of) can.1.1.0,
        cond-true {A = ℕ} (eqb of d) 1 0 (eq-eqb of d same),
      )
  | inr other ↦ omega (
    arith,
    ap (length {A = ℕ}) (get_or-set_other w.gone of d (inserted ltb p (gone_of w of)) [] (λ e. other (sym e))),
    cond-false {A = ℕ} (eqb of d) 1 0 (ne_eqb of d other),
  )
]

gone_counted : (w : World) (events : List Event) (d : ℕ) → IsShaped w → CanAllHappen w events → length (gone_of (after_all w events) d) ≡ length (gone_of w d) + count_by (collects_at d) events
gone_counted w [] d shape can = omega arith
gone_counted w (e ∷ es) d shape can = omega (
  arith,
  gone_grows w e d shape can.0,
  gone_counted (after w e) es d (shape_kept w e shape can.0) can.1,
  sum_by-cons (λ (x : Event). cond (collects_at d x) 1 0) e es,
)

none_at : (n d : ℕ) → length (get_or (replicate {A = List ℕ} n []) d []) ≡ 0
none_at zero d = refl
none_at (suc n) zero = refl
none_at (suc n) (suc d) = none_at n d

below_same : {Y : Type 0} (f g : ℕ → List Y) (n : ℕ) → ((k : ℕ) → f k ≡ g k) → below f n ≡ below g n
below_same f g zero same = refl
below_same f g (suc n) same = ap₂ (λ xs ys. xs ++ ys) (below_same f g n same) (same n)

all_counted : (load : Workload) (events : List Event) → FitsWorkload load → IsRun load events → below (collected_lines events) load.dcs ≡ below (gone_count_lines (world_of load events)) load.dcs
all_counted load events fits run = below_same (collected_lines events) (gone_count_lines (world_of load events)) load.dcs (λ d.
    let count : count_by (collects_at d) events ≡ length (gone_of (world_of load events) d) = omega (arith, gone_counted (start load) events d (shaped_at_start load fits) run, none_at load.dcs d) in
    ap (λ n. (codes "gone" ∷ letter d ∷ decimal n ∷ []) ∷ []) count)

module _ (run : Run) (stages : Option (List StageLine)) (t0 t1 t2 t3 t4 t5 : List ℕ) (events : ℕ) where
  pub summary_told : FitsWorkload run.workload → IsRun run.workload run.events → events ≡ length run.events → t0 ≡ [] → t1 ≡ t0 ++ lines_text (asked_lines run.workload)
      → t2 ≡ t1 ++ lines_text (fact_lines (codes "events") events) → t3 ≡ t2 ++ lines_text (turns_lines stages) → t4 ≡ t3 ++ lines_text (below (collected_lines run.events) run.workload.dcs)
      → t5 ≡ t4 ++ lines_text end_line → t5 ≡ summary_text run stages
  summary_told fits is_run counted nothing asked happened turned collected end =
      let asked_part = asked_lines run.workload in
      let events_part = fact_lines (codes "events") (length run.events) in
      let gone_part = below (gone_count_lines (world_of run.workload run.events)) run.workload.dcs in
      let happened' : t2 ≡ t1 ++ lines_text events_part = happened ∙ ap (λ n. t1 ++ lines_text (fact_lines (codes "events") n)) counted in
      let gone : t4 ≡ t3 ++ lines_text gone_part = collected ∙ ap (λ ls. t3 ++ lines_text ls) (all_counted run.workload run.events fits is_run) in
      let upto_2 = joined line_text t0 t1 t2 asked_part events_part asked happened' in
      let upto_3 = joined line_text t0 t2 t3 (asked_part ++ events_part) (turns_lines stages) upto_2 turned in
      let upto_4 = joined line_text t0 t3 t4 (asked_part ++ events_part ++ turns_lines stages) gone_part upto_3 gone in
      let all = joined line_text t0 t4 t5 (asked_part ++ events_part ++ turns_lines stages ++ gone_part) end_line upto_4 end in
      subst (λ (t : List ℕ). t5 ≡ t ++ summary_text run stages) nothing all

-- what was asked, line by line
asked_lines_told : (load : Workload) (sessions commands writes : ℕ) (t0 t1 t2 t3 t4 : List ℕ) → sessions ≡ length load.sessions → commands ≡ commands_of load.sessions → writes ≡ writes_of load.sessions
    → t1 ≡ t0 ++ lines_text (fact_lines (codes "datacentres") load.dcs) → t2 ≡ t1 ++ lines_text (fact_lines (codes "sessions") sessions)
    → t3 ≡ t2 ++ lines_text (fact_lines (codes "commands") commands) → t4 ≡ t3 ++ lines_text (fact_lines (codes "records") writes) → t4 ≡ t0 ++ lines_text (asked_lines load)
asked_lines_told load sessions commands writes t0 t1 t2 t3 t4 in_sessions in_commands in_writes one two three four =
    let first = fact_lines (codes "datacentres") load.dcs in
    let second = fact_lines (codes "sessions") (length load.sessions) in
    let third = fact_lines (codes "commands") (commands_of load.sessions) in
    let fourth = fact_lines (codes "records") (writes_of load.sessions) in
    let two' : t2 ≡ t1 ++ lines_text second = two ∙ ap (λ n. t1 ++ lines_text (fact_lines (codes "sessions") n)) in_sessions in
    let three' : t3 ≡ t2 ++ lines_text third = three ∙ ap (λ n. t2 ++ lines_text (fact_lines (codes "commands") n)) in_commands in
    let four' : t4 ≡ t3 ++ lines_text fourth = four ∙ ap (λ n. t3 ++ lines_text (fact_lines (codes "records") n)) in_writes in
    let upto_2 = joined line_text t0 t1 t2 first second one two' in
    let upto_3 = joined line_text t0 t2 t3 (first ++ second) third upto_2 three' in
    joined line_text t0 t3 t4 (first ++ second ++ third) fourth upto_3 four'

pub asked_told : {E : Type 0} (result : Result (Unit {0}) E) (load : Workload) (sessions commands writes : ℕ) (t0 t1 t2 t3 t4 : List ℕ) → sessions ≡ length load.sessions → commands ≡ commands_of load.sessions → writes ≡ writes_of load.sessions
    → t1 ≡ t0 ++ lines_text (fact_lines (codes "datacentres") load.dcs) → t2 ≡ t1 ++ lines_text (fact_lines (codes "sessions") sessions)
    → t3 ≡ t2 ++ lines_text (fact_lines (codes "commands") commands) → OnOk result (t4 ≡ t3 ++ lines_text (fact_lines (codes "records") writes)) → OnOk result (t4 ≡ t0 ++ lines_text (asked_lines load))
asked_told (Ok x) load sessions commands writes t0 t1 t2 t3 t4 in_sessions in_commands in_writes one two three four = asked_lines_told load sessions commands writes t0 t1 t2 t3 t4 in_sessions in_commands in_writes one two three four
asked_told (Err e) load sessions commands writes t0 t1 t2 t3 t4 in_sessions in_commands in_writes one two three four = tt
