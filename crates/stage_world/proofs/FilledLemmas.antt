-- Positions that some maintainer has filled: each is in the log, and shows the log's record unless it is gone.
use Rattle.std.proofs.Common.{◌≡◌, ℕ, ◌+◌, ◌-◌, ◌≤◌, cond, leb, eqb, ◌&&◌, List, [], ◌∷◌, ◌++◌, length, take, drop, refl, ap, arith}
use Rattle.std.specs.List.{All, flat_map, slice_get}
use Rattle.std.proofs.lemmas.List.{take-append-drop, length-append}
use Rattle.std.proofs.lemmas.List.Elements.{All-nil, All-append, All-head, All-tail, filter-append}
use Rattle.std.proofs.lemmas.List.Sums.{sum_by-cons, sum_by-append}
use Rattle.std.proofs.lemmas.Bool.{cond_both}
use Rattle.std.proofs.lemmas.Bool.Decides.{nat_tests}
use Rattle.causal_deps.specs.declared.record.Record.{Record}
use Rattle.causal_deps.specs.declared.record.Kind.TheVariants.{Append as AppendKind}
use Rattle.causal_deps.specs.Logs.{count_of, records_of, is_of}
use Rattle.abstract_log.specs.declared.world.World.{World}
use Rattle.abstract_log.specs.Worlds.{log_of, gone_of}
use Rattle.maintainer.specs.declared.slot.Slot.{Slot}
use Rattle.maintainer.specs.Maintainers.{MaintainerState, IsEntryOf, times_filled, times_in, times}
use Rattle.maintainer.proofs.CountLemmas.{value_at-log}
use Rattle.stage_world.specs.Stages.{IsFilledIn, filled, waiting_in, Datacentre}
use Rattle.stage_world.specs.MoreTurns.{record_kept}
use Rattle.stage_world.specs.StandsFor.{StandsAt, gone_times, position_in}

-- what stands for a record that there is not
abbrev pub no_record : Record
no_record = record { host = 0; toid = 0; session = 0; index = 0; kind = AppendKind; tags = []; body = []; dep = [] }

-- what all maintainers have filled is what they have entries at, and what is gone
pub times_in-flat_map : (p : ℕ) (ms : List (MaintainerState Record)) → times_in p (flat_map (λ m. m.entries) ms) + gone_times p ms ≡ filled p ms
times_in-flat_map p [] = refl
times_in-flat_map p (m ∷ ms) = omega (
  arith,
  times_in-flat_map p ms,
  sum_by-append (λ (e : Slot Record). cond (eqb e.lid p) 1 0) m.entries (flat_map (λ (x : MaintainerState Record). x.entries) ms),
  sum_by-cons (times_filled p) m ms,
  sum_by-cons (λ (x : MaintainerState Record). times p x.gone) m ms,
)

pub All-flat_map : (P : Slot Record → Type 0) (ms : List (MaintainerState Record)) → All (λ m. All P m.entries) ms → All P (flat_map (λ m. m.entries) ms)
All-flat_map P [] all = All-nil P
All-flat_map P (m ∷ ms) all =
    All-append P m.entries (flat_map (λ (x : MaintainerState Record). x.entries) ms) (All-head (λ (x : MaintainerState Record). All P x.entries) m ms all)
    (All-flat_map P ms (All-tail (λ (x : MaintainerState Record). All P x.entries) m ms all))

-- a filled position that is not gone shows the log's record
pub record_at_filled : (w : World) (d : ℕ) (z : Datacentre) (p : ℕ) → StandsAt w d z → IsFilledIn z.maintainers p → times p (gone_of w d) ≡ 0
    → record_kept z.maintainers p ≡ slice_get (log_of w d) (p - 1)
record_at_filled w d z p h some kept =
    value_at-log (log_of w d) p (flat_map (λ (m : MaintainerState Record). m.entries) z.maintainers) (omega (arith, times_in-flat_map p z.maintainers, h.positions.placed.collected p))
    (All-flat_map (IsEntryOf (log_of w d)) z.maintainers h.positions.placed.entries)

-- a filled position is in the log
pub filled_within : (w : World) (d : ℕ) (z : Datacentre) (p : ℕ) → StandsAt w d z → IsFilledIn z.maintainers p → p ≤ length (log_of w d)
filled_within w d z p h some = let once : waiting_in p z.queues + filled p z.maintainers ≡ position_in (log_of w d) p = h.positions.placed.once p in grind (arith, nat_tests, once)

-- what makes up one position is there once at most
pub one_at_most : (log : List Record) (q a b : ℕ) → a + b ≡ position_in log q → b ≤ 1
one_at_most log q a b e =
    let small : position_in log q ≤ 1 = cond_both (leb 1 q && leb q (length log)) 1 0 (λ n. n ≤ 1) (λ _. omega arith) (λ _. omega arith) in omega arith

-- the front of a log counts no more than all of it
count_of-append : (xs ys : List Record) (h : ℕ) → count_of xs h ≤ count_of (xs ++ ys) h
count_of-append xs ys h = omega (arith, ap length (filter-append (is_of h) xs ys), length-append (records_of h xs) (records_of h ys))

pub count_whole : (log : List Record) (s h : ℕ) → count_of (take s log) h ≤ count_of log h
count_whole log s h = omega (arith, count_of-append (take s log) (drop s log) h, ap (λ l. count_of l h) (take-append-drop s log))
