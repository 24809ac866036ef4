-- In a run each position of a log is stamped once, and no other is.
use Rattle.std.proofs.Common.{◌≡◌, ◌≢◌, ℕ, zero, suc, ◌+◌, ◌*◌, ◌/◌, ◌%◌, ◌<◌, ◌≤◌, ◌==◌, cond, true, List, [], ◌∷◌, ◌++◌, length, get_or, set, replicate, Option, Some, None, IsSomeAnd, refl, ap, sym, ◌∙◌, arith, length-append, length-set, get_or-set_other, get_or-set_same, option_map, option_and_then, option_to_list, div-add-mod'}
use Rattle.std.proofs.lemmas.Bool.Decides.{nat_tests}
use Rattle.std.proofs.lemmas.List.{length-map, length-replicate}
use mathlib.Core.Logic.{dite}
use native.Mathlib.Decide.{ℕ_discrete}
use Rattle.causal_deps.specs.declared.record.Record.{Record}
use Rattle.causal_deps.specs.declared.record.Draft.{Draft}
use Rattle.causal_deps.specs.Logs.{sealed}
use Rattle.abstract_log.specs.declared.command.Command.{Command}
use Rattle.abstract_log.specs.declared.command.Command.TheVariants.{Append as AppendCommand, Put, Del, Get, Tx, Read, Last}
use Rattle.abstract_log.specs.declared.command.Workload.{Workload}
use Rattle.abstract_log.specs.declared.event.Event.{Event}
use Rattle.abstract_log.specs.declared.event.Event.TheVariants.{Submit, Append, Receive, Add, Learn, Reply, Collect}
use Rattle.abstract_log.specs.declared.world.World.{World}
use Rattle.abstract_log.specs.Commands.{draft_of, is_write}
use Rattle.abstract_log.specs.Worlds.{log_of, record_of, standing_of, open_command, start, first_standing}
use Rattle.abstract_log.specs.Shapes.{FitsWorkload}
use Rattle.abstract_log.specs.Steps.{CanHappen, after, written, logs_with}
use Rattle.abstract_log.specs.Runs.{IsRun, CanAllHappen, after_all, world_of}
use Rattle.journal_lock.specs.Duties.{place, datacentre, has, positions_of, stamped, is_inside}
use Rattle.journal_lock.proofs.Lists.{has_append, has_cons}

inside_next : (n lid p : ℕ) → lid ≡ n + 1 → cond (lid == p) 1 0 + is_inside n p ≡ is_inside (n + 1) p
inside_next n lid p e = grind (arith, nat_tests)

inside_none : (p : ℕ) → is_inside 0 p ≡ 0
inside_none p = grind (arith, nat_tests)

pub inside_one : (n p : ℕ) → is_inside n p ≤ 1
inside_one n p = grind (arith, nat_tests)

same_place : (d lid p : ℕ) → cond {A = ℕ} (8 * lid + d == 8 * p + d) 1 0 ≡ cond (lid == p) 1 0
same_place d lid p = grind (arith, nat_tests)

other_place : (e d lid p : ℕ) → e < 8 → d < 8 → e ≢ d → cond {A = ℕ} (8 * lid + e == 8 * p + d) 1 0 ≡ 0
other_place e d lid p a b ne = grind (arith, nat_tests)

some_of : {T : Type 0} (o : Option T) (P : T → Type 0) → IsSomeAnd o P → (x : T) × (o ≡ Some x)
some_of None P h = absurd h
some_of (Some x) P h = (x, refl)

writes_of : (s k : ℕ) (past : List ℕ) (o : Option Command) → IsSomeAnd o (λ c. is_write c ≡ true) → (draft : Draft) × (option_and_then (draft_of s k past) o ≡ Some draft)
writes_of s k past None h = absurd h
writes_of s k past (Some (AppendCommand tags body)) h = (_, refl)
writes_of s k past (Some (Put key body)) h = (_, refl)
writes_of s k past (Some (Del key)) h = (_, refl)
writes_of s k past (Some (Get key)) h = cc
writes_of s k past (Some (Tx keys)) h = cc
writes_of s k past (Some (Read lid)) h = cc
writes_of s k past (Some (Last tag n)) h = cc

writes_some : (w : World) (s k d toid : ℕ) → IsSomeAnd (open_command w s k) (λ c. is_write c ≡ true) → (r : Record) × (written w s k d toid ≡ Some r)
writes_some w s k d toid h = let x = writes_of s k (standing_of w s).past (open_command w s k) h in (sealed x.0 d toid, ap (option_map (λ draft. sealed draft d toid)) x.1)

-- the lists of the world are as long as its workload says
pub record IsSized (w : World) : Type 0 where
  pub fits : FitsWorkload w.workload
  pub logs : length w.logs ≡ w.workload.dcs
  pub sessions : length w.sessions ≡ length w.workload.sessions

pub sized_start : (load : Workload) → FitsWorkload load → IsSized (start load)
sized_start load fits = record { fits = fits; logs = length-replicate {A = List Record} load.dcs []; sessions = length-map load.sessions (λ _. first_standing load.dcs) }

sized_after : (w : World) (e : Event) → IsSized w → IsSized (after w e)
sized_after w (Submit s k) h = record { fits = h.fits; logs = h.logs; sessions = length-set w.sessions s _ ∙ h.sessions }
sized_after w (Append d s k lid toid) h = record { fits = h.fits; logs = length-set w.logs d _ ∙ h.logs; sessions = length-set w.sessions s _ ∙ h.sessions }
sized_after w (Receive d e table names) h = record { fits = h.fits; logs = h.logs; sessions = h.sessions }
sized_after w (Add d lid g t) h = record { fits = h.fits; logs = length-set w.logs d _ ∙ h.logs; sessions = h.sessions }
sized_after w (Learn d row) h = record { fits = h.fits; logs = h.logs; sessions = h.sessions }
sized_after w (Reply d s k at answer) h = record { fits = h.fits; logs = h.logs; sessions = length-set w.sessions s _ ∙ h.sessions }
sized_after w (Collect d p) h = record { fits = h.fits; logs = h.logs; sessions = h.sessions }

-- where a record goes last in e's log, at the next position, each log has one more of its positions stamped
stamps : (w : World) (e lid : ℕ) (o : Option Record) (r : Record) → o ≡ Some r → e < 8 → e < length w.logs → lid ≡ length (log_of w e) + 1 → (d p : ℕ) → d < 8
    → has place (8 * p + d) (record { dc = e; lid = lid } ∷ []) + is_inside (length (log_of w d)) p ≡ is_inside (length (get_or (logs_with w e o) d [])) p
stamps w e lid o r is small there next d p low = let new : List Record = log_of w e ++ option_to_list o in let one = has_cons place (8 * p + d) (record { dc = e; lid = lid }) [] in dite (ℕ_discrete d e)
    (λ same. (let long : length (get_or (set w.logs e new) d []) ≡ length (log_of w e) + 1 =
    ap (λ k. length (get_or (set w.logs e new) k [])) same ∙ (ap length (get_or-set_same w.logs e new [] there) ∙ (length-append (log_of w e) (option_to_list o) ∙ ap (λ q. length (log_of w e) + length (option_to_list q)) is)) in
    let at : cond {A = ℕ} (8 * lid + e == 8 * p + d) 1 0 ≡ cond (lid == p) 1 0 = ap (λ k. cond {A = ℕ} (8 * lid + e == 8 * p + k) 1 0) same ∙ same_place e lid p in
    let old : is_inside (length (log_of w d)) p ≡ is_inside (length (log_of w e)) p = ap (λ k. is_inside (length (log_of w k)) p) same in
    let new_is : is_inside (length (get_or (set w.logs e new) d [])) p ≡ is_inside (length (log_of w e) + 1) p = ap (λ k. is_inside k p) long in omega (arith, inside_next (length (log_of w e)) lid p next)))
    (λ other. (let here = other_place e d lid p small low (λ q. other (sym q)) in
    let same : is_inside (length (get_or (set w.logs e new) d [])) p ≡ is_inside (length (log_of w d)) p = ap (λ (l : List Record). is_inside (length l) p) (get_or-set_other w.logs e d new [] other) in omega arith))

-- and each log has one more position stamped for each record more
lengthens : (w : World) (e lid : ℕ) (o : Option Record) (r : Record) → o ≡ Some r → e < length w.logs → (d : ℕ)
    → has datacentre d (record { dc = e; lid = lid } ∷ []) + length (log_of w d) ≡ length (get_or (logs_with w e o) d [])
lengthens w e lid o r is there d = let new : List Record = log_of w e ++ option_to_list o in let one = has_cons datacentre d (record { dc = e; lid = lid }) [] in dite (ℕ_discrete d e)
    (λ same. (let long : length (get_or (set w.logs e new) d []) ≡ length (log_of w e) + 1 =
    ap (λ k. length (get_or (set w.logs e new) k [])) same ∙ (ap length (get_or-set_same w.logs e new [] there) ∙ (length-append (log_of w e) (option_to_list o) ∙ ap (λ q. length (log_of w e) + length (option_to_list q)) is)) in
    let at : cond {A = ℕ} (e == d) 1 0 ≡ 1 = grind (arith, nat_tests) in
    let old : length (log_of w d) ≡ length (log_of w e) = ap (λ k. length (log_of w k)) same in omega arith))
    (λ other. (let at : cond {A = ℕ} (e == d) 1 0 ≡ 0 = grind (arith, nat_tests) in
    let same : length (get_or (set w.logs e new) d []) ≡ length (log_of w d) = ap length (get_or-set_other w.logs e d new [] other) in omega arith))

none_more : (d n : ℕ) → has datacentre d [] + n ≡ n
none_more d n = omega arith

nothing_stamped : (x n p : ℕ) → has place x [] + is_inside n p ≡ is_inside n p
nothing_stamped x n p = omega arith

stamped_after : (w : World) (e : Event) → IsSized w → CanHappen w e → (d p : ℕ) → d < 8 → has place (8 * p + d) (positions_of e) + is_inside (length (log_of w d)) p ≡ is_inside (length (log_of (after w e) d)) p
stamped_after w (Submit s k) h can d p low = nothing_stamped (8 * p + d) (length (log_of w d)) p
stamped_after w (Append e s k lid toid) h can d p low =
    let new = writes_some w s k e toid can.1.0 in let home = can.0.home in let few = h.fits.few in let count = h.logs in
    let inner = h.fits.homes s (let t = can.0.there in let u = h.sessions in omega arith) in
    stamps w e lid (written w s k e toid) new.0 new.1 (omega arith) (omega arith) can.1.1.0 d p low
stamped_after w (Receive e f table names) h can d p low = nothing_stamped (8 * p + d) (length (log_of w d)) p
stamped_after w (Add e lid g t) h can d p low =
    let new = some_of (record_of w g t) _ can.1.1.1.0 in let there = can.0 in let few = h.fits.few in let count = h.logs in
    stamps w e lid (record_of w g t) new.0 new.1 (omega arith) (omega arith) can.1.1.0 d p low
stamped_after w (Learn e row) h can d p low = nothing_stamped (8 * p + d) (length (log_of w d)) p
stamped_after w (Reply e s k at answer) h can d p low = nothing_stamped (8 * p + d) (length (log_of w d)) p
stamped_after w (Collect e q) h can d p low = nothing_stamped (8 * p + d) (length (log_of w d)) p

stamped_all : (w : World) (es : List Event) → IsSized w → CanAllHappen w es → (d p : ℕ) → d < 8 → has place (8 * p + d) (stamped es) + is_inside (length (log_of w d)) p ≡ is_inside (length (log_of (after_all w es) d)) p
stamped_all w [] h run d p low = nothing_stamped (8 * p + d) (length (log_of w d)) p
stamped_all w (e ∷ es) h run d p low = omega (arith, has_append place (8 * p + d) (positions_of e) (stamped es), stamped_after w e h run.0 d p low, stamped_all (after w e) es (sized_after w e h) run.1 d p low)

abbrev no_records : List Record
no_records = []

none_at : (n i : ℕ) → get_or (replicate n no_records) i no_records ≡ no_records
none_at zero i = refl
none_at (suc n) zero = refl
none_at (suc n) (suc i) = none_at n i

-- the positions that a run stamps are those of the logs that it leaves, each once
pub stamped_inside : (load : Workload) (log : List Event) → FitsWorkload load → IsRun load log → (d p : ℕ) → d < 8 → has place (8 * p + d) (stamped log) ≡ is_inside (length (log_of (world_of load log) d)) p
stamped_inside load log fits run d p low =
    let all = stamped_all (start load) log (sized_start load fits) run d p low in
    let none : is_inside (length (log_of (start load) d)) p ≡ 0 = ap (λ (l : List Record). is_inside (length l) p) (none_at load.dcs d) ∙ inside_none p in omega arith

-- so no position is stamped twice
pub stamped_once : (load : Workload) (log : List Event) → FitsWorkload load → IsRun load log → (x : ℕ) → has place x (stamped log) ≤ 1
stamped_once load log fits run x =
    let d = x % 8 in let p = x / 8 in let split : x / 8 * 8 + x % 8 ≡ x = div-add-mod' x 8 in let is : 8 * (x / 8) + x % 8 ≡ x = omega arith in
    let low : x % 8 < 8 = omega arith in
    let all = stamped_inside load log fits run (x % 8) (x / 8) low in
    let here = ap (λ k. has place k (stamped log)) is in omega (arith, inside_one (length (log_of (world_of load log) (x % 8))) (x / 8))

length_after : (w : World) (e : Event) → IsSized w → CanHappen w e → (d : ℕ) → has datacentre d (positions_of e) + length (log_of w d) ≡ length (log_of (after w e) d)
length_after w (Submit s k) h can d = none_more d (length (log_of w d))
length_after w (Append e s k lid toid) h can d =
    let new = writes_some w s k e toid can.1.0 in let home = can.0.home in let count = h.logs in let inner = h.fits.homes s (let t = can.0.there in let u = h.sessions in omega arith) in
    lengthens w e lid (written w s k e toid) new.0 new.1 (omega arith) d
length_after w (Receive e f table names) h can d = none_more d (length (log_of w d))
length_after w (Add e lid g t) h can d = let new = some_of (record_of w g t) _ can.1.1.1.0 in let there = can.0 in let count = h.logs in lengthens w e lid (record_of w g t) new.0 new.1 (omega arith) d
length_after w (Learn e row) h can d = none_more d (length (log_of w d))
length_after w (Reply e s k at answer) h can d = none_more d (length (log_of w d))
length_after w (Collect e q) h can d = none_more d (length (log_of w d))

length_all : (w : World) (es : List Event) → IsSized w → CanAllHappen w es → (d : ℕ) → has datacentre d (stamped es) + length (log_of w d) ≡ length (log_of (after_all w es) d)
length_all w [] h run d = none_more d (length (log_of w d))
length_all w (e ∷ es) h run d = omega (arith, has_append datacentre d (positions_of e) (stamped es), length_after w e h run.0 d, length_all (after w e) es (sized_after w e h) run.1 d)

-- a run stamps as many positions of a datacentre as its log has records
pub stamped_length : (load : Workload) (log : List Event) → FitsWorkload load → IsRun load log → (d : ℕ) → has datacentre d (stamped log) ≡ length (log_of (world_of load log) d)
stamped_length load log fits run d = let none : length (log_of (start load) d) ≡ 0 = ap length (none_at load.dcs d) in omega (arith, length_all (start load) log (sized_start load fits) run d)
