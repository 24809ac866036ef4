-- How many writes there are at most, and how many records of which host a log has.
use Rattle.std.proofs.Common.{◌≡◌, ◌≢◌, ℕ, zero, suc, ◌+◌, ◌<◌, ◌≤◌, ◌==◌, if◌then◌else◌, cond, List, [], ◌∷◌, length, take, get_or, refl, ap, sym, arith, eq-eqb, ne_eqb, All, ◌∙◌}
use Rattle.std.proofs.lemmas.Bool.{cond-true, cond-false, cond_both}
use Rattle.std.proofs.lemmas.List.Sums.{sum_by-cons, count_by-le-length, sum_by-take-le}
use Rattle.std.proofs.lemmas.List.Elements.{All-head, All-tail}
use Rattle.causal_deps.specs.declared.record.Record.{Record}
use Rattle.causal_deps.specs.Logs.{count_of, records_of}
use Rattle.abstract_log.specs.declared.command.Command.{Command}
use Rattle.abstract_log.specs.declared.command.SessionPlan.{SessionPlan}
use Rattle.abstract_log.specs.Commands.{is_write, no_plan}
use Rattle.abstract_log.specs.Fits.{commands_of}
use Rattle.log_laws.specs.Writes.{sum_below, writes_in, writes_at, writes_of}
use Rattle.log_laws.proofs.Sums.{sum_below-same, sum_below-add, sum_below-zero, sum_below-one, sum_below-alone}

-- the writes of a plan, if its home is h
abbrev pub at_home : SessionPlan → ℕ → ℕ
at_home plan h = if plan.home == h then writes_in plan.commands else 0

at_another : (plan : SessionPlan) (h : ℕ) → h ≢ plan.home → at_home plan h ≡ 0
at_another plan h other = cond-false (plan.home == h) (writes_in plan.commands) 0 (ne_eqb plan.home h (λ same. other (sym same)))

at_most : (plan : SessionPlan) (h : ℕ) → at_home plan h ≤ writes_in plan.commands
at_most plan h = cond_both (plan.home == h) (writes_in plan.commands) 0 (λ n. n ≤ writes_in plan.commands) (λ _. omega arith) (λ _. omega arith)

-- the writes at all homes are at most all writes
pub homes_together : (plans : List SessionPlan) (n : ℕ) → sum_below (writes_at plans) n ≤ writes_of plans
homes_together [] n = omega (arith, sum_below-zero (writes_at []) n (λ i _. refl))
homes_together (p ∷ ps) n =
    let first : sum_below (at_home p) n ≤ writes_in p.commands = sum_below-alone (at_home p) n p.home (writes_in p.commands) (at_another p) (at_most p p.home) in
    let split : sum_below (writes_at (p ∷ ps)) n ≡ sum_below (λ h. at_home p h + writes_at ps h) n =
    sum_below-same (writes_at (p ∷ ps)) (λ h. at_home p h + writes_at ps h) n (λ h _. sum_by-cons (λ (plan : SessionPlan). at_home plan h) p ps) in
    omega (arith, first, split, sum_below-add (at_home p) (writes_at ps) n, homes_together ps n, sum_by-cons (λ (plan : SessionPlan). writes_in plan.commands) p ps)

-- they are all, where each plan has its home among those
pub homes_whole : (plans : List SessionPlan) (n : ℕ) → ((s : ℕ) → s < length plans → (get_or plans s no_plan).home < n) → sum_below (writes_at plans) n ≡ writes_of plans
homes_whole [] n homes = sum_below-zero (writes_at []) n (λ i _. refl)
homes_whole (p ∷ ps) n homes =
    let none : ℕ → ℕ = λ _. 0 in
    let first : sum_below (at_home p) n ≡ sum_below none n + writes_in p.commands =
    sum_below-one none (at_home p) n p.home (writes_in p.commands) (homes 0 (omega arith)) (at_another p)
    (cond-true (p.home == p.home) (writes_in p.commands) 0 (eq-eqb p.home p.home refl) ∙ omega arith) in
    let split : sum_below (writes_at (p ∷ ps)) n ≡ sum_below (λ h. at_home p h + writes_at ps h) n =
    sum_below-same (writes_at (p ∷ ps)) (λ h. at_home p h + writes_at ps h) n (λ h _. sum_by-cons (λ (plan : SessionPlan). at_home plan h) p ps) in
    omega (
      arith,
      first,
      split,
      sum_below-zero none n (λ i _. refl),
      sum_below-add (at_home p) (writes_at ps) n,
      homes_whole ps n (λ s there. homes (suc s) (omega arith)),
      sum_by-cons (λ (plan : SessionPlan). writes_in plan.commands) p ps,
    )

-- there are at most as many writes as commands
pub writes_are_commands : (plans : List SessionPlan) → writes_of plans ≤ commands_of plans
writes_are_commands [] = omega arith
writes_are_commands (p ∷ ps) = omega (arith, sum_by-cons (λ (plan : SessionPlan). writes_in plan.commands) p ps, count_by-le-length is_write p.commands, writes_are_commands ps)

-- a plan's commands are among all
pub commands_are_counted : (plans : List SessionPlan) (s : ℕ) (d : SessionPlan) → s < length plans → length (get_or plans s d).commands ≤ commands_of plans
commands_are_counted [] s d within = absurd (omega arith)
commands_are_counted (p ∷ ps) zero d within = omega arith
commands_are_counted (p ∷ ps) (suc s) d within = omega (arith, commands_are_counted ps s d (omega arith))

pub writes_in-take : (n : ℕ) (commands : List Command) → writes_in (take n commands) ≤ writes_in commands
writes_in-take n commands = sum_by-take-le (λ c. cond (is_write c) 1 0) commands n

counts_own : (x : Record) (xs : List Record) → count_of (x ∷ xs) x.host ≡ count_of xs x.host + 1
counts_own x xs = omega (arith, ap (λ b. length (cond b (x ∷ records_of x.host xs) (records_of x.host xs))) (eq-eqb x.host x.host refl))

counts_other : (x : Record) (xs : List Record) (h : ℕ) → h ≢ x.host → count_of (x ∷ xs) h ≡ count_of xs h
counts_other x xs h other = ap (λ b. length (cond b (x ∷ records_of h xs) (records_of h xs))) (ne_eqb x.host h (λ same. other (sym same)))

-- each record of a log is counted for one host
pub length_by_hosts : (n : ℕ) (xs : List Record) → All (λ r. r.host < n) xs → length xs ≡ sum_below (count_of xs) n
length_by_hosts n [] fits = sym (sum_below-zero (count_of []) n (λ i _. refl))
length_by_hosts n (x ∷ xs) fits =
    let IsBelow : Record → Type 0 = λ r. r.host < n in
    omega (
      arith,
      length_by_hosts n xs (All-tail IsBelow x xs fits),
      sum_below-one (count_of xs) (count_of (x ∷ xs)) n x.host 1 (All-head IsBelow x xs fits) (counts_other x xs) (counts_own x xs),
    )
