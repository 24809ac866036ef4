-- One duty after another is split off.
use Rattle.std.proofs.Common.{◌≡◌, ◌≢◌, ℕ, ◌<◌, ◌==◌, cond, List, [], ◌∷◌, ap, sym, subst, refl, arith}
use Rattle.std.proofs.lemmas.Bool.Decides.{nat_tests}
use mathlib.Core.Logic.{dite}
use native.Mathlib.Decide.{ℕ_discrete}
use Rattle.journal_lock.specs.declared.duty.Duty.{Duty}
use Rattle.journal_lock.specs.Duties.{number, has, minus, Has, Among, all_duties}
use Rattle.journal_lock.specs.declared.duty.Duty.TheVariants.{Table}
use Rattle.abstract_log.specs.declared.command.Workload.{Workload}
use Rattle.journal_lock.proofs.Lists.{has_cons, has_minus}

pub among_one : (a : Duty) (ds : List Duty) → Has a ds → Among number (a ∷ []) ds
among_one a ds h x = let c = has_cons number x a [] in dite (ℕ_discrete (number a) x)
    (λ e. (let same = ap (λ z. has number z ds) e in let one : cond {A = ℕ} (number a == x) 1 0 ≡ 1 = grind (arith, nat_tests) in omega arith))
    (λ ne. (let none : cond {A = ℕ} (number a == x) 1 0 ≡ 0 = grind (arith, nat_tests) in omega arith))

pub still_has : (a b : Duty) (ds : List Duty) → number a ≢ number b → Has a ds → Has b ds → Has b (minus number ds (a ∷ []))
still_has a b ds ne h k = let none : cond {A = ℕ} (number a == number b) 1 0 ≡ 0 = grind (arith, nat_tests) in omega (arith, has_cons number (number b) a [], has_minus number ds (a ∷ []) (among_one a ds h) (number b))

abbrev pub four : Workload
four = record { dcs = 4; sessions = [] }

one_each : (k : ℕ) → k ≡ 1 → 0 < k
one_each k e = omega arith

first_table : has number 1 (all_duties four) ≡ 1
first_table = refl

second_table : has number 67 (all_duties four) ≡ 1
second_table = refl

third_table : has number 133 (all_duties four) ≡ 1
third_table = refl

fourth_table : has number 199 (all_duties four) ≡ 1
fourth_table = refl

-- four datacentres have a table each
pub tables : (a b c d : ℕ) (ds : List Duty) → a ≡ 0 → b ≡ 1 → c ≡ 2 → d ≡ 3 → ds ≡ all_duties four → Has (Table a) ds × Has (Table b) ds × Has (Table c) ds × Has (Table d) ds
tables a b c d ds p q r s is = subst (λ (z : ℕ × ℕ × ℕ × ℕ × List Duty). Has (Table z.0) z.4 × Has (Table z.1) z.4 × Has (Table z.2) z.4 × Has (Table z.3) z.4) (λ i. (sym p i, sym q i, sym r i, sym s i, sym is i))
    (one_each (has number 1 (all_duties four)) first_table, one_each (has number 67 (all_duties four)) second_table, one_each (has number 133 (all_duties four)) third_table, one_each (has number 199 (all_duties four)) fourth_table)
