-- What a sender reads: the records of its maintainers by rising position, and the first that it has to tell.
use Rattle.std.proofs.Common.{◌≡◌, ◌⊎◌, ℕ, ◌%◌, ◌<◌, ◌≤◌, true, false, Bool, cond, ltb, eqb, List, [], ◌∷◌, take, filter, refl, ap, sym, subst, ◌∙◌, inl, inr, arith}
use Rattle.std.specs.List.{All, Contains}
use Rattle.std.proofs.lemmas.List.Elements.{All-nil, All-cons, All-contains, Contains-append_left, Contains-append_right}
use Rattle.std.proofs.lemmas.List.Sums.{sum_by-cons}
use Rattle.std.proofs.lemmas.Bool.{cases_lt, cases_eq, cond_both, cond-true, cond-false, ltb-true, ltb-false, eq-eqb, eqb-true, true≢false}
use Rattle.causal_deps.specs.declared.record.Record.{Record}
use Rattle.maintainer.specs.declared.slot.Slot.{Slot}
use Rattle.maintainer.specs.Maintainers.{MaintainerState, times_in, times, times_filled}
use Rattle.sender_receiver.specs.Choosing.{is_new, first_new}
use Rattle.sender_receiver.specs.Stocks.{Stocked, records_in}
use Rattle.stage_world.specs.Stages.{filled}
use Rattle.stage_world.specs.StandsFor.{gone_times}
use Rattle.stage_world.specs.MoreTurns.{stocked, sorted_in, stock_of}
use Rattle.stage_world.proofs.ListLemmas.{Contains-head, Contains-tail, Contains-cases}
use Rattle.stage_world.proofs.StockLemmas.{read_by, sorted_with, All-sorted_in, there-sorted}

-- positions do not fall along the list
abbrev pub IsRising : List Stocked → Type 0
IsRising [] = Unit {0}
IsRising (x ∷ xs) = All (λ y. x.lid ≤ y.lid) xs × IsRising xs

rising_in : (e : Stocked) (es : List Stocked) → IsRising es → IsRising (sorted_in e es)
rising_in e [] rise = (All-nil (λ (y : Stocked). e.lid ≤ y.lid), tt)
rising_in e (x ∷ xs) rise = cond_both (ltb e.lid x.lid) (e ∷ x ∷ xs) (x ∷ sorted_in e xs) IsRising
    (λ below.
    let less : e.lid < x.lid = ltb-true e.lid x.lid below in
    (All-cons (λ (y : Stocked). e.lid ≤ y.lid) x xs (omega arith) (λ k d within. omega (arith, less, rise.0 k d within)), rise))
    (λ above. (All-sorted_in (λ (y : Stocked). x.lid ≤ y.lid) e xs (ltb-false e.lid x.lid above) rise.0, rising_in e xs rise.1))

rising_all : (es : List (Slot Record)) (sorted : List Stocked) → IsRising sorted → IsRising (sorted_with sorted es)
rising_all [] sorted rise = rise
rising_all (e ∷ es) sorted rise = rising_all es (sorted_in (stocked e) sorted) (rising_in (stocked e) sorted rise)

-- an entry of a maintainer is one of its sender's
entry_chosen : (ms : List (MaintainerState Record)) (n : ℕ) (m : MaintainerState Record) (e : Slot Record) → Contains ms m → Contains m.entries e → Contains (read_by (m.number % n) n ms) e
entry_chosen [] n m e has_m has_e = absurd (omega (arith, has_m.1))
entry_chosen (x ∷ xs) n m e has_m has_e = elim (Contains-cases x m xs has_m) [
  | inl same ↦ Contains-append_left (cond (eqb (x.number % n) (m.number % n)) x.entries []) (read_by (m.number % n) n xs) e
      (subst (λ (v : MaintainerState Record). Contains (cond (eqb (v.number % n) (m.number % n)) v.entries []) e) (sym same)
      (subst (λ es. Contains es e) (sym (cond-true (eqb (m.number % n) (m.number % n)) m.entries [] (eq-eqb (m.number % n) (m.number % n) refl))) has_e))
  | inr later ↦ Contains-append_right (cond (eqb (x.number % n) (m.number % n)) x.entries []) (read_by (m.number % n) n xs) e (entry_chosen xs n m e later has_e)
]

-- an entry at p, where p is among the positions
entry_at : (p : ℕ) (es : List (Slot Record)) → 1 ≤ times_in p es → (e : Slot Record) × Contains es e × (e.lid ≡ p)
entry_at p [] some = absurd (omega arith)
entry_at p (x ∷ xs) some = at (cases_eq x.lid p) (λ rest. entry_at p xs rest)
  where
    at : (x.lid ≡ p) ⊎ (x.lid ≡ p → ⊥) → (1 ≤ times_in p xs → (e : Slot Record) × Contains xs e × (e.lid ≡ p)) → (e : Slot Record) × Contains (x ∷ xs) e × (e.lid ≡ p)
    at (inl same) later = (x, Contains-head x xs, same)
    at (inr other) later =
        let none : cond (eqb x.lid p) 1 0 ≡ 0 = cond_both (eqb x.lid p) 1 0 (λ (n : ℕ). n ≡ 0) (λ is. absurd (other (eqb-true x.lid p is))) (λ _. refl) in
        let rest = later (omega (arith, some, sum_by-cons (λ (y : Slot Record). cond (eqb y.lid p) 1 0) x xs, none)) in
        (rest.0, Contains-tail x rest.0 xs rest.1, rest.2)

-- a position that is filled and not gone has an entry at some maintainer
pub some_entry : (p : ℕ) (ms : List (MaintainerState Record)) → 1 ≤ filled p ms → gone_times p ms ≡ 0 → (m : MaintainerState Record) × Contains ms m × ((e : Slot Record) × Contains m.entries e × (e.lid ≡ p))
some_entry p [] some none = absurd (omega arith)
some_entry p (m ∷ ms) some none = at (cases_lt 0 (times_in p m.entries)) (λ rest. some_entry p ms rest (omega (arith, none, sum_by-cons (λ (x : MaintainerState Record). times p x.gone) m ms)))
  where
    at : (0 < times_in p m.entries) ⊎ (times_in p m.entries ≤ 0) → (1 ≤ filled p ms → (x : MaintainerState Record) × Contains ms x × ((e : Slot Record) × Contains x.entries e × (e.lid ≡ p)))
        → (x : MaintainerState Record) × Contains (m ∷ ms) x × ((e : Slot Record) × Contains x.entries e × (e.lid ≡ p))
    at (inl here) later = (m, Contains-head m ms, entry_at p m.entries (omega arith))
    at (inr none_here) later =
        let rest = later (omega (arith, some, none, none_here, sum_by-cons (times_filled p) m ms, sum_by-cons (λ (x : MaintainerState Record). times p x.gone) m ms)) in
        (rest.0, Contains-tail m rest.0 ms rest.1, rest.2)

-- The stock of the sender of a maintainer has its entries, and rises.
pub stock_has : (ms : List (MaintainerState Record)) (n : ℕ) (m : MaintainerState Record) (e : Slot Record) → Contains ms m → Contains m.entries e → Contains (stock_of ms (m.number % n) n) (stocked e)
stock_has ms n m e has_m has_e = there-sorted e [] (read_by (m.number % n) n ms) (entry_chosen ms n m e has_m has_e)

pub stock_rises : (ms : List (MaintainerState Record)) (k n : ℕ) → IsRising (stock_of ms k n)
stock_rises ms k n = rising_all (read_by k n ms) [] tt

-- The first new record of a stock is told: whatever is new up to its position is that record.
pub first_told : (d known : ℕ) (xs : List Stocked) (q : Stocked) → IsRising xs → Contains xs q → is_new d known q.rec ≡ true
    → ((y : Stocked) → Contains xs y → y.lid ≤ q.lid → is_new d known y.rec ≡ true → y.rec ≡ q.rec) → Contains (first_new d known (records_in xs)) q.rec
first_told d known [] q rise has new only = absurd (omega (arith, has.1))
first_told d known (x ∷ xs) q rise has new only = at (is_new d known x.rec) refl (λ later. first_told d known xs q rise.1 later new (λ y is. only y (Contains-tail x y xs is)))
  where
    up_to : x.lid ≤ q.lid
    up_to = elim (Contains-cases x q xs has) [
      | inl same ↦ omega (arith, ap (λ (y : Stocked). y.lid) same)
      | inr later ↦ All-contains (λ (y : Stocked). x.lid ≤ y.lid) xs q rise.0 later
    ]

    at : (b : Bool) → is_new d known x.rec ≡ b → (Contains xs q → Contains (first_new d known (records_in xs)) q.rec) → Contains (take 16 (cond (is_new d known x.rec) (x.rec ∷ filter (is_new d known) (records_in xs)) (filter (is_new d known) (records_in xs)))) q.rec
    at true is later =
        let same : x.rec ≡ q.rec = only x (Contains-head x xs) up_to is in
        subst (λ rs. Contains (take 16 rs) q.rec) (sym (cond-true (is_new d known x.rec) (x.rec ∷ filter (is_new d known) (records_in xs)) (filter (is_new d known) (records_in xs)) is))
        (subst (λ r. Contains (take 16 (r ∷ filter (is_new d known) (records_in xs))) q.rec) (sym same) (Contains-head q.rec (take 15 (filter (is_new d known) (records_in xs)))))
    at false is later =
        subst (λ rs. Contains (take 16 rs) q.rec) (sym (cond-false (is_new d known x.rec) (x.rec ∷ filter (is_new d known) (records_in xs)) (filter (is_new d known) (records_in xs)) is))
        (elim (Contains-cases x q xs has) [
          | inl same ↦ absurd (true≢false (sym new ∙ ap (λ (y : Stocked). is_new d known y.rec) (sym same) ∙ is))
          | inr there ↦ later there
        ])
