-- Whether a stock has something to tell, and where a maintainer has it.
use Rattle.std.proofs.Common.{◌≡◌, ◌≢◌, ℕ, zero, suc, ◌-◌, ◌<◌, ◌≤◌, Bool, true, false, cond, ltb, ◌&&◌, List, [], ◌∷◌, length, take, drop, find, Option, Some, None, refl, ap, sym, ◌∙◌, arith}
use Rattle.std.specs.Prelude.{IsTrue, ◌↔◌, is_some}
use Rattle.std.specs.List.{AllWithin, filter}
use Rattle.std.specs.Option.{option_map}
use Rattle.std.proofs.Math.Seq.{take-length}
use Rattle.std.proofs.lemmas.List.{length-drop}
use Rattle.std.proofs.lemmas.Bool.{false≢true, lt-ltb, le-ltb}
use Rattle.causal_deps.specs.declared.record.Record.{Record}
use Rattle.maintainer.specs.declared.slot.Slot.{Slot}
use Rattle.sender_receiver.specs.Choosing.{first_new, next_new}
use Rattle.sender_receiver.specs.Stocks.{Stocked, IsRisingFrom, records_in}
use Rattle.sender_receiver.proofs.Walking.{some_told, none_told}

-- a next new record is what is told first
pub tells : {A : Type 0} (seen : A → Stocked) (d known : ℕ) (held : List Stocked) (next : Option A) (some : Bool) → IsRisingFrom 0 held
    → option_map seen next ≡ next_new d known 0 held → some ≡ is_some next → IsTrue some ↔ (first_new d known (records_in held) ≢ [])
tells seen d known held None some rising is told = (λ yes. absurd (false≢true (sym told ∙ yes)), λ has. absurd (has (none_told d known held rising (sym is))))
tells seen d known held (Some x) some rising is told = (λ _. some_told d known held (seen x) rising (sym is), λ _. told)

-- the first that passes two tests is the first to pass the second of those that pass the first
pub both_tests : (p q : Slot Record → Bool) (es : List (Slot Record)) → find q (filter p es) ≡ find (λ e. p e && q e) es
both_tests p q [] = refl
both_tests p q (x ∷ xs) = go (p x) (both_tests p q xs)
  where
    go : (b : Bool) → find q (filter p xs) ≡ find (λ e. p e && q e) xs → find q (cond b (x ∷ filter p xs) (filter p xs)) ≡ cond (b && q x) (Some x) (find (λ e. p e && q e) xs)
    go true rest = ap (λ o. cond (q x) (Some x) o) rest
    go false rest = rest

-- where those at or below p are the first i, what is left are those above it
left_are : (p i : ℕ) (es : List (Slot Record)) → AllWithin (λ (x : Slot Record). x.lid ≤ p) es 0 i → AllWithin (λ (x : Slot Record). p < x.lid) es i (length es) → i ≤ length es
    → drop i es ≡ filter (λ e. ltb p e.lid) es
left_are p zero [] low high within = refl
left_are p (suc i) [] low high within = absurd (omega arith)
left_are p zero (x ∷ xs) low high within =
    sym (ap (λ b. cond b (x ∷ filter (λ e. ltb p e.lid) xs) (filter (λ e. ltb p e.lid) xs)) (lt-ltb p x.lid (high 0 x (omega arith) (omega arith)))
    ∙ ap (λ ys. x ∷ ys) (sym (left_are p zero xs (λ k d from lt. absurd (omega arith)) (λ k d from lt. high (suc k) d (omega arith) (omega arith)) (omega arith))))
left_are p (suc i) (x ∷ xs) low high within =
    left_are p i xs (λ k d from lt. low (suc k) d (omega arith) (omega arith)) (λ k d from lt. high (suc k) d (omega arith) (omega arith)) (omega arith)
    ∙ sym (ap (λ b. cond b (x ∷ filter (λ e. ltb p e.lid) xs) (filter (λ e. ltb p e.lid) xs)) (le-ltb p x.lid (low 0 x (omega arith) (omega arith))))

pub above_are : (p i : ℕ) (es : List (Slot Record)) → AllWithin (λ (x : Slot Record). x.lid ≤ p) es 0 i → AllWithin (λ (x : Slot Record). p < x.lid) es i (length es) → i ≤ length es
    → take (length es - i) (drop i es) ≡ filter (λ e. ltb p e.lid) es
above_are p i es low high within = ap (λ n. take n (drop i es)) (sym (length-drop i es)) ∙ take-length (drop i es) ∙ left_are p i es low high within
