-- What a sender reads of its maintainers: their entries, each in its place.
use Rattle.std.proofs.Common.{ℕ, ◌%◌, cond, ltb, eqb, List, [], ◌∷◌, sym, subst, inl, inr, arith}
use Rattle.std.specs.List.{All, Contains, flat_map, fold}
use Rattle.std.proofs.lemmas.Bool.{cond_both}
use Rattle.std.proofs.lemmas.List.Elements.{All-nil, All-cons, All-head, All-tail, All-append}
use Rattle.causal_deps.specs.declared.record.Record.{Record}
use Rattle.maintainer.specs.declared.slot.Slot.{Slot}
use Rattle.maintainer.specs.Maintainers.{MaintainerState}
use Rattle.sender_receiver.specs.Stocks.{Stocked}
use Rattle.stage_world.specs.MoreTurns.{sorted_in, stock_of, stocked}
use Rattle.stage_world.proofs.ListLemmas.{Contains-head, Contains-tail, Contains-cases}

-- the entries of the maintainers that sender k of n reads
abbrev pub read_by : ℕ → ℕ → List (MaintainerState Record) → List (Slot Record)
read_by k n ms = flat_map (λ m. cond (eqb (m.number % n) k) m.entries []) ms

abbrev pub sorted_with : List Stocked → List (Slot Record) → List Stocked
sorted_with held es = fold (λ ys e. sorted_in (stocked e) ys) held es

-- an entry in its place

pub All-sorted_in : (P : Stocked → Type 0) (e : Stocked) (es : List Stocked) → P e → All P es → All P (sorted_in e es)
All-sorted_in P e [] here all = All-cons P e [] here all
All-sorted_in P e (x ∷ xs) here all = cond_both (ltb e.lid x.lid) (e ∷ x ∷ xs) (x ∷ sorted_in e xs) (All P)
    (λ _. All-cons P e (x ∷ xs) here all)
    (λ _. All-cons P x (sorted_in e xs) (All-head P x xs all) (All-sorted_in P e xs here (All-tail P x xs all)))

pub Contains-sorted_in : (e x : Stocked) (es : List Stocked) → Contains es x → Contains (sorted_in e es) x
Contains-sorted_in e x [] has = absurd (omega (arith, has.1))
Contains-sorted_in e x (y ∷ ys) has = cond_both (ltb e.lid y.lid) (e ∷ y ∷ ys) (y ∷ sorted_in e ys) (λ zs. Contains zs x)
    (λ _. Contains-tail e x (y ∷ ys) has)
    (λ _. elim (Contains-cases y x ys has) [
      | inl same ↦ subst (λ z. Contains (z ∷ sorted_in e ys) x) (sym same) (Contains-head x (sorted_in e ys))
      | inr later ↦ Contains-tail y x (sorted_in e ys) (Contains-sorted_in e x ys later)
    ])

pub there-sorted_in : (e : Stocked) (es : List Stocked) → Contains (sorted_in e es) e
there-sorted_in e [] = Contains-head e []
there-sorted_in e (y ∷ ys) = cond_both (ltb e.lid y.lid) (e ∷ y ∷ ys) (y ∷ sorted_in e ys) (λ zs. Contains zs e)
    (λ _. Contains-head e (y ∷ ys))
    (λ _. Contains-tail y e (sorted_in e ys) (there-sorted_in e ys))

-- several entries

pub All-sorted : (P : Stocked → Type 0) (held : List Stocked) (es : List (Slot Record)) → All P held → All (λ e. P (stocked e)) es → All P (sorted_with held es)
All-sorted P held [] had all = had
All-sorted P held (e ∷ es) had all =
    All-sorted P (sorted_in (stocked e) held) es (All-sorted_in P (stocked e) held (All-head (λ x. P (stocked x)) e es all) had) (All-tail (λ x. P (stocked x)) e es all)

pub Contains-sorted : (x : Stocked) (held : List Stocked) (es : List (Slot Record)) → Contains held x → Contains (sorted_with held es) x
Contains-sorted x held [] has = has
Contains-sorted x held (e ∷ es) has = Contains-sorted x (sorted_in (stocked e) held) es (Contains-sorted_in (stocked e) x held has)

pub there-sorted : (e : Slot Record) (held : List Stocked) (es : List (Slot Record)) → Contains es e → Contains (sorted_with held es) (stocked e)
there-sorted e held [] has = absurd (omega (arith, has.1))
there-sorted e held (y ∷ ys) has = elim (Contains-cases y e ys has) [
  | inl same ↦ Contains-sorted (stocked e) (sorted_in (stocked y) held) ys (subst (λ z. Contains (sorted_in (stocked z) held) (stocked e)) (sym same) (there-sorted_in (stocked e) held))
  | inr later ↦ there-sorted e (sorted_in (stocked y) held) ys later
]

-- the maintainers that are read

pub All-read_by : (P : Slot Record → Type 0) (k n : ℕ) (ms : List (MaintainerState Record)) → All (λ m. All P m.entries) ms → All P (read_by k n ms)
All-read_by P k n [] all = All-nil P
All-read_by P k n (m ∷ ms) all = All-append P (cond (eqb (m.number % n) k) m.entries []) (read_by k n ms)
    (cond_both (eqb (m.number % n) k) m.entries [] (All P) (λ _. All-head (λ (x : MaintainerState Record). All P x.entries) m ms all) (λ _. All-nil P))
    (All-read_by P k n ms (All-tail (λ (x : MaintainerState Record). All P x.entries) m ms all))

-- what holds of every entry that is read holds of the stock
pub All-stock : (P : Stocked → Type 0) (k n : ℕ) (ms : List (MaintainerState Record)) → All (λ m. All (λ e. P (stocked e)) m.entries) ms → All P (stock_of ms k n)
All-stock P k n ms all = All-sorted P [] (read_by k n ms) (All-nil P) (All-read_by (λ e. P (stocked e)) k n ms all)
