-- A list of records as a stock.
use Rattle.std.proofs.Common.{◌≡◌, ℕ, zero, suc, ◌+◌, ◌-◌, ◌<◌, ◌≤◌, ◌==◌, cond, List, [], ◌∷◌, length, find, Option, Some, None, IsSome, slice_get, get_or, drop, true, false, refl, ap, sym, ◌∙◌, add-one, arith, inl, inr}
use Rattle.std.specs.Prelude.{nat_lt}
use Rattle.std.specs.Option.{option_map}
use Rattle.std.proofs.lemmas.Bool.{lt-ltb, le-ltb, eq-eqb, ne_eqb, cases_lt}
use Rattle.std.proofs.lemmas.Option.{slice_get_within}
use Rattle.causal_deps.specs.declared.record.Record.{Record}
use Rattle.sender_receiver.specs.Stocks.{Stocked, place_after, record_placed, records_in, stocked_from}
use Rattle.sender_receiver.specs.Choosing.{is_new_above, next_new}
use Rattle.std.proofs.lemmas.List.{at_drop_more, drop_all}

-- the first place after one that is passed is looked for in the rest
after_here : (n : ℕ) (r : Record) (rs : List Record) (lid : ℕ) → lid < n → place_after (stocked_from n (r ∷ rs)) lid ≡ Some n
after_here n r rs lid past =
    ap (λ b. option_map (λ (x : Stocked). x.lid) (cond b (Some (record { lid = n; rec = r })) (find (λ x. nat_lt lid x.lid) (stocked_from (suc n) rs)))) (lt-ltb lid n past)

after_later : (n : ℕ) (r : Record) (rs : List Record) (lid : ℕ) → n ≤ lid → place_after (stocked_from n (r ∷ rs)) lid ≡ place_after (stocked_from (suc n) rs) lid
after_later n r rs lid before =
    ap (λ b. option_map (λ (x : Stocked). x.lid) (cond b (Some (record { lid = n; rec = r })) (find (λ x. nat_lt lid x.lid) (stocked_from (suc n) rs)))) (le-ltb lid n before)

pub after_some : (n : ℕ) (records : List Record) (lid : ℕ) → n ≤ suc lid → suc lid < n + length records → place_after (stocked_from n records) lid ≡ Some (lid + 1)
after_some n [] lid from within = absurd (omega arith)
after_some n (r ∷ rs) lid from within = elim (cases_lt lid n) [
  | inl past ↦ let e : n ≡ lid + 1 = omega arith in after_here n r rs lid past ∙ ap (λ k. Some k) e
  | inr before ↦ after_later n r rs lid before ∙ after_some (suc n) rs lid (omega arith) (omega arith)
]

pub after_none : (n : ℕ) (records : List Record) (lid : ℕ) → n + length records ≤ suc lid → place_after (stocked_from n records) lid ≡ None
after_none n [] lid past = refl
after_none n (r ∷ rs) lid past = after_later n r rs lid (omega arith) ∙ after_none (suc n) rs lid (omega arith)

at_here : (n : ℕ) (r : Record) (rs : List Record) (lid : ℕ) → n ≡ lid → record_placed (stocked_from n (r ∷ rs)) lid ≡ Some r
at_here n r rs lid same =
    ap (λ b. option_map (λ (x : Stocked). x.rec) (cond b (Some (record { lid = n; rec = r })) (find (λ x. x.lid == lid) (stocked_from (suc n) rs)))) (eq-eqb n lid same)

at_later : (n : ℕ) (r : Record) (rs : List Record) (lid : ℕ) → (n ≡ lid → ⊥) → record_placed (stocked_from n (r ∷ rs)) lid ≡ record_placed (stocked_from (suc n) rs) lid
at_later n r rs lid other =
    ap (λ b. option_map (λ (x : Stocked). x.rec) (cond b (Some (record { lid = n; rec = r })) (find (λ x. x.lid == lid) (stocked_from (suc n) rs)))) (ne_eqb n lid other)

pub at_place : (n : ℕ) (records : List Record) (lid i : ℕ) → lid ≡ n + i → record_placed (stocked_from n records) lid ≡ slice_get records i
at_place n [] lid i is = refl
at_place n (r ∷ rs) lid zero is = at_here n r rs lid (omega arith)
at_place n (r ∷ rs) lid (suc i) is = at_later n r rs lid (λ e. omega arith) ∙ at_place (suc n) rs lid i (omega arith)

-- nothing is held below the first place
pub at_none : (n : ℕ) (records : List Record) (lid : ℕ) → lid < n → record_placed (stocked_from n records) lid ≡ None
at_none n [] lid below = refl
at_none n (r ∷ rs) lid below = at_later n r rs lid (λ e. omega arith) ∙ at_none (suc n) rs lid (omega arith)

some_is_not_none : (o : Option Record) → IsSome o → o ≡ None → ⊥
some_is_not_none None some none = cc
some_is_not_none (Some r) some none = cc

of_is_some : (o : Option Record) → IsSome o → (r : Record) × (o ≡ Some r)
of_is_some None some = absurd (cc)
of_is_some (Some r) some = (r, refl)

-- a place that is there is one of the list's
pub place_within : (records : List Record) (lid : ℕ) → IsSome (record_placed (stocked_from 1 records) lid) → (1 ≤ lid) × (lid - 1 < length records)
place_within records lid some = elim (cases_lt lid 1) [
  | inl below ↦ absurd (some_is_not_none (record_placed (stocked_from 1 records) lid) some (at_none 1 records lid below))
  | inr from ↦
      let there = of_is_some (record_placed (stocked_from 1 records) lid) some in
      (omega arith, slice_get_within records (lid - 1) there.0 (sym (at_place 1 records lid (lid - 1) (omega arith)) ∙ there.1))
]

pub read_at : (records : List Record) (lid : ℕ) (r : Record) → 1 ≤ lid → Some r ≡ slice_get records (lid - 1) → record_placed (stocked_from 1 records) lid ≡ Some r
read_at records lid r from is = at_place 1 records lid (lid - 1) (omega arith) ∙ sym is

pub not_missing : (records : List Record) (lid : ℕ) → IsSome (record_placed (stocked_from 1 records) lid) → None ≡ slice_get records (lid - 1) → ⊥
not_missing records lid some none =
    let from = (place_within records lid some).0 in
    some_is_not_none (record_placed (stocked_from 1 records) lid) some (at_place 1 records lid (lid - 1) (omega arith) ∙ sym none)

-- the records of such a stock are the list's
pub records_in-stocked_from : (n : ℕ) (records : List Record) → records_in (stocked_from n records) ≡ records
records_in-stocked_from n [] = refl
records_in-stocked_from n (r ∷ rs) = ap (λ xs. r ∷ xs) (records_in-stocked_from (suc n) rs)

-- the first new record is looked for in what is left, where the first i are none
module _ (d known lid : ℕ) where
  abbrev pub AreOld : List Record → ℕ → Type 0
  AreOld records i = next_new d known lid (stocked_from (i + 1) (drop i records)) ≡ next_new d known lid (stocked_from 1 records)

  left : (records : List Record) (i : ℕ) (r : Record) → i < length records → r ≡ get_or records i r
      → next_new d known lid (stocked_from (i + 1) (drop i records)) ≡ cond (is_new_above d known lid (record { lid = i + 1; rec = r })) (Some (record { lid = i + 1; rec = r })) (next_new d known lid (stocked_from (i + 1 + 1) (drop (i + 1) records)))
  left records i r within is =
      at_drop_more (λ rs. next_new d known lid (stocked_from (i + 1) rs)) records i r within
      ∙ ap (λ x. next_new d known lid (stocked_from (i + 1) (x ∷ drop (i + 1) records))) (sym is)
      ∙ ap (λ n. cond (is_new_above d known lid (record { lid = i + 1; rec = r })) (Some (record { lid = i + 1; rec = r })) (next_new d known lid (stocked_from n (drop (i + 1) records)))) (sym (add-one (i + 1)))

  pub old_more : (records : List Record) (i : ℕ) (r : Record) → i < length records → r ≡ get_or records i r → is_new_above d known lid (record { lid = i + 1; rec = r }) ≡ false
      → AreOld records i → AreOld records (i + 1)
  old_more records i r within is old h =
      sym (left records i r within is ∙ ap (λ b. cond b (Some (record { lid = i + 1; rec = r })) (next_new d known lid (stocked_from (i + 1 + 1) (drop (i + 1) records)))) old) ∙ h

  pub new_here : (records whole : List Record) (i : ℕ) (r : Record) → records ≡ whole → i < length records → r ≡ get_or records i r → is_new_above d known lid (record { lid = i + 1; rec = r }) ≡ true
      → AreOld records i → Some (record { lid = i + 1; rec = r }) ≡ next_new d known lid (stocked_from 1 whole)
  new_here records whole i r same within is new h =
      sym (left records i r within is ∙ ap (λ b. cond b (Some (record { lid = i + 1; rec = r })) (next_new d known lid (stocked_from (i + 1 + 1) (drop (i + 1) records)))) new)
      ∙ h ∙ ap (λ rs. next_new d known lid (stocked_from 1 rs)) same

  pub all_old : (records whole : List Record) (i : ℕ) → records ≡ whole → length records ≤ i → AreOld records i → None ≡ next_new d known lid (stocked_from 1 whole)
  all_old records whole i same past h =
      ap (λ rs. next_new d known lid (stocked_from (i + 1) rs)) (sym (drop_all i records past)) ∙ h ∙ ap (λ rs. next_new d known lid (stocked_from 1 rs)) same
