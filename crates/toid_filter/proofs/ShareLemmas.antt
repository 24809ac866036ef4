-- Shares of a host's numbers, and the filters that they deal them to.
use Rattle.std.proofs.Common.{◌≡◌, ◌↔◌, ℕ, ◌+◌, ◌-◌, ◌*◌, ◌/◌, ◌%◌, ◌<◌, ◌≤◌, min, max, cond, leb, List, [], ◌∷◌, ◌++◌, zero, suc, length, take, drop, get_or, set, refl, ap, ap₂, sym, ◌∙◌, subst, inl, inr, arith, add-one, Some, slice_get}
use Rattle.std.proofs.Math.Nat.{div-add-mod, add-mul-mod_self_left}
use Rattle.std.proofs.Math.Seq.{drop-cons, take-suc}
use Rattle.std.specs.List.{All, AllPairs}
use Rattle.std.proofs.lemmas.Nat.{mod_below}
use Rattle.std.proofs.lemmas.Bool.{cases_lt, cond-true, cond-false, le-leb, lt-leb}
use Rattle.std.proofs.lemmas.List.{length-replicate, length-drop, length-set, get_or-drop, get_or_default, nil_from_length}
use Rattle.std.proofs.lemmas.List.Elements.{All-nil, All-cons, All-head, All-tail, All-push, All-replicate, All-set, All-contains}
use Rattle.std.proofs.lemmas.List.Quantifiers.{all_pairs_push}
use Rattle.causal_deps.proofs.Lists.{Contains-slice_get}
use Rattle.toid_filter.specs.declared.champions.Share.{Share}
use Rattle.toid_filter.specs.Champions.{share_from, dealt_by, dealt_from, AreShares, IsMap, first_map, grown, last_of_shares, last_share, IsServedBy, Serves, sole_share}

-- a summand may be reduced first
pub mod_inside : (a i n : ℕ) → (a + i % n) % n ≡ (a + i) % n
mod_inside a i n =
    let whole : (a + i % n) + n * (i / n) ≡ a + i = omega (arith, div-add-mod i n) in
    sym (add-mul-mod_self_left (a + i % n) n (i / n)) ∙ ap (λ x. x % n) whole

pub dealt_is : (s t h n : ℕ) → s ≤ t → ((t - s) % n + h) % n ≡ ((h + t) - s) % n
dealt_is s t h n start =
    let turned : (t - s) % n + h ≡ h + (t - s) % n = omega arith in
    let whole : h + (t - s) ≡ (h + t) - s = omega arith in
    ap (λ x. x % n) turned ∙ mod_inside h (t - s) n ∙ ap (λ x. x % n) whole

-- a filter that gets a number gets one of the first so many numbers
pub served_soon : (share : Share) (h filter from until : ℕ) → share.start ≤ from → 1 ≤ share.filters → IsServedBy (dealt_by share h) filter from until
    → (t : ℕ) × (from ≤ t) × (t < until) × (t < from + share.filters) × (dealt_by share h t ≡ filter)
served_soon share h filter from until start some (t, low, high, is) =
    let n : ℕ = share.filters in
    let i : ℕ = t - from in
    let a : ℕ = (h + from) - share.start in
    let below : i % n < n = mod_below i n (omega arith) in
    let parts = div-add-mod i n in
    let far : (h + t) - share.start ≡ a + i = omega arith in
    let near : (h + (from + i % n)) - share.start ≡ a + i % n = omega arith in
    (from + i % n, omega arith, omega arith, omega arith, ap (λ x. x % n) near ∙ mod_inside a i n ∙ sym (ap (λ x. x % n) far) ∙ is)

-- before all starts the share stays
share_before : (found : Share) (es : List Share) (t : ℕ) → All (λ e. t < e.start) es → share_from found es t ≡ found
share_before found [] t all = refl
share_before found (e ∷ es) t all =
    let here : t < e.start = All-head (λ (x : Share). t < x.start) e es all in
    let stays : cond (leb e.start t) e found ≡ found = cond-false (leb e.start t) e found (lt-leb e.start t here) in
    ap (λ s. share_from s es t) stays ∙ share_before found es t (All-tail (λ (x : Share). t < x.start) e es all)

module _ (e found : Share) (es : List Share) (later : All (λ x. e.start < x.start) es) (h filter low until : ℕ) where
  abbrev Here : Type 0
  Here = IsServedBy (dealt_by found h) filter low (min until e.start)

  abbrev Later : Type 0
  Later = IsServedBy (dealt_from e es h) filter (max low e.start) until

  abbrev Whole : Type 0
  Whole = IsServedBy (dealt_from found (e ∷ es) h) filter low until

  first_is : (t : ℕ) → t < e.start → dealt_from found (e ∷ es) h t ≡ dealt_by found h t
  first_is t before = ap (λ s. dealt_by s h t) (share_before found (e ∷ es) t (All-cons (λ (x : Share). t < x.start) e es before (λ i d within. let after = later i d within in omega arith)))

  rest_is : (t : ℕ) → e.start ≤ t → dealt_from found (e ∷ es) h t ≡ dealt_from e es h t
  rest_is t after = ap (λ s. dealt_from s es h t) (cond-true (leb e.start t) e found (le-leb e.start t after))

  here_whole : Here → Whole
  here_whole (t, from, under, is) = (t, from, omega arith, first_is t (omega arith) ∙ is)

  later_whole : Later → Whole
  later_whole (t, from, under, is) = (t, omega arith, under, rest_is t (omega arith) ∙ is)

  whole_later : (Here → ⊥) → Whole → Later
  whole_later none (t, from, under, is) = elim (cases_lt t e.start) [
    | inl before ↦ absurd (none (t, from, omega arith, sym (first_is t before) ∙ is))
    | inr after ↦ (t, omega arith, under, sym (rest_is t after) ∙ is)
  ]

module _ (items : List Share) (i : ℕ) (d found : Share) (shares : AreShares items) (within : i < length items) (h filter low until : ℕ) where
  abbrev item : Share
  item = get_or items i d

  parted : drop i items ≡ item ∷ drop (i + 1) items
  parted = drop-cons items i d within ∙ ap (λ n. item ∷ drop n items) (sym (add-one i))

  after_it : All (λ x. item.start < x.start) (drop (i + 1) items)
  after_it = λ k c inside.
      let deep : i + 1 + k < length items = omega (arith, length-drop (i + 1) items) in
      let rises : (get_or items i c).start < (get_or items (i + 1 + k) c).start = shares.rising i (i + 1 + k) c (omega arith) deep in
      omega (arith, ap (λ (x : Share). x.start) (get_or_default items i d c within), ap (λ (x : Share). x.start) (get_or-drop (i + 1) items k c), rises)

  abbrev FromHere : Type 0
  FromHere = IsServedBy (dealt_from found (drop i items) h) filter low until

  pub served_here : (cap : ℕ) → cap ≡ min until item.start → IsServedBy (dealt_by found h) filter low cap → FromHere
  served_here cap is served = subst (λ xs. IsServedBy (dealt_from found xs h) filter low until) (sym parted)
      (here_whole item found (drop (i + 1) items) after_it h filter low until (subst (λ n. IsServedBy (dealt_by found h) filter low n) is served))

  pub served_later : (next : ℕ) → next ≡ max low item.start → IsServedBy (dealt_from item (drop (i + 1) items) h) filter next until → FromHere
  served_later next is served = subst (λ xs. IsServedBy (dealt_from found xs h) filter low until) (sym parted)
      (later_whole item found (drop (i + 1) items) after_it h filter low until (subst (λ n. IsServedBy (dealt_from item (drop (i + 1) items) h) filter n until) is served))

  pub served_apart : (cap next : ℕ) → cap ≡ min until item.start → next ≡ max low item.start → (IsServedBy (dealt_by found h) filter low cap → ⊥) → FromHere
      → IsServedBy (dealt_from item (drop (i + 1) items) h) filter next until
  served_apart cap next at_cap at_next none served = subst (λ n. IsServedBy (dealt_from item (drop (i + 1) items) h) filter n until) (sym at_next)
      (whole_later item found (drop (i + 1) items) after_it h filter low until (subst (λ n. IsServedBy (dealt_by found h) filter low n → ⊥) at_cap none) (subst (λ xs. IsServedBy (dealt_from found xs h) filter low until) parted served))

  pub item_serves : 1 ≤ item.filters
  item_serves = shares.filters i d within

-- at the end the share found deals all numbers
pub served_last : (items : List Share) (i : ℕ) (found : Share) (h filter low until : ℕ) → length items ≤ i → IsServedBy (dealt_from found (drop i items) h) filter low until ↔ IsServedBy (dealt_by found h) filter low until
served_last items i found h filter low until past =
    let none : drop i items ≡ [] = nil_from_length (drop i items) (omega (arith, length-drop i items)) in
    (subst (λ xs. IsServedBy (dealt_from found xs h) filter low until) none, subst (λ xs. IsServedBy (dealt_from found xs h) filter low until) (sym none))

-- by a host's shares in the map
pub served_map : (map : List (List Share)) (items : List Share) (h filter from until : ℕ) → items ≡ get_or map h [] → IsServedBy (dealt_from sole_share items h) filter from until ↔ Serves map filter h from until
served_map map items h filter from until is = (subst (λ xs. IsServedBy (dealt_from sole_share xs h) filter from until) is, subst (λ xs. IsServedBy (dealt_from sole_share xs h) filter from until) (sym is))

-- a host's shares are shares
pub shares_at : (hosts : List (List Share)) (k : ℕ) (xs ys : List Share) → All AreShares hosts → Some xs ≡ slice_get hosts k → ys ≡ xs → AreShares ys
shares_at hosts k xs ys each is same = subst AreShares (sym same) (All-contains AreShares hosts xs each (Contains-slice_get hosts k xs (sym is)))

pub first_is_map : (dcs filters : ℕ) → 1 ≤ dcs → dcs ≤ 8 → 1 ≤ filters → IsMap (first_map dcs filters)
first_is_map dcs filters some few served =
    let one : Share = record { start = 1; filters = filters } in
    let lengths = length-replicate dcs (one ∷ []) in record {
      some = omega arith;
      few = omega arith;
      each = All-replicate AreShares dcs (one ∷ []) (record {
        filters = All-cons (λ (e : Share). 1 ≤ e.filters) one [] served (All-nil (λ (e : Share). 1 ≤ e.filters));
        rising = λ i j d before inside. absurd (omega arith);
      });
    }

-- the last share, one after another
pub last_of_shares-push : (f : Share) (xs : List Share) (n : Share) → last_of_shares f (xs ++ n ∷ []) ≡ n
last_of_shares-push f [] n = refl
last_of_shares-push f (x ∷ xs) n = last_of_shares-push x xs n

pub last_next : (items : List Share) (i : ℕ) (d : Share) → i < length items → get_or items i d ≡ last_of_shares sole_share (take (i + 1) items)
last_next items i d within =
    sym (ap (λ n. last_of_shares sole_share (take n items)) (add-one i) ∙ ap (last_of_shares sole_share) (take-suc items i d within) ∙ last_of_shares-push sole_share (take i items) (get_or items i d))

pub last_all : (found : Share) (items : List Share) (i : ℕ) → length items ≤ i → found ≡ last_of_shares sole_share (take i items) → found ≡ last_of_shares sole_share items
last_all found items i past is = is ∙ ap (last_of_shares sole_share) (take_past items i past)
  where
    take_past : (xs : List Share) (n : ℕ) → length xs ≤ n → take n xs ≡ xs
    take_past [] zero past = refl
    take_past [] (suc n) past = refl
    take_past (x ∷ xs) zero past = absurd (omega (arith, past))
    take_past (x ∷ xs) (suc n) past = ap (λ ys. x ∷ ys) (take_past xs n (omega (arith, past)))

-- The grown map is a map.

last_greatest : (found : Share) (xs : List Share) → AllPairs (λ e f. e.start < f.start) xs → (k : ℕ) (d : Share) → k < length xs → (get_or xs k d).start ≤ (last_of_shares found xs).start
last_greatest found [] rising k d within = absurd (omega (arith, within))
last_greatest found (x ∷ []) rising zero d within = omega arith
last_greatest found (x ∷ []) rising (suc k) d within = absurd (omega (arith, within))
last_greatest found (x ∷ y ∷ ys) rising zero d within =
    omega (arith, rising 0 1 d (omega arith) (omega arith), last_greatest x (y ∷ ys) (λ i j e less there. rising (suc i) (suc j) e (omega (arith, less)) (omega (arith, there))) 0 d (omega arith))
last_greatest found (x ∷ y ∷ ys) rising (suc k) d within =
    last_greatest x (y ∷ ys) (λ i j e less there. rising (suc i) (suc j) e (omega (arith, less)) (omega (arith, there))) k d (omega (arith, within))

shares_grown : (shares : List Share) (e : Share) → AreShares shares → 1 ≤ e.filters → (last_of_shares sole_share shares).start < e.start → AreShares (shares ++ e ∷ [])
shares_grown shares e are some above = record {
  filters = All-push (λ (x : Share). 1 ≤ x.filters) shares e are.filters some;
  rising = all_pairs_push (λ (a b : Share). a.start < b.start) shares e are.rising (λ k d within. omega (arith, above, last_greatest sole_share shares are.rising k d within));
}

pub grown_is_map : (m : List (List Share)) (h mark : ℕ) → IsMap m → h < length m → (last_share m h).start < mark → IsMap (grown m h mark)
grown_is_map m h mark is within above =
    let e : Share = record { start = mark; filters = (last_share m h).filters + 1 } in
    let size : length (grown m h mark) ≡ length m = length-set m h (get_or m h [] ++ e ∷ []) in
    record {
      some = omega (arith, is.some, size);
      few = omega (arith, is.few, size);
      each = All-set AreShares m h (get_or m h [] ++ e ∷ []) (shares_grown (get_or m h []) e (is.each h [] within) (omega arith) above) is.each;
    }

-- the copy with one share more at a host
pub pushed_is_grown : (m hosts : List (List Share)) (h mark at filters : ℕ) (was now : List Share) → hosts ≡ m → h < length m → at ≡ h → was ≡ get_or hosts at was → now ≡ was ++ (record { start = mark; filters = filters + 1 }) ∷ []
    → filters ≡ (last_share m h).filters → set hosts at now ≡ grown m h mark
pushed_is_grown m hosts h mark at filters was now same within place was_is now_is count =
    let there : was ≡ get_or m h [] = was_is ∙ get_or_default hosts at was [] (omega (arith, within, place, ap (length {A = List Share}) same)) ∙ ap₂ (λ xs i. get_or xs i []) same place in
    ap₂ (λ xs i. set xs i now) same place
    ∙ ap (set m h) (now_is ∙ ap₂ (λ (xs : List Share) n. xs ++ (record { start = mark; filters = n + 1 }) ∷ []) there count)
