-- Owners by epoch lists, of which one is the beginning of the other, and by one list epoch by epoch.
use Rattle.std.proofs.Common.{◌≡◌, ℕ, zero, suc, ◌+◌, ◌-◌, ◌^◌, ◌<◌, ◌≤◌, cond, ltb, leb, List, [], ◌∷◌, ◌++◌, length, take, drop, get_or, refl, ap, sym, ◌∙◌, inl, inr, arith}
use Rattle.std.specs.List.{All}
use Rattle.std.proofs.lemmas.List.{take-append-drop, drop-drop, take-append-le, drop-append-le, length-append, get_or-drop, length-drop, take_all, drop_all}
use Rattle.std.proofs.lemmas.List.Elements.{All-drop, All-head, All-tail, All-same, All-push, All-get_or, All-from_get_or, All-nil, All-cons}
use Rattle.std.proofs.lemmas.Bool.{cases_lt, cases_eq, cond-true, cond-false, cond_both, lt-leb, le-leb, ltb-true, ltb-false}
use Rattle.std.proofs.Math.Seq.{drop-cons}
use Rattle.std.proofs.Math.ListN.{get_or-append}
use Rattle.std.proofs.lemmas.List.{get_or_push}
use Rattle.flstore_rounds.specs.declared.epochs.Epoch.{Epoch}
use Rattle.flstore_rounds.specs.Epochs.{EpochList, epoch_at, epoch_from, first_epoch, last_from, last_epoch, owner, owner_in, with_epoch, IsEpochList, IsPrefix, IsSettled, later_than, longer}

pub epoch_from-append : (f : Epoch) (xs ys : List Epoch) (p : ℕ) → epoch_from f (xs ++ ys) p ≡ epoch_from (epoch_from f xs p) ys p
epoch_from-append f [] ys p = refl
epoch_from-append f (x ∷ xs) ys p = epoch_from-append (cond (leb x.start p) x f) xs ys p

pub epoch_from-above : (f : Epoch) (ys : List Epoch) (p : ℕ) → All (λ n. p < n.start) ys → epoch_from f ys p ≡ f
epoch_from-above f [] p above = refl
epoch_from-above f (y ∷ ys) p above =
    let first : p < y.start = All-head (λ (n : Epoch). p < n.start) y ys above in
    ap (λ x. epoch_from x ys p) (cond-false (leb y.start p) y f (lt-leb y.start p first))
    ∙ epoch_from-above f ys p (All-tail (λ (n : Epoch). p < n.start) y ys above)

-- where e settles a position, it deals it as t does
pub owner-prefix : (e t : EpochList) (p : ℕ) → IsPrefix e t → IsSettled t e p → owner e p ≡ owner t p
owner-prefix e t p pre settled =
    let n : ℕ = length e.list in
    let whole : epoch_from first_epoch t.list p ≡ epoch_from first_epoch e.list p =
    ap (λ xs. epoch_from first_epoch xs p) (sym (take-append-drop n t.list))
    ∙ epoch_from-append first_epoch (take n t.list) (drop n t.list) p
    ∙ epoch_from-above (epoch_from first_epoch (take n t.list) p) (drop n t.list) p settled
    ∙ ap (λ xs. epoch_from first_epoch xs p) (sym pre.same) in
    ap (λ x. owner_in e.round x p) (sym whole) ∙ ap (λ r. owner_in r (epoch_from first_epoch t.list p) p) pre.round

-- what holds of all epochs that a list lacks holds of all that a longer one lacks
pub All-later : (P : Epoch → Type 0) (e f t : EpochList) → length e.list ≤ length f.list → All P (later_than e t) → All P (later_than f t)
All-later P e f t short all =
    let more : ℕ = length f.list - length e.list in
    let is : drop more (drop (length e.list) t.list) ≡ drop (length f.list) t.list =
    drop-drop more (length e.list) t.list ∙ ap (λ n. drop n t.list) (omega arith) in
    All-same P (later_than f t) (drop more (drop (length e.list) t.list)) (sym is) (All-drop P more (later_than e t) all)

pub longer_left : (e f : EpochList) → length e.list ≤ length (longer e f).list
longer_left e f = cond_both (ltb (length e.list) (length f.list)) f e (λ (x : EpochList). length e.list ≤ length x.list)
    (λ is. let lt : length e.list < length f.list = ltb-true (length e.list) (length f.list) is in omega arith) (λ is. omega arith)

pub longer_right : (e f : EpochList) → length f.list ≤ length (longer e f).list
longer_right e f = cond_both (ltb (length e.list) (length f.list)) f e (λ (x : EpochList). length f.list ≤ length x.list)
    (λ is. omega arith) (λ is. ltb-false (length e.list) (length f.list) is)

pub longer_prefix : (e f t : EpochList) → IsPrefix e t → IsPrefix f t → IsPrefix (longer e f) t
longer_prefix e f t he hf = cond_both (ltb (length e.list) (length f.list)) f e (λ (x : EpochList). IsPrefix x t) (λ is. hf) (λ is. he)

-- where e settles a position, a longer list deals it alike
pub owner-alike : (e f t : EpochList) (p : ℕ) → IsPrefix e t → IsPrefix f t → length e.list ≤ length f.list → IsSettled t e p → owner f p ≡ owner e p
owner-alike e f t p he hf short settled =
    owner-prefix f t p hf (All-later (λ n. p < n.start) e f t short settled) ∙ sym (owner-prefix e t p he settled)

-- a list is its own beginning, and settles each position
pub prefix_refl : (t : EpochList) → IsPrefix t t
prefix_refl t = record { round = refl; shorter = omega arith; same = sym (take_all (length t.list) t.list (omega arith)) }

pub all_settled : (t e : EpochList) (p : ℕ) → e ≡ t → IsSettled t e p
all_settled t e p same = rw same (All-same (λ (n : Epoch). p < n.start) (later_than t t) [] (drop_all (length t.list) t.list (omega arith)) (All-nil (λ (n : Epoch). p < n.start)))

-- what a list settles for a member, a longer one does too
pub owns_longer : (t e f : EpochList) (m p : ℕ) → IsPrefix e t → IsPrefix f t → length e.list ≤ length f.list → owner e p ≡ m → IsSettled t e p → (owner f p ≡ m) × IsSettled t f p
owns_longer t e f m p he hf short own settled = (owner-alike e f t p he hf short settled ∙ own, All-later (λ n. p < n.start) e f t short settled)

pub length_push : {A : Type 0} (xs : List A) (x : A) → length (xs ++ x ∷ []) ≡ length xs + 1
length_push xs x = omega (arith, length-append xs (x ∷ []))

pub prefix_more : (e t : EpochList) (n : Epoch) → IsPrefix e t → IsPrefix e (with_epoch t n)
prefix_more e t n h = record {
  round = h.round;
  shorter = omega (arith, h.shorter, length_push t.list n);
  same = h.same ∙ sym (take-append-le (length e.list) t.list (n ∷ []) h.shorter);
}

pub All-later_more : (P : Epoch → Type 0) (e t : EpochList) (n : Epoch) → IsPrefix e t → All P (later_than e t) → P n → All P (later_than e (with_epoch t n))
All-later_more P e t n h all here = All-same P (later_than e (with_epoch t n)) (later_than e t ++ n ∷ []) (drop-append-le (length e.list) t.list (n ∷ []) h.shorter) (All-push P (later_than e t) n all here)

-- one list, epoch by epoch

pub last_from-push : (f : Epoch) (es : List Epoch) (e : Epoch) → last_from f (es ++ e ∷ []) ≡ e
last_from-push f [] e = refl
last_from-push f (x ∷ xs) e = last_from-push x xs e

-- the last epoch, by its place
pub last_from-at : (f d : Epoch) (es : List Epoch) (n : ℕ) → length es ≡ n + 1 → get_or es n d ≡ last_from f es
last_from-at f d [] n e = absurd (omega arith)
last_from-at f d (x ∷ []) zero e = refl
last_from-at f d (x ∷ y ∷ es) zero e = absurd (omega arith)
last_from-at f d (x ∷ []) (suc n) e = absurd (omega arith)
last_from-at f d (x ∷ y ∷ es) (suc n) e = last_from-at x d (y ∷ es) n (omega arith)

-- the epoch at place i deals what stands from its start on and below the next start
pub epoch_is : (t : EpochList) (i p : ℕ) → IsEpochList t → i < length t.list → (epoch_at t.list i).start ≤ p
    → (i + 1 < length t.list → p < (epoch_at t.list (i + 1)).start) → epoch_from first_epoch t.list p ≡ epoch_at t.list i
epoch_is t i p h within from to =
    let e : Epoch = epoch_at t.list i in
    let front : Epoch = epoch_from first_epoch (take i t.list) p in
    let rest : List Epoch = drop (suc i) t.list in
    let above : All (λ (n : Epoch). p < n.start) rest =
    All-from_get_or (λ (n : Epoch). p < n.start) rest first_epoch (λ k low.
    let inside : suc i + k < length t.list = omega (arith, length-drop (suc i) t.list) in
    let here : (epoch_at t.list (suc i + k)).start ≡ (get_or rest k first_epoch).start = ap (λ (n : Epoch). n.start) (sym (get_or-drop (suc i) t.list k first_epoch)) in
    elim (cases_eq k 0) [
      | inl none ↦ let at : (epoch_at t.list (suc i + k)).start ≡ (epoch_at t.list (i + 1)).start = ap (λ j. (epoch_at t.list j).start) (omega arith) in
          omega (arith, to (omega arith), at, here)
      | inr some ↦ omega (arith, to (omega arith), h.starts_rise (i + 1) (suc i + k) (omega arith) inside, here)
    ]) in
    ap (λ xs. epoch_from first_epoch xs p) (sym (take-append-drop i t.list))
    ∙ epoch_from-append first_epoch (take i t.list) (drop i t.list) p
    ∙ ap (λ xs. epoch_from front xs p) (drop-cons t.list i first_epoch within)
    ∙ ap (λ x. epoch_from x rest p) (cond-true (leb e.start p) e front (le-leb e.start p from))
    ∙ epoch_from-above e rest p above

pub owner_is : (t : EpochList) (i p : ℕ) → IsEpochList t → i < length t.list → (epoch_at t.list i).start ≤ p
    → (i + 1 < length t.list → p < (epoch_at t.list (i + 1)).start) → owner t p ≡ owner_in t.round (epoch_at t.list i) p
owner_is t i p h within from to = ap (λ e. owner_in t.round e p) (epoch_is t i p h within from to)

-- no epoch has more members than the last
pub members_most : (t : EpochList) (i : ℕ) → IsEpochList t → i < length t.list → (epoch_at t.list i).members ≤ (last_epoch t).members
members_most t i h within =
    let n : ℕ = length t.list - 1 in
    let last : (epoch_at t.list n).members ≡ (last_epoch t).members = ap (λ (e : Epoch). e.members) (last_from-at first_epoch first_epoch t.list n (omega (arith, h.some))) in
    elim (cases_eq i n) [
      | inl same ↦ omega (arith, last, ap (λ j. (epoch_at t.list j).members) same)
      | inr other ↦ omega (arith, last, h.members_rise i n (omega arith) (omega arith))
    ]

-- members rise, so the epoch at place i has more than i
pub members_above : (t : EpochList) (i : ℕ) → IsEpochList t → i < length t.list → i < (epoch_at t.list i).members
members_above t zero h within = All-get_or (λ (e : Epoch). 1 ≤ e.members) t.list 0 first_epoch within h.some_members
members_above t (suc i) h within = omega (arith, members_above t i h (omega arith), h.members_rise i (suc i) (omega arith) within)

-- so there are at most 16 epochs
pub few_epochs : (t : EpochList) → IsEpochList t → length t.list ≤ 16
few_epochs t h =
    let n : ℕ = length t.list - 1 in
    let within : n < length t.list = omega (arith, h.some) in
    omega (arith, members_above t n h within, All-get_or (λ (e : Epoch). e.members ≤ 16) t.list n first_epoch within h.few_members)

-- no epoch starts at 0
pub starts_from : (t : EpochList) (i : ℕ) → IsEpochList t → i < length t.list → 1 ≤ (epoch_at t.list i).start
starts_from t zero h within = omega (arith, h.first)
starts_from t (suc i) h within = omega (arith, h.first, h.starts_rise 0 (suc i) (omega arith) within)

-- one more epoch, above the last start and with more members
pub epoch_list_more : (t : EpochList) (e : Epoch) → IsEpochList t → (last_epoch t).start < e.start → (last_epoch t).members < e.members
    → e.start < 2 ^ 48 → e.members ≤ 16 → IsEpochList (with_epoch t e)
epoch_list_more t e h above more lid few =
    let n : ℕ = length t.list - 1 in
    let all : List Epoch = t.list ++ e ∷ [] in
    let size : length all ≡ length t.list + 1 = length_push t.list e in
    let last : epoch_at t.list n ≡ last_epoch t = last_from-at first_epoch first_epoch t.list n (omega (arith, h.some)) in
    let old = λ (i : ℕ) (low : i < length t.list). (let same : epoch_at all i ≡ epoch_at t.list i = get_or-append t.list (e ∷ []) first_epoch i low in same) in
    let new = λ (j : ℕ) (at : length t.list ≡ j). (let same : epoch_at all j ≡ e = get_or_push t.list e first_epoch j at in same) in
    let rises = λ (f : Epoch → ℕ) (rise : (i j : ℕ) → i < j → j < length t.list → f (epoch_at t.list i) < f (epoch_at t.list j)) (top : f (last_epoch t) < f e) (i j : ℕ) (lt : i < j) (inside : j < length all).
    (let less : f (epoch_at all i) < f (epoch_at all j) = elim (cases_lt j (length t.list)) [
      | inl low ↦ omega (arith, rise i j lt low, ap f (old i (omega arith)), ap f (old j low))
      | inr past ↦ elim (cases_eq i n) [
        | inl same ↦ omega (arith, ap f (old i (omega arith)), ap f (new j (omega arith)), ap f last, ap (λ k. f (epoch_at t.list k)) same)
        | inr other ↦ omega (arith, ap f (old i (omega arith)), ap f (new j (omega arith)), ap f last, rise i n (omega arith) (omega arith))
      ]
    ] in less) in
    record {
      round_from = h.round_from;
      round_to = h.round_to;
      some = omega arith;
      first = ap (λ (x : Epoch). x.start) (old 0 h.some) ∙ h.first;
      lids = All-push (λ (x : Epoch). x.start < 2 ^ 48) t.list e h.lids lid;
      some_members = All-push (λ (x : Epoch). 1 ≤ x.members) t.list e h.some_members (omega arith);
      few_members = All-push (λ (x : Epoch). x.members ≤ 16) t.list e h.few_members few;
      starts_rise = rises (λ x. x.start) h.starts_rise above;
      members_rise = rises (λ x. x.members) h.members_rise more;
    }

-- the last epoch's ranges
pub last_few : (t : EpochList) → IsEpochList t → (last_epoch t).members ≤ 16
last_few t h =
    let n : ℕ = length t.list - 1 in
    omega (arith, ap (λ (e : Epoch). e.members) (last_from-at first_epoch first_epoch t.list n (omega (arith, h.some))), All-get_or (λ (e : Epoch). e.members ≤ 16) t.list n first_epoch (omega (arith, h.some)) h.few_members)

pub last_some : (t : EpochList) → IsEpochList t → 1 ≤ (last_epoch t).members
last_some t h =
    let n : ℕ = length t.list - 1 in
    omega (arith, ap (λ (e : Epoch). e.members) (last_from-at first_epoch first_epoch t.list n (omega (arith, h.some))), All-get_or (λ (e : Epoch). 1 ≤ e.members) t.list n first_epoch (omega (arith, h.some)) h.some_members)

-- the ranges of all epochs
pub all_starts_from : (t : EpochList) → IsEpochList t → All (λ e. 1 ≤ e.start) t.list
all_starts_from t h = All-from_get_or (λ (e : Epoch). 1 ≤ e.start) t.list first_epoch (λ i within. starts_from t i h within)

pub all_members_most : (t : EpochList) → IsEpochList t → All (λ e. e.members ≤ (last_epoch t).members) t.list
all_members_most t h = All-from_get_or (λ (e : Epoch). e.members ≤ (last_epoch t).members) t.list first_epoch (λ i within. members_most t i h within)

-- one epoch, from the first position on
pub first_epoch_list : (round members : ℕ) → 1 ≤ round → round ≤ 1024 → 1 ≤ members → members ≤ 16 → IsEpochList (record { round = round; list = record { start = 1; members = members } ∷ [] })
first_epoch_list round members from to some few =
    let e : Epoch = record { start = 1; members = members } in
    record {
      round_from = from;
      round_to = to;
      some = omega arith;
      first = refl;
      lids = All-cons (λ (x : Epoch). x.start < 2 ^ 48) e [] (omega arith) (All-nil (λ (x : Epoch). x.start < 2 ^ 48));
      some_members = All-cons (λ (x : Epoch). 1 ≤ x.members) e [] some (All-nil (λ (x : Epoch). 1 ≤ x.members));
      few_members = All-cons (λ (x : Epoch). x.members ≤ 16) e [] few (All-nil (λ (x : Epoch). x.members ≤ 16));
      starts_rise = λ i j lt inside. absurd (omega arith);
      members_rise = λ i j lt inside. absurd (omega arith);
    }

-- where starts rise, what is at most the next start is at most each later one
pub next_is_least : (e t : EpochList) (k : ℕ) → IsEpochList t → (length e.list < length t.list → k ≤ (epoch_at t.list (length e.list)).start) → All (λ n. k ≤ n.start) (later_than e t)
next_is_least e t k h next =
    let n : ℕ = length e.list in
    let rest : List Epoch = drop n t.list in
    All-from_get_or (λ (x : Epoch). k ≤ x.start) rest first_epoch (λ i low.
    let inside : n + i < length t.list = omega (arith, length-drop n t.list) in
    let here : (epoch_at t.list (n + i)).start ≡ (get_or rest i first_epoch).start = ap (λ (x : Epoch). x.start) (sym (get_or-drop n t.list i first_epoch)) in
    elim (cases_eq i 0) [
      | inl none ↦ let at : (epoch_at t.list (n + i)).start ≡ (epoch_at t.list n).start = ap (λ j. (epoch_at t.list j).start) (omega arith) in
          omega (arith, next (omega arith), at, here)
      | inr some ↦ omega (arith, next (omega arith), h.starts_rise n (n + i) (omega arith) inside, here)
    ])
