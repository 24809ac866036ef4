-- What the code finds epoch by epoch: an owner, the next own position, and the head.
use Rattle.std.proofs.Common.{◌≡◌, ◌≢◌, ◌⊎◌, ℕ, ◌+◌, ◌-◌, ◌/◌, ◌^◌, ◌<◌, ◌≤◌, min, max, true, false, leb, List, length, get_or, refl, ap, sym, ◌∙◌, subst, inl, inr, arith}
use Rattle.std.specs.List.Sorted.{IsPartitionedBy, IsPartitionPoint}
use Rattle.std.proofs.lemmas.List.{get_or_default}
use Rattle.std.proofs.lemmas.List.Elements.{All-get_or}
use Rattle.std.proofs.lemmas.Bool.{cases_lt, cases_eq, le-leb, leb-true, leb-false}
use Rattle.std.proofs.Math.Nat.{mod-lt}
use Rattle.flstore_rounds.specs.declared.epochs.Epoch.{Epoch}
use Rattle.flstore_rounds.specs.Epochs.{EpochList, epoch_at, first_epoch, last_epoch, owner, owner_in, IsEpochList, IsNextOwn}
use Rattle.flstore_rounds.specs.Heads.{Pair, mark_at, head, IsBelowMark, IsHead}
use Rattle.flstore_rounds.proofs.EpochLemmas.{owner_is, last_few, last_from-at, members_most, starts_from}
use Rattle.flstore_rounds.proofs.HeadLemmas.{head_unique}
use Rattle.flstore_rounds.proofs.TurnLemmas.{IsFirstOwn, first_own}

-- an owner

-- epochs that start at or before p come before those that do not
pub partitioned : (t : EpochList) (p : ℕ) → IsEpochList t → IsPartitionedBy (λ (e : Epoch). leb e.start p) t.list
partitioned t p h i j d le within is = elim (cases_eq i j) [
  | inl same ↦ subst (λ (k : ℕ). leb (get_or t.list k d).start p ≡ true) (sym same) is
  | inr other ↦ le-leb (get_or t.list i d).start p (omega (
    arith,
    leb-true (get_or t.list j d).start p is,
    h.starts_rise i j (omega arith) within,
    ap (λ (e : Epoch). e.start) (get_or_default t.list i d first_epoch (omega arith)),
    ap (λ (e : Epoch). e.start) (get_or_default t.list j d first_epoch within),
  ))
]

-- the last of the first n epochs deals p
pub record IsFound (t : EpochList) (p n : ℕ) (d : Epoch) : Type 0 where
  pub some : 1 ≤ n
  pub from : (get_or t.list (n - 1) d).start ≤ p
  pub value : owner_in t.round (get_or t.list (n - 1) d) p ≡ owner t p
  pub member : owner_in t.round (get_or t.list (n - 1) d) p < (last_epoch t).members

pub found : (t : EpochList) (p n : ℕ) (d : Epoch) → IsEpochList t → 1 ≤ p → n ≤ length t.list
    → IsPartitionPoint (λ (e : Epoch). leb e.start p ≡ true) (λ (e : Epoch). leb e.start p ≡ false) t.list n → IsFound t p n d
found t p n d h first most parts =
    let some : 1 ≤ n = elim (cases_lt 0 n) [
      | inl is ↦ is
      | inr none ↦ absurd (omega (arith, h.first, h.some, leb-false (epoch_at t.list 0).start p (parts.1 0 first_epoch (omega arith) h.some)))
    ] in
    let i : ℕ = n - 1 in
    let within : i < length t.list = omega arith in
    let from : (epoch_at t.list i).start ≤ p = leb-true (epoch_at t.list i).start p (parts.0 i first_epoch (omega arith) (omega arith)) in
    let to = λ (more : i + 1 < length t.list). (let above : p < (epoch_at t.list (i + 1)).start = omega (arith, leb-false (epoch_at t.list (i + 1)).start p (parts.1 (i + 1) first_epoch (omega arith) more)) in above) in
    let same : get_or t.list i d ≡ epoch_at t.list i = get_or_default t.list i d first_epoch within in
    let value : owner_in t.round (epoch_at t.list i) p ≡ owner t p = sym (owner_is t i p h within from to) in
    let few : owner_in t.round (epoch_at t.list i) p < (epoch_at t.list i).members = mod-lt ((p - (epoch_at t.list i).start) / t.round) (All-get_or (λ (e : Epoch). 1 ≤ e.members) t.list i first_epoch within h.some_members) in
    record {
      some = some;
      from = omega (arith, ap (λ (e : Epoch). e.start) same);
      value = ap (λ e. owner_in t.round e p) same ∙ value;
      member = omega (arith, ap (λ e. owner_in t.round e p) same, members_most t i h within);
    }

-- the next own position

-- member m owns nothing from p on that stands before the epoch at place i
abbrev pub OwnsNoneBefore : EpochList → ℕ → ℕ → ℕ → Type 0
OwnsNoneBefore t m p i = (k : ℕ) → p ≤ k → k < (epoch_at t.list i).start → owner t k ≢ m

pub none_at_first : (t : EpochList) (m p : ℕ) → IsEpochList t → 1 ≤ p → OwnsNoneBefore t m p 0
none_at_first t m p h first k above below = absurd (omega (arith, h.first))

-- nor before the next one, where it owns nothing in that epoch
none_in : (t : EpochList) (m p i : ℕ) → IsEpochList t → i + 1 < length t.list → OwnsNoneBefore t m p i
    → ((k : ℕ) → p ≤ k → (epoch_at t.list i).start ≤ k → k < (epoch_at t.list (i + 1)).start → owner_in t.round (epoch_at t.list i) k ≢ m) → OwnsNoneBefore t m p (i + 1)
none_in t m p i h within before none k above below = elim (cases_lt k (epoch_at t.list i).start) [
  | inl early ↦ before k above early
  | inr from ↦ λ is. none k above from below (sym (owner_is t i k h (omega arith) from (λ more. below)) ∙ is)
]

-- as where it is no member yet
pub none_as_stranger : (t : EpochList) (m p i : ℕ) → IsEpochList t → i + 1 < length t.list → (epoch_at t.list i).members ≤ m → OwnsNoneBefore t m p i → OwnsNoneBefore t m p (i + 1)
none_as_stranger t m p i h within few before = none_in t m p i h within before (λ k above from below is.
    omega (arith, mod-lt ((k - (epoch_at t.list i).start) / t.round) (All-get_or (λ (e : Epoch). 1 ≤ e.members) t.list i first_epoch (omega arith) h.some_members)))

-- or where its first position would come later
pub none_as_late : (t : EpochList) (m p i q : ℕ) → IsEpochList t → i + 1 < length t.list → IsFirstOwn t.round (epoch_at t.list i) m (max p (epoch_at t.list i).start) q
    → (epoch_at t.list (i + 1)).start ≤ q → OwnsNoneBefore t m p i → OwnsNoneBefore t m p (i + 1)
none_as_late t m p i q h within first late before = none_in t m p i h within before (λ k above from below. first.least k (omega arith) (omega arith))

pub next_is : (t : EpochList) (m p i q : ℕ) → IsEpochList t → i < length t.list → IsFirstOwn t.round (epoch_at t.list i) m (max p (epoch_at t.list i).start) q
    → (i + 1 < length t.list → q < (epoch_at t.list (i + 1)).start) → OwnsNoneBefore t m p i → IsNextOwn t m p q
next_is t m p i q h within first to before = record {
  above = omega (arith, first.above);
  own = owner_is t i q h within (omega (arith, first.above)) to ∙ first.own;
  least = λ k above below. elim (cases_lt k (epoch_at t.list i).start) [
    | inl early ↦ before k above early
    | inr from ↦ λ is. first.least k (omega arith) below (sym (owner_is t i k h within from (λ more. omega (arith, to more))) ∙ is)
  ];
}

-- the head

-- among the first m members of an epoch, gap is the least position that is not below its owner's mark, or the end of `u64`
pub record IsGap (round : ℕ) (e : Epoch) (marks : List ℕ) (m gap : ℕ) : Type 0 where
  pub from : e.start ≤ gap
  pub below : (p : ℕ) → e.start ≤ p → p < gap → owner_in round e p < m → p < get_or marks (owner_in round e p) 0
  pub stops : (gap ≡ 2 ^ 64 - 1) ⊎ (get_or marks (owner_in round e gap) 0 ≤ gap)
  pub fits : (k : ℕ) → k < m → get_or marks k 0 ≤ 2 ^ 64 - 1

pub gap_at_first : (round : ℕ) (e : Epoch) (marks : List ℕ) → e.start < 2 ^ 64 → IsGap round e marks 0 (2 ^ 64 - 1)
gap_at_first round e marks fits = record {
  from = omega arith;
  below = λ p from less none. absurd (omega arith);
  stops = inl refl;
  fits = λ k none. absurd (omega arith);
}

pub gap_more : (round : ℕ) (e : Epoch) (marks : List ℕ) (m gap q : ℕ) → e.start < 2 ^ 64 → get_or marks m 0 < 2 ^ 64
    → IsFirstOwn round e m (max (get_or marks m 0) e.start) q → IsGap round e marks m gap → IsGap round e marks (m + 1) (min gap (min q (2 ^ 64 - 1)))
gap_more round e marks m gap q low fits first h =
    let new : ℕ = min gap (min q (2 ^ 64 - 1)) in
    record {
      from = omega (arith, h.from, first.above);
      below = λ p from less low. elim (cases_eq (owner_in round e p) m) [
        | inl own ↦ elim (cases_lt p (get_or marks m 0)) [
          | inl marked ↦ omega (arith, ap (λ j. get_or marks j 0) own)
          | inr past ↦ absurd (first.least p (omega arith) (omega arith) own)
        ]
        | inr other ↦ h.below p from (omega arith) (omega arith)
      ];
      stops = elim (cases_lt (min q (2 ^ 64 - 1)) gap) [
        | inr old ↦
            let same : new ≡ gap = omega arith in
            elim h.stops [
              | inl end ↦ inl (omega arith)
              | inr at ↦ inr (omega (arith, ap (λ p. get_or marks (owner_in round e p) 0) same))
            ]
        | inl less ↦ elim (cases_lt q (2 ^ 64 - 1)) [
          | inl short ↦
              let same : new ≡ q = omega arith in
              inr (omega (arith, ap (λ p. get_or marks (owner_in round e p) 0) same, ap (λ j. get_or marks j 0) first.own, first.above))
          | inr long ↦ inl (omega arith)
        ]
      ];
      fits = λ k low. elim (cases_eq k m) [
        | inl same ↦ omega (arith, ap (λ j. get_or marks j 0) same)
        | inr other ↦ h.fits k (omega arith)
      ];
    }

-- once all members are counted the end of `u64` is no exception
pub gap_stops : (round : ℕ) (e : Epoch) (marks : List ℕ) (gap : ℕ) → 1 ≤ e.members → IsGap round e marks e.members gap → get_or marks (owner_in round e gap) 0 ≤ gap
gap_stops round e marks gap some h = elim h.stops [
  | inl end ↦ omega (arith, h.fits (owner_in round e gap) (mod-lt ((gap - e.start) / round) some))
  | inr at ↦ at
]

pub gap_below : (round : ℕ) (e : Epoch) (marks : List ℕ) (gap p : ℕ) → 1 ≤ e.members → IsGap round e marks e.members gap → e.start ≤ p → p < gap → p < get_or marks (owner_in round e p) 0
gap_below round e marks gap p some h from less = h.below p from less (mod-lt ((p - e.start) / round) some)

-- each position before the epoch at place i is below the mark of its owner
abbrev pub AreBelowBefore : Pair → ℕ → Type 0
AreBelowBefore v i = (p : ℕ) → 1 ≤ p → p < (epoch_at v.epochs.list i).start → IsBelowMark v p

-- gap is the first position of an epoch that is not below its owner's mark, were there no later epoch
pub record IsGapIn (v : Pair) (e : Epoch) (gap : ℕ) : Type 0 where
  pub from : e.start ≤ gap
  pub below : (p : ℕ) → e.start ≤ p → p < gap → p < mark_at v (owner_in v.epochs.round e p)
  pub stops : mark_at v (owner_in v.epochs.round e gap) ≤ gap

abbrev pub IsGapAt : Pair → ℕ → ℕ → Type 0
IsGapAt v i gap = IsGapIn v (epoch_at v.epochs.list i) gap

pub below_at_first : (v : Pair) → IsEpochList v.epochs → AreBelowBefore v 0
below_at_first v h p first below = absurd (omega (arith, h.first))

below_upto : (v : Pair) (i gap p : ℕ) → IsEpochList v.epochs → i < length v.epochs.list → IsGapAt v i gap → AreBelowBefore v i
    → 1 ≤ p → p < gap → (i + 1 < length v.epochs.list → p < (epoch_at v.epochs.list (i + 1)).start) → IsBelowMark v p
below_upto v i gap p h within at before first less to = elim (cases_lt p (epoch_at v.epochs.list i).start) [
  | inl early ↦ before p first early
  | inr from ↦ omega (arith, at.below p from less, ap (mark_at v) (owner_is v.epochs i p h within from to))
]

pub below_more : (v : Pair) (i gap : ℕ) → IsEpochList v.epochs → i + 1 < length v.epochs.list → IsGapAt v i gap → (epoch_at v.epochs.list (i + 1)).start ≤ gap
    → AreBelowBefore v i → AreBelowBefore v (i + 1)
below_more v i gap h within at past before p first less = below_upto v i gap p h (omega arith) at before first (omega arith) (λ more. less)

pub head_found : (v : Pair) (i gap : ℕ) → IsEpochList v.epochs → i < length v.epochs.list → IsGapAt v i gap
    → (i + 1 < length v.epochs.list → gap < (epoch_at v.epochs.list (i + 1)).start) → AreBelowBefore v i → IsHead v (gap - 1)
head_found v i gap h within at to before =
    let some : gap - 1 + 1 ≡ gap = omega (arith, at.from, starts_from v.epochs i h within) in
    record {
      below = λ p first most. below_upto v i gap p h within at before first (omega arith) (λ more. omega (arith, to more));
      stops = omega (arith, ap (λ p. mark_at v (owner v.epochs p)) some, ap (mark_at v) (owner_is v.epochs i gap h within at.from to), at.stops);
    }

-- the step of the loop, as the code computes it
pub gap_next : (round : ℕ) (e : Epoch) (marks : List ℕ) (m gap from w new : ℕ) → e.start < 2 ^ 64 → get_or marks m 0 < 2 ^ 64 → from ≡ max (get_or marks m 0) e.start
    → owner_in round e (from + w) ≡ m → ((k : ℕ) → k < w → owner_in round e (from + k) ≢ m) → new ≡ min gap (min (from + w) (2 ^ 64 - 1))
    → IsGap round e marks m gap → IsGap round e marks (m + 1) new
gap_next round e marks m gap from w new low fits is own least new_is h =
    let first : IsFirstOwn round e m (max (get_or marks m 0) e.start) (from + w) = subst (λ (f : ℕ). IsFirstOwn round e m f (from + w)) is (first_own round e m from w own least) in
    subst (IsGap round e marks (m + 1)) (sym new_is) (gap_more round e marks m gap (from + w) low fits first h)

-- what the code reads of a list: the epoch at a place, with whatever stands for one that there is not
read_is : (t : EpochList) (d : Epoch) (i : ℕ) → i < length t.list → get_or t.list i d ≡ epoch_at t.list i
read_is t d i within = get_or_default t.list i d first_epoch within

read_start : (t : EpochList) (d : Epoch) (i j : ℕ) → i < length t.list → i ≡ j → (get_or t.list i d).start ≡ (epoch_at t.list j).start
read_start t d i j within same = ap (λ (e : Epoch). e.start) (read_is t d i within) ∙ ap (λ k. (epoch_at t.list k).start) same

first_own_read : (t : EpochList) (d : Epoch) (m p i from w : ℕ) → i < length t.list → from ≡ max p (get_or t.list i d).start
    → owner_in t.round (get_or t.list i d) (from + w) ≡ m → ((k : ℕ) → k < w → owner_in t.round (get_or t.list i d) (from + k) ≢ m)
    → IsFirstOwn t.round (epoch_at t.list i) m (max p (epoch_at t.list i).start) (from + w)
first_own_read t d m p i from w within is own least =
    let e : Epoch = get_or t.list i d in
    let first : IsFirstOwn t.round e m (max p e.start) (from + w) = subst (λ (f : ℕ). IsFirstOwn t.round e m f (from + w)) is (first_own t.round e m from w own least) in
    subst (λ (x : Epoch). IsFirstOwn t.round x m (max p x.start) (from + w)) (read_is t d i within) first

-- the next own position is in the epoch before place n
pub next_here : (t : EpochList) (d : Epoch) (m p n from w : ℕ) → IsEpochList t → 1 ≤ n → n ≤ length t.list → from ≡ max p (get_or t.list (n - 1) d).start
    → owner_in t.round (get_or t.list (n - 1) d) (from + w) ≡ m → ((k : ℕ) → k < w → owner_in t.round (get_or t.list (n - 1) d) (from + k) ≢ m)
    → (n < length t.list → from + w < (get_or t.list n d).start) → OwnsNoneBefore t m p (n - 1) → IsNextOwn t m p (from + w)
next_here t d m p n from w h some within is own least to before =
    next_is t m p (n - 1) (from + w) h (omega arith) (first_own_read t d m p (n - 1) from w (omega arith) is own least)
    (λ more. let low : n < length t.list = omega arith in let same : n ≡ n - 1 + 1 = omega arith in omega (arith, to low, read_start t d n (n - 1 + 1) low same)) before

-- or later
pub next_later : (t : EpochList) (d : Epoch) (m p n from w : ℕ) → IsEpochList t → 1 ≤ n → n < length t.list → from ≡ max p (get_or t.list (n - 1) d).start
    → owner_in t.round (get_or t.list (n - 1) d) (from + w) ≡ m → ((k : ℕ) → k < w → owner_in t.round (get_or t.list (n - 1) d) (from + k) ≢ m)
    → (get_or t.list n d).start ≤ from + w → OwnsNoneBefore t m p (n - 1) → OwnsNoneBefore t m p (n + 1 - 1)
next_later t d m p n from w h some within is own least late before =
    let same : n ≡ n - 1 + 1 = omega arith in
    let next : n - 1 + 1 ≡ n + 1 - 1 = omega arith in
    subst (OwnsNoneBefore t m p) next (none_as_late t m p (n - 1) (from + w) h (omega arith) (first_own_read t d m p (n - 1) from w (omega arith) is own least)
    (omega (arith, read_start t d n (n - 1 + 1) within same)) before)

pub next_as_stranger : (t : EpochList) (d : Epoch) (m p n : ℕ) → IsEpochList t → 1 ≤ n → n < length t.list → (get_or t.list (n - 1) d).members ≤ m
    → OwnsNoneBefore t m p (n - 1) → OwnsNoneBefore t m p (n + 1 - 1)
next_as_stranger t d m p n h some within few before =
    let next : n - 1 + 1 ≡ n + 1 - 1 = omega arith in
    subst (OwnsNoneBefore t m p) next (none_as_stranger t m p (n - 1) h (omega arith) (omega (arith, ap (λ (e : Epoch). e.members) (read_is t d (n - 1) (omega arith)))) before)

-- the last epoch, as the code reads it
pub last_read : (t : EpochList) (d : Epoch) (m : ℕ) → IsEpochList t → m < (last_epoch t).members → (m < (get_or t.list (length t.list - 1) d).members) × ((get_or t.list (length t.list - 1) d).members ≤ 16)
last_read t d m h member =
    let is : (get_or t.list (length t.list - 1) d).members ≡ (last_epoch t).members = ap (λ (e : Epoch). e.members) (last_from-at first_epoch d t.list (length t.list - 1) (omega (arith, h.some))) in
    (omega arith, omega (arith, last_few t h))

-- the head of a pair is one below gap
pub record IsBelowGap (v : Pair) (gap : ℕ) : Type 0 where
  pub some : 1 ≤ gap
  pub greatest : IsHead v (gap - 1)
  pub value : gap - 1 ≡ head v

-- where the gap is in the epoch before place n
pub head_here : (v : Pair) (d : Epoch) (n gap : ℕ) → IsEpochList v.epochs → 1 ≤ n → n ≤ length v.epochs.list → IsGapIn v (get_or v.epochs.list (n - 1) d) gap
    → (n < length v.epochs.list → gap < (get_or v.epochs.list n d).start) → AreBelowBefore v (n - 1) → IsBelowGap v gap
head_here v d n gap h some within found to before =
    let t : EpochList = v.epochs in
    let inside : n - 1 < length t.list = omega arith in
    let here : get_or t.list (n - 1) d ≡ epoch_at t.list (n - 1) = read_is t d (n - 1) inside in
    let at : IsGapAt v (n - 1) gap = subst (λ (e : Epoch). IsGapIn v e gap) here found in
    let is : IsHead v (gap - 1) = head_found v (n - 1) gap h inside at
    (λ more. let low : n < length t.list = omega arith in let same : n ≡ n - 1 + 1 = omega arith in omega (arith, to low, read_start t d n (n - 1 + 1) low same)) before in
    record { some = omega (arith, at.from, starts_from t (n - 1) h inside); greatest = is; value = head_unique v (gap - 1) is }

-- or later
pub head_later : (v : Pair) (d : Epoch) (n gap : ℕ) → IsEpochList v.epochs → 1 ≤ n → n < length v.epochs.list → IsGapIn v (get_or v.epochs.list (n - 1) d) gap
    → (get_or v.epochs.list n d).start ≤ gap → AreBelowBefore v (n - 1) → AreBelowBefore v (n + 1 - 1)
head_later v d n gap h some within found late before =
    let t : EpochList = v.epochs in
    let inside : n - 1 < length t.list = omega arith in
    let here : get_or t.list (n - 1) d ≡ epoch_at t.list (n - 1) = read_is t d (n - 1) inside in
    let at : IsGapAt v (n - 1) gap = subst (λ (e : Epoch). IsGapIn v e gap) here found in
    let same : n ≡ n - 1 + 1 = omega arith in
    let next : n - 1 + 1 ≡ n + 1 - 1 = omega arith in
    subst (AreBelowBefore v) next (below_more v (n - 1) gap h (omega arith) at (omega (arith, read_start t d n (n - 1 + 1) within same)) before)
