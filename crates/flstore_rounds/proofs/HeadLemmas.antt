-- True pairs stay true, each position up to the head of one is placed, and no head falls.
use Rattle.std.proofs.Common.{◌≡◌, ◌⊎◌, ℕ, zero, suc, ◌+◌, ◌<◌, ◌≤◌, max, ltb, [], length, get_or, replicate, refl, ap, sym, ◌∙◌, subst, inl, inr, arith, sum}
use Rattle.std.specs.List.{All}
use Rattle.std.proofs.lemmas.List.{length-replicate, get_or-replicate, get_or-set_same, get_or-set_other, get_or_past, set_past, drop_all}
use Rattle.std.proofs.lemmas.List.Elements.{All-weaker, All-drop, All-nil, All-same}
use Rattle.std.proofs.lemmas.List.Sums.{get_or-le-sum_by}
use Rattle.std.proofs.lemmas.Bool.{cases_eq, cases_lt, cond_both, ltb-true, ltb-false}
use Rattle.causal_deps.specs.Counts.{raised}
use Rattle.causal_deps.proofs.CountsLemmas.{get_or-greater}
use Rattle.flstore_rounds.specs.declared.epochs.Epoch.{Epoch}
use Rattle.flstore_rounds.specs.Epochs.{EpochList, owner, with_epoch, IsPrefix, later_than, longer}
use Rattle.flstore_rounds.specs.Heads.{Pair, blank, mark_at, single, joined, with_own, head_from, head, IsBelowMark, IsHead, IsTrueMark, IsTruePair}
use Rattle.flstore_rounds.proofs.EpochLemmas.{All-later, All-later_more, longer_left, longer_right, longer_prefix, owner-alike, prefix_more, prefix_refl}

-- marks

pub max_is : (a b : ℕ) → (max a b ≡ a) ⊎ (max a b ≡ b)
max_is a b = grind arith

pub mark_at-joined : (v u : Pair) (m : ℕ) → mark_at (joined v u) m ≡ max (mark_at v m) (mark_at u m)
mark_at-joined v u m = get_or-greater v.marks u.marks m

pub mark_at-single_other : (e : EpochList) (m k j : ℕ) → (j ≡ m → ⊥) → mark_at (single e m k) j ≡ 0
mark_at-single_other e m k j other = get_or-set_other (replicate (m + 1) 0) m j k 0 other ∙ elim (cases_lt j (m + 1)) [
  | inl within ↦ get_or-replicate (m + 1) j 0 0 within
  | inr past ↦ get_or_past (replicate (m + 1) 0) j 0 (omega (arith, length-replicate {A = ℕ} (m + 1) 0))
]

pub mark_at-single : (e : EpochList) (m k : ℕ) → mark_at (single e m k) m ≡ k
mark_at-single e m k = get_or-set_same (replicate (m + 1) 0) m k 0 (omega (arith, length-replicate {A = ℕ} (m + 1) 0))

-- each mark of a pair that takes a member's own is its own or the member's
pub own_marks : (e : EpochList) (v : Pair) (m k i : ℕ) → (mark_at (with_own v e m k) i ≡ mark_at v i) ⊎ (mark_at (with_own v e m k) i ≡ mark_at (single e m k) i)
own_marks e v m k i = elim (cases_eq i m) [
  | inr other ↦ inl (get_or-set_other v.marks m i (max (mark_at v m) k) 0 other)
  | inl same ↦ elim (cases_lt m (length v.marks)) [
    | inr past ↦ inl (ap (λ xs. get_or xs i 0) (set_past v.marks m (max (mark_at v m) k) past))
    | inl within ↦
        let here : mark_at (with_own v e m k) i ≡ max (mark_at v m) k = ap (λ j. get_or (raised v.marks m k) j 0) same ∙ get_or-set_same v.marks m (max (mark_at v m) k) 0 within in
        let own : mark_at (single e m k) i ≡ k = ap (mark_at (single e m k)) same ∙ mark_at-single e m k in
        elim (max_is (mark_at v m) k) [
          | inl is ↦ inl (here ∙ is ∙ ap (mark_at v) (sym same))
          | inr is ↦ inr (here ∙ is ∙ sym own)
        ]
  ]
]

-- and at least what it was
pub own_raises : (e : EpochList) (v : Pair) (m k i : ℕ) → mark_at v i ≤ mark_at (with_own v e m k) i
own_raises e v m k i = elim (cases_eq i m) [
  | inr other ↦ omega (arith, get_or-set_other v.marks m i (max (mark_at v m) k) 0 other)
  | inl same ↦ elim (cases_lt m (length v.marks)) [
    | inr past ↦ omega (arith, ap (λ xs. get_or xs i 0) (set_past v.marks m (max (mark_at v m) k) past))
    | inl within ↦ omega (arith, ap (λ j. get_or (raised v.marks m k) j 0) same, get_or-set_same v.marks m (max (mark_at v m) k) 0 within, ap (mark_at v) same)
  ]
]

-- which of the two each mark is
pub with_own_at : (v : Pair) (e : EpochList) (m k j : ℕ) → (mark_at v j ≤ mark_at (with_own v e m k) j) × ((mark_at (with_own v e m k) j ≡ mark_at v j) ⊎ ((j ≡ m) × (mark_at (with_own v e m k) j ≡ max (mark_at v m) k)))
with_own_at v e m k j = (
  own_raises e v m k j,
  elim (cases_eq j m) [
    | inr other ↦ inl (get_or-set_other v.marks m j (max (mark_at v m) k) 0 other)
    | inl is ↦ elim (cases_lt m (length v.marks)) [
      | inr past ↦ inl (ap (λ xs. get_or xs j 0) (set_past v.marks m (max (mark_at v m) k) past))
      | inl within ↦ inr (is, ap (λ i. get_or (raised v.marks m k) i 0) is ∙ get_or-set_same v.marks m (max (mark_at v m) k) 0 within)
    ]
  ],
)

-- truth

-- a pair stays true where more positions are placed
pub true_more : (t : EpochList) (P Q : ℕ → Type 0) (v : Pair) → ((p : ℕ) → P p → Q p) → IsTruePair t P v → IsTruePair t Q v
true_more t P Q v more h = record {
  known = h.known;
  reached = λ m. elim (h.reached m) [
    | inl low ↦ inl low
    | inr at ↦ inr (at.0, at.1, more at.0 at.2, at.3)
  ];
  filled = λ p first below. more p (h.filled p first below);
  settled = h.settled;
}

-- an epoch that starts above all that is placed leaves a pair true
pub true_later : (t : EpochList) (P : ℕ → Type 0) (n : Epoch) (v : Pair) → 1 ≤ n.start → ((p : ℕ) → P p → p < n.start) → IsTruePair t P v → IsTruePair (with_epoch t n) P v
true_later t P n v first above h = record {
  known = prefix_more v.epochs t n h.known;
  reached = h.reached;
  filled = h.filled;
  settled = λ m. All-later_more (λ (x : Epoch). mark_at v m ≤ x.start) v.epochs t n h.known (h.settled m) (elim (h.reached m) [
    | inl low ↦ omega arith
    | inr at ↦ omega (arith, at.1, above at.0 at.2)
  ]);
}

pub mark_at-blank : (t : EpochList) (m : ℕ) → mark_at (blank t) m ≤ 1
mark_at-blank t m = elim (cases_lt m 16) [
  | inl within ↦ omega (arith, get_or-replicate {A = ℕ} 16 m 1 0 within)
  | inr past ↦ omega (arith, get_or_past {X = ℕ} (replicate 16 1) m 0 (omega (arith, length-replicate {A = ℕ} 16 1)))
]

-- where nothing is marked
pub blank_prefix_true : (t e : EpochList) (P : ℕ → Type 0) → IsPrefix e t → All (λ n. 1 ≤ n.start) t.list → IsTruePair t P (blank e)
blank_prefix_true t e P known starts = record {
  known = known;
  reached = λ m. inl (mark_at-blank e m);
  filled = λ p first below. absurd (omega (arith, mark_at-blank e (owner e p)));
  settled = λ m. All-weaker (λ (n : Epoch). 1 ≤ n.start) (λ (n : Epoch). mark_at (blank e) m ≤ n.start) (λ n from. omega (arith, mark_at-blank e m)) (later_than e t) (All-drop (λ (n : Epoch). 1 ≤ n.start) (length e.list) t.list starts);
}

-- as by the whole list, wherever its epochs start
pub blank_true : (t : EpochList) (P : ℕ → Type 0) → IsTruePair t P (blank t)
blank_true t P = record {
  known = prefix_refl t;
  reached = λ m. inl (mark_at-blank t m);
  filled = λ p first below. absurd (omega (arith, mark_at-blank t (owner t p)));
  settled = λ m. All-same (λ (x : Epoch). mark_at (blank t) m ≤ x.start) (later_than t t) [] (drop_all (length t.list) t.list (omega arith)) (All-nil (λ (x : Epoch). mark_at (blank t) m ≤ x.start));
}

-- below a mark the pair's list and a longer one deal alike
pub below_mark : (t f : EpochList) (P : ℕ → Type 0) (v : Pair) (m p : ℕ) → IsTruePair t P v → IsPrefix f t → length v.epochs.list ≤ length f.list
    → p < mark_at v m → owner f p ≡ owner v.epochs p
below_mark t f P v m p h known short below =
    owner-alike v.epochs f t p h.known known short (All-weaker (λ (n : Epoch). mark_at v m ≤ n.start) (λ (n : Epoch). p < n.start) (λ n within. omega arith) (later_than v.epochs t) (h.settled m))

-- what a true pair says of member m, by a longer list
pub says_of : (t f : EpochList) (P : ℕ → Type 0) (v : Pair) (m : ℕ) → IsTruePair t P v → IsPrefix f t → length v.epochs.list ≤ length f.list → IsTrueMark t f P m (mark_at v m)
says_of t f P v m h known short = record {
  known = known;
  reached = elim (h.reached m) [
    | inl low ↦ inl low
    | inr at ↦ inr (at.0, at.1, at.2, below_mark t f P v m at.0 h known short (omega (arith, at.1)) ∙ at.3)
  ];
  filled = λ p first below own.
      let mine : owner v.epochs p ≡ m = sym (below_mark t f P v m p h known short below) ∙ own in
      h.filled p first (omega (arith, ap (mark_at v) mine));
  settled = All-later (λ n. mark_at v m ≤ n.start) v.epochs f t short (h.settled m);
}

-- a pair of true marks is true
pub true_from_says : (t : EpochList) (P : ℕ → Type 0) (w : Pair) → IsPrefix w.epochs t → ((m : ℕ) → IsTrueMark t w.epochs P m (mark_at w m)) → IsTruePair t P w
true_from_says t P w known says = record {
  known = known;
  reached = λ m. (says m).reached;
  filled = λ p first below. (says (owner w.epochs p)).filled p first below refl;
  settled = λ m. (says m).settled;
}

-- two true pairs make one, whose list is the longer and each mark that of one of them
pub true_joined : (t : EpochList) (P : ℕ → Type 0) (v u w : Pair) → IsTruePair t P v → IsTruePair t P u → w.epochs ≡ longer v.epochs u.epochs
    → ((m : ℕ) → (mark_at w m ≡ mark_at v m) ⊎ (mark_at w m ≡ mark_at u m)) → IsTruePair t P w
true_joined t P v u w hv hu is marks =
    let known : IsPrefix w.epochs t = rw is (longer_prefix v.epochs u.epochs t hv.known hu.known) in
    let left : length v.epochs.list ≤ length w.epochs.list = rw is (longer_left v.epochs u.epochs) in
    let right : length u.epochs.list ≤ length w.epochs.list = rw is (longer_right v.epochs u.epochs) in
    true_from_says t P w known (λ m. elim (marks m) [
      | inl same ↦ rw same (says_of t w.epochs P v m hv known left)
      | inr same ↦ rw same (says_of t w.epochs P u m hu known right)
    ])

-- a true pair under a longer list
pub true_longer : (t : EpochList) (P : ℕ → Type 0) (v : Pair) (f : EpochList) → IsTruePair t P v → IsPrefix f t → length v.epochs.list ≤ length f.list → IsTruePair t P (record v { epochs = f })
true_longer t P v f h known short = true_from_says t P (record v { epochs = f }) known (λ m. says_of t f P v m h known short)

pub joined_true : (t : EpochList) (P : ℕ → Type 0) (v u : Pair) → IsTruePair t P v → IsTruePair t P u → IsTruePair t P (joined v u)
joined_true t P v u hv hu = true_joined t P v u (joined v u) hv hu refl (λ m. rw (get_or-greater v.marks u.marks m) (max_is (mark_at v m) (mark_at u m)))

-- one true mark makes a true pair that speaks of one member
pub single_true : (t e : EpochList) (P : ℕ → Type 0) (m k : ℕ) → IsTrueMark t e P m k → IsTruePair t P (single e m k)
single_true t e P m k h = true_from_says t P (single e m k) h.known (λ j. elim (cases_eq j m) [
  | inl same ↦ subst (λ (i : ℕ). IsTrueMark t e P i (mark_at (single e m k) i)) (sym same) (rw (mark_at-single e m k) h)
  | inr other ↦ rw (mark_at-single_other e m k j other) (record {
    known = h.known;
    reached = inl (omega arith);
    filled = λ p first below. absurd (omega arith);
    settled = All-weaker (λ (n : Epoch). k ≤ n.start) (λ (n : Epoch). 0 ≤ n.start) (λ n from. omega arith) (later_than e t) h.settled;
  })
])

pub with_own_true : (t e : EpochList) (P : ℕ → Type 0) (v : Pair) (m k : ℕ) → IsTruePair t P v → IsTruePair t P (single e m k) → IsTruePair t P (with_own v e m k)
with_own_true t e P v m k hv hu = true_joined t P v (single e m k) (with_own v e m k) hv hu refl (own_marks e v m k)

-- heads

head_goes : (v : Pair) (n s : ℕ) → ((p : ℕ) → 1 ≤ p → p ≤ s → IsBelowMark v p)
    → (p : ℕ) → 1 ≤ p → p ≤ head_from v n s → IsBelowMark v p
head_goes v zero s below = below
head_goes v (suc n) s below = cond_both (ltb (s + 1) (mark_at v (owner v.epochs (s + 1)))) (head_from v n (s + 1)) s (λ (k : ℕ). (p : ℕ) → 1 ≤ p → p ≤ k → IsBelowMark v p)
    (λ next. head_goes v n (s + 1) (λ p first within. elim (cases_eq p (s + 1)) [
      | inl same ↦ rw same (ltb-true (s + 1) (mark_at v (owner v.epochs (s + 1))) next)
      | inr other ↦ below p first (omega arith)
    ]))
    (λ stops. below)

-- each position up to the head is below the mark of its owner
pub head_below : (v : Pair) (p : ℕ) → 1 ≤ p → p ≤ head v → p < mark_at v (owner v.epochs p)
head_below v p first within = head_goes v (sum v.marks) 0 (λ q one none. absurd (omega arith)) p first within

-- no mark is above all marks together
mark_at-le : (v : Pair) (m : ℕ) → mark_at v m ≤ sum v.marks
mark_at-le v m = elim (cases_lt m (length v.marks)) [
  | inl within ↦ get_or-le-sum_by (λ (x : ℕ). x) v.marks m 0 within
  | inr past ↦ omega (arith, get_or_past v.marks m 0 past)
]

-- with room for all marks together, the walk ends where a position is not below the mark of its owner
head_stops : (v : Pair) (n s : ℕ) → sum v.marks ≤ n + s → mark_at v (owner v.epochs (head_from v n s + 1)) ≤ head_from v n s + 1
head_stops v zero s room = omega (arith, mark_at-le v (owner v.epochs (s + 1)))
head_stops v (suc n) s room = cond_both (ltb (s + 1) (mark_at v (owner v.epochs (s + 1)))) (head_from v n (s + 1)) s (λ (k : ℕ). mark_at v (owner v.epochs (k + 1)) ≤ k + 1)
    (λ next. head_stops v n (s + 1) (omega arith))
    (λ stops. ltb-false (s + 1) (mark_at v (owner v.epochs (s + 1))) stops)

-- the number is the head
pub head_is : (v : Pair) → IsHead v (head v)
head_is v = record { below = head_below v; stops = head_stops v (sum v.marks) 0 (omega arith) }

-- whatever all positions are below their marks up to is at most the head
pub head_most : (v : Pair) (s k : ℕ) → IsHead v s → ((p : ℕ) → 1 ≤ p → p ≤ k → IsBelowMark v p) → k ≤ s
head_most v s k h below = elim (cases_lt s k) [
  | inl more ↦ absurd (omega (arith, h.stops, below (s + 1) (omega arith) (omega arith)))
  | inr most ↦ most
]

pub head_unique : (v : Pair) (s : ℕ) → IsHead v s → s ≡ head v
head_unique v s h = omega (arith, head_most v s (head v) h (head_below v), head_most v (head v) s (head_is v) h.below)

-- Head of the log: each position up to the head of a true pair is placed.
pub head_filled : (t : EpochList) (P : ℕ → Type 0) (v : Pair) (p : ℕ) → IsTruePair t P v → 1 ≤ p → p ≤ head v → P p
head_filled t P v p h first within = h.filled p first (head_below v p first within)

-- no head falls

-- a longer list and greater marks
pub head_grows : (t : EpochList) (P : ℕ → Type 0) (v w : Pair) → IsTruePair t P v → IsPrefix w.epochs t → length v.epochs.list ≤ length w.epochs.list
    → ((m : ℕ) → mark_at v m ≤ mark_at w m) → head v ≤ head w
head_grows t P v w h known short more = head_most w (head w) (head v) (head_is w) (λ p first within.
    let old : p < mark_at v (owner v.epochs p) = head_below v p first within in
    let same : owner w.epochs p ≡ owner v.epochs p = below_mark t w.epochs P v (owner v.epochs p) p h known short old in
    omega (arith, more (owner v.epochs p), ap (mark_at w) same))

pub joined_grows : (t : EpochList) (P : ℕ → Type 0) (v u : Pair) → IsTruePair t P v → IsPrefix u.epochs t → head v ≤ head (joined v u)
joined_grows t P v u h known = head_grows t P v (joined v u) h (longer_prefix v.epochs u.epochs t h.known known) (longer_left v.epochs u.epochs) (λ m. omega (arith, mark_at-joined v u m))

pub with_own_grows : (t e : EpochList) (P : ℕ → Type 0) (v : Pair) (m k : ℕ) → IsTruePair t P v → IsPrefix e t → head v ≤ head (with_own v e m k)
with_own_grows t e P v m k h known = head_grows t P v (with_own v e m k) h (longer_prefix v.epochs e t h.known known) (longer_left v.epochs e) (own_raises e v m k)

pub raised_grows : (v u : Pair) → u.epochs ≡ v.epochs → ((m : ℕ) → mark_at v m ≤ mark_at u m) → head v ≤ head u
raised_grows v u same more = head_most u (head u) (head v) (head_is u) (λ p first within.
    let old : p < mark_at v (owner v.epochs p) = head_below v p first within in
    omega (arith, more (owner v.epochs p), ap (λ t. mark_at u (owner t p)) same))
