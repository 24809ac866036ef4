-- Turns of members by division: which comes next, and after how many positions.
use Rattle.std.proofs.Common.{◌≡◌, ◌≢◌, ◌⊎◌, ℕ, ◌+◌, ◌-◌, ◌*◌, ◌/◌, ◌%◌, ◌^◌, ◌<◌, ◌≤◌, ap, sym, ◌∙◌, inl, inr, arith}
use Rattle.std.proofs.lemmas.Bool.{cases_lt, cases_eq}
use Rattle.std.proofs.lemmas.Nat.{le-div, div-add-mod', mul-le}
use Rattle.std.proofs.Math.Nat.{mod-lt, mod-add-mod, mod-eq_of_lt, mod-eq-sub-mod, div-eq_of_lt-le, div-lt_iff_lt-mul, add-mul, mul_comm, mul-le-mul}
use Rattle.flstore_rounds.specs.declared.epochs.Epoch.{Epoch}
use Rattle.flstore_rounds.specs.Epochs.{owner_in}

-- where one stands in turn after j more turns, fewer than there are members
turn_after : (n a j : ℕ) → 0 < n → j < n → ((a % n + j < n) × ((a + j) % n ≡ a % n + j)) ⊎ ((n ≤ a % n + j) × ((a + j) % n ≡ a % n + j - n))
turn_after n a j some few =
    let whole : (a + j) % n ≡ (a % n + j) % n = sym (mod-add-mod a n j) in
    let low : a % n < n = mod-lt a some in
    elim (cases_lt (a % n + j) n) [
      | inl less ↦ inl (less, whole ∙ mod-eq_of_lt less)
      | inr more ↦ let rest : a % n + j - n < n = omega arith in inr (more, whole ∙ mod-eq-sub-mod more ∙ mod-eq_of_lt rest)
    ]

-- after d turns from turn a it is the turn of m, and not before
pub record IsTurn (n m a d : ℕ) : Type 0 where
  pub few : d < n
  pub own : (a + d) % n ≡ m
  pub least : (j : ℕ) → j < d → (a + j) % n ≢ m

turn_up : (n m a d : ℕ) → m < n → a % n ≤ m → d ≡ m - a % n → IsTurn n m a d
turn_up n m a d member low is = record {
  few = omega arith;
  own = elim (turn_after n a d (omega arith) (omega arith)) [ inl at ↦ omega (arith, at.0, at.1) | inr at ↦ absurd (omega (arith, at.0)) ];
  least = λ j less same. elim (turn_after n a j (omega arith) (omega arith)) [ inl at ↦ omega (arith, at.0, at.1) | inr at ↦ omega (arith, at.0, at.1) ];
}

turn_round : (n m a d : ℕ) → m < n → m < a % n → d ≡ m + n - a % n → IsTurn n m a d
turn_round n m a d member high is =
    let low : a % n < n = mod-lt a (omega arith) in
    record {
      few = omega arith;
      own = elim (turn_after n a d (omega arith) (omega arith)) [ inl at ↦ absurd (omega (arith, at.0)) | inr at ↦ omega (arith, at.0, at.1) ];
      least = λ j less same. elim (turn_after n a j (omega arith) (omega arith)) [ inl at ↦ omega (arith, at.0, at.1) | inr at ↦ omega (arith, at.0, at.1) ];
    }

pub turns_are : (n m a : ℕ) → m < n → IsTurn n m a ((m + n - a % n) % n)
turns_are n m a member =
    let low : a % n < n = mod-lt a (omega arith) in
    let d : ℕ = m + n - a % n in
    elim (cases_lt d n) [
      | inl less ↦ turn_round n m a (d % n) member (omega arith) (mod-eq_of_lt less)
      | inr more ↦ let rest : d - n < n = omega arith in
          let is : d % n ≡ d - n = mod-eq-sub-mod more ∙ mod-eq_of_lt rest in
          turn_up n m a (d % n) member (omega arith) (omega arith)
    ]

-- after w positions from x on comes one of member m, and not before
pub record IsWait (r n m x w : ℕ) : Type 0 where
  pub own : ((x + w) / r) % n ≡ m
  pub least : (k : ℕ) → k < w → ((x + k) / r) % n ≢ m

wait_none : (r n m x w : ℕ) → IsTurn n m (x / r) 0 → w ≡ 0 → IsWait r n m x w
wait_none r n m x w h is = record {
  own =
      let here : x + w ≡ x = omega arith in
      let turn : x / r ≡ x / r + 0 = omega arith in
      ap (λ y. (y / r) % n) here ∙ ap (λ y. y % n) turn ∙ h.own;
  least = λ k less. absurd (omega arith);
}

wait_turns : (r n m x d : ℕ) → 0 < r → 1 ≤ d → IsTurn n m (x / r) d → IsWait r n m x (r * d - x % r)
wait_turns r n m x d some later h =
    let q : ℕ = x / r in
    let rest : x % r < r = mod-lt x some in
    let whole : q * r + x % r ≡ x = div-add-mod' x r in
    let sum : (q + d) * r ≡ q * r + d * r = add-mul q d r in
    let next : (q + d + 1) * r ≡ (q + d) * r + 1 * r = add-mul (q + d) 1 r in
    let swapped : r * d ≡ d * r = mul_comm r d in
    let long : 1 * r ≤ d * r = mul-le-mul later (omega arith) in
    let one : 1 * r ≡ r = omega arith in
    let at : (x + (r * d - x % r)) / r ≡ q + d = div-eq_of_lt-le r (omega arith) (omega arith) in
    record {
      own = ap (λ y. y % n) at ∙ h.own;
      least = λ k less is.
          let low : q ≤ (x + k) / r = le-div q (x + k) r some (omega arith) in
          let high : (x + k) / r < q + d = (div-lt_iff_lt-mul some).1 (omega arith) in
          let j : ℕ = (x + k) / r - q in
          let here : q + j ≡ (x + k) / r = omega arith in
          h.least j (omega arith) (ap (λ y. y % n) here ∙ is);
    }

wait_is : (r n m x d : ℕ) → 0 < r → IsTurn n m (x / r) d → IsWait r n m x (r * d - x % r)
wait_is r n m x d some h = elim (cases_eq d 0) [
  | inl none ↦
      let h' : IsTurn n m (x / r) 0 = rw none at h in
      let zeros : r * d ≡ r * 0 = ap (λ k. r * k) none in
      let product : r * 0 ≡ 0 = omega arith in
      wait_none r n m x (r * d - x % r) h' (omega arith)
  | inr other ↦ wait_turns r n m x d some (omega arith) h
]

-- how many positions pass before the next one of member m, from x positions after the start of an epoch
pub wait_for : (r n m x : ℕ) → 0 < r → m < n → IsWait r n m x (r * ((m + n - x / r % n) % n) - x % r)
wait_for r n m x some member = wait_is r n m x ((m + n - x / r % n) % n) some (turns_are n m (x / r) member)

-- a round times the turns stays small
pub short_wait : (r n d : ℕ) → r ≤ 1024 → n ≤ 16 → d < n → r * d < 2 ^ 14
short_wait r n d few members turns = let fewer : d ≤ 15 = omega arith in let most : r * d ≤ 1024 * 15 = mul-le r d 1024 15 few fewer in omega arith

-- q is the first position of member m from a position on, were there no later epoch
pub record IsFirstOwn (round : ℕ) (e : Epoch) (m from q : ℕ) : Type 0 where
  pub above : from ≤ q
  pub own : owner_in round e q ≡ m
  pub least : (k : ℕ) → from ≤ k → k < q → owner_in round e k ≢ m

pub first_own : (round : ℕ) (e : Epoch) (m from w : ℕ) → owner_in round e (from + w) ≡ m → ((k : ℕ) → k < w → owner_in round e (from + k) ≢ m) → IsFirstOwn round e m from (from + w)
first_own round e m from w own least = record {
  above = omega arith;
  own = own;
  least = λ k above below is.
      let at : from + (k - from) ≡ k = omega arith in
      least (k - from) (omega arith) (ap (owner_in round e) at ∙ is);
}
