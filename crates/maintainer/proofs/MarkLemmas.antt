-- What follows of a mark, for any positions of one's own of which some are filled.
use Rattle.std.proofs.Common.{◌≡◌, ℕ, ◌<◌, ◌≤◌, sym, ◌∙◌, subst, inl, inr, arith}
use Rattle.std.proofs.lemmas.Bool.{cases_lt, cases_eq}
use Rattle.maintainer.specs.Marks.{IsGapless, IsOwnReached, IsMarkOf}

module _ (own filled : ℕ → Type 0) where
  pub reached_filled : (k p : ℕ) → IsOwnReached own filled k → p < k → 1 ≤ p → own p → filled p
  reached_filled k p reached low first here = elim reached [
    | inl none ↦ absurd (omega arith)
    | inr at ↦ at.2.all p (omega (arith, at.1)) here
  ]

  -- no own position lies between k, up to which there is no gap, and q, which is filled
  pub gapless_on : (k q : ℕ) → IsOwnReached own filled k → ((p : ℕ) → own p → 1 ≤ p) → own q → filled q → ((p : ℕ) → k ≤ p → p < q → own p → ⊥) → IsGapless own filled q
  gapless_on k q reached first here full none = record {
    here = here;
    all = λ p le is. elim (cases_lt p k) [
      | inl low ↦ reached_filled k p reached low (first p is) is
      | inr high ↦ elim (cases_eq p q) [
        | inl same ↦ subst filled (sym same) full
        | inr other ↦ absurd (none p high (omega (arith, other)) is)
      ]
    ];
  }

  -- the next own position from k on is not filled
  pub mark_at_gap : (k q : ℕ) → IsOwnReached own filled k → own q → (filled q → ⊥) → ((p : ℕ) → k ≤ p → p < q → own p → ⊥) → IsMarkOf own filled k
  mark_at_gap k q reached here vacant none = record {
    reached = reached;
    greatest = λ p full. elim (cases_lt p k) [
      | inl low ↦ low
      | inr high ↦ elim (cases_lt p q) [
        | inl between ↦ absurd (none p high between full.here)
        | inr above ↦ absurd (vacant (full.all q above here))
      ]
    ];
  }

  -- no own position from k on is filled
  pub mark_at_end : (k : ℕ) → IsOwnReached own filled k → ((p : ℕ) → k ≤ p → filled p → ⊥) → IsMarkOf own filled k
  mark_at_end k reached none = record {
    reached = reached;
    greatest = λ p full. elim (cases_lt p k) [
      | inl low ↦ low
      | inr high ↦ absurd (none p high (full.all p (omega arith) full.here))
    ];
  }

  -- the next own position from a mark on is not filled
  pub mark_gap : (k q : ℕ) → IsMarkOf own filled k → ((p : ℕ) → own p → 1 ≤ p) → k ≤ q → own q → ((p : ℕ) → k ≤ p → p < q → own p → ⊥) → filled q → ⊥
  mark_gap k q mark first high here none full = let low : q < k = mark.greatest q (gapless_on k q mark.reached first here full none) in absurd (omega arith)

  -- no mark is below what is reached
  pub mark_below_reached : (k l : ℕ) → ((p : ℕ) → own p → 1 ≤ p) → IsOwnReached own filled k → IsMarkOf own filled l → k ≤ l
  mark_below_reached k l first reached mark = elim reached [
    | inl low ↦ elim mark.reached [
      | inl also ↦ omega (arith, low, also)
      | inr bt ↦ omega (arith, low, bt.1)
    ]
    | inr at ↦ omega (arith, at.1, mark.greatest at.0 at.2)
  ]

  pub mark_unique : (k l : ℕ) → ((p : ℕ) → own p → 1 ≤ p) → IsMarkOf own filled k → IsMarkOf own filled l → k ≡ l
  mark_unique k l first a b = elim a.reached [
    | inl low ↦ elim b.reached [
      | inl also ↦ low ∙ sym also
      | inr bt ↦ absurd (omega (arith, low, a.greatest bt.0 bt.2, first bt.0 bt.2.here))
    ]
    | inr at ↦ elim b.reached [
      | inl low ↦ absurd (omega (arith, low, b.greatest at.0 at.2, first at.0 at.2.here))
      | inr bt ↦ omega (arith, at.1, bt.1, a.greatest bt.0 bt.2, b.greatest at.0 at.2)
    ]
  ]

-- where more positions are filled
pub reached_more : (own filled more : ℕ → Type 0) → ((p : ℕ) → filled p → more p) → (k : ℕ) → IsOwnReached own filled k → IsOwnReached own more k
reached_more own filled more grows k reached = elim reached [
  | inl low ↦ inl low
  | inr at ↦ inr (at.0, at.1, record { here = at.2.here; all = λ q le is. grows q (at.2.all q le is) })
]

-- where the same positions are filled
pub mark_same : (own filled also : ℕ → Type 0) → ((p : ℕ) → filled p → also p) → ((p : ℕ) → also p → filled p) → (k : ℕ) → IsMarkOf own filled k → IsMarkOf own also k
mark_same own filled also to back k mark = record {
  reached = reached_more own filled also to k mark.reached;
  greatest = λ p full. mark.greatest p (record { here = full.here; all = λ q le is. back q (full.all q le is) });
}

-- positions up to a filled one are one's own by the one list exactly where they are by the other
pub mark_alike : (own also filled : ℕ → Type 0) → ((p q : ℕ) → filled p → q ≤ p → own q → also q) → ((p q : ℕ) → filled p → q ≤ p → also q → own q) → (k : ℕ) → IsMarkOf own filled k → IsMarkOf also filled k
mark_alike own also filled to back k mark = record {
  reached = elim mark.reached [
    | inl low ↦ inl low
    | inr at ↦ let full : filled at.0 = at.2.all at.0 (omega arith) at.2.here in
        inr (at.0, at.1, record { here = to at.0 at.0 full (omega arith) at.2.here; all = λ q le is. at.2.all q le (back at.0 q full le is) })
  ];
  greatest = λ p up.
      let full : filled p = up.all p (omega arith) up.here in
      mark.greatest p (record { here = back p p full (omega arith) up.here; all = λ q le is. up.all q le (to p q full le is) });
}
