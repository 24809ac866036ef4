-- The greatest numbers passed, after more records passed.
use Rattle.std.proofs.Common.{◌≡◌, ◌⊎◌, ℕ, ◌<◌, ◌≤◌, max, List, [], ◌∷◌, length, get_or, refl, ap, sym, ◌∙◌, inl, inr, arith, Contains}
use Rattle.std.proofs.lemmas.List.{get_or-set_same, get_or-set_other, length-set, set_past}
use Rattle.std.proofs.lemmas.Bool.{cases_eq, cases_lt}
use Rattle.causal_deps.specs.declared.record.Record.{Record}
use Rattle.causal_deps.specs.Counts.{raised}
use Rattle.causal_deps.proofs.Lists.{Contains-cons, Contains-here, Contains-there}
use Rattle.toid_filter.specs.Filters.{reached_by}

-- one entry is raised, or none
pub raised_cases : (xs : List ℕ) (k t h : ℕ) → ((k ≡ h) × (k < length xs) × (get_or (raised xs k t) h 0 ≡ max (get_or xs h 0) t)) ⊎ (((k ≡ h) × (k < length xs) → ⊥) × (get_or (raised xs k t) h 0 ≡ get_or xs h 0))
raised_cases xs k t h = elim (cases_eq h k) [
  | inr other ↦ inr (λ both. other (sym both.0), get_or-set_other xs k h (max (get_or xs k 0) t) 0 other)
  | inl same ↦ elim (cases_lt k (length xs)) [
    | inr past ↦ inr (λ both. absurd (omega (arith, both.1)), ap (λ ys. get_or ys h 0) (set_past xs k (max (get_or xs k 0) t) past))
    | inl within ↦ inl (sym same, within, ap (λ i. get_or (raised xs k t) i 0) same ∙ get_or-set_same xs k (max (get_or xs k 0) t) 0 within ∙ ap (λ i. max (get_or xs i 0) t) (sym same))
  ]
]

pub raised_length : (xs : List ℕ) (k t : ℕ) → length (raised xs k t) ≡ length xs
raised_length xs k t = length-set xs k (max (get_or xs k 0) t)

pub raised_more : (xs : List ℕ) (k t h : ℕ) → get_or xs h 0 ≤ get_or (raised xs k t) h 0
raised_more xs k t h = elim (raised_cases xs k t h) [
  | inl here ↦ omega (arith, here.2)
  | inr there ↦ omega (arith, there.1)
]

pub reached_length : (xs : List ℕ) (rs : List Record) → length (reached_by xs rs) ≡ length xs
reached_length xs [] = refl
reached_length xs (r ∷ rs) = reached_length (raised xs r.host r.toid) rs ∙ raised_length xs r.host r.toid

pub reached_more : (xs : List ℕ) (rs : List Record) (h : ℕ) → get_or xs h 0 ≤ get_or (reached_by xs rs) h 0
reached_more xs [] h = omega arith
reached_more xs (r ∷ rs) h = omega (arith, raised_more xs r.host r.toid h, reached_more (raised xs r.host r.toid) rs h)

-- each record counts
pub reached_covers : (xs : List ℕ) (rs : List Record) (r : Record) → Contains rs r → r.host < length xs → r.toid ≤ get_or (reached_by xs rs) r.host 0
reached_covers xs [] r (k, within, at) fits = absurd (omega arith)
reached_covers xs (q ∷ rs) r has fits = elim (Contains-cons q rs r has) [
  | inr there ↦ reached_covers (raised xs q.host q.toid) rs r there (omega (arith, raised_length xs q.host q.toid))
  | inl here ↦
      let host : q.host ≡ r.host = ap (λ (x : Record). x.host) here in
      let toid : q.toid ≡ r.toid = ap (λ (x : Record). x.toid) here in
      let more = reached_more (raised xs q.host q.toid) rs r.host in
      elim (raised_cases xs q.host q.toid r.host) [
        | inl is ↦ omega (arith, is.2, more, toid)
        | inr not_is ↦ absurd (not_is.0 (host, omega arith))
      ]
]

-- and only they count
pub reached_cases : (xs : List ℕ) (rs : List Record) (h : ℕ) → (get_or (reached_by xs rs) h 0 ≡ get_or xs h 0) ⊎ ((r : Record) × Contains rs r × (r.host ≡ h) × (get_or (reached_by xs rs) h 0 ≡ r.toid))
reached_cases xs [] h = inl refl
reached_cases xs (q ∷ rs) h = elim (reached_cases (raised xs q.host q.toid) rs h) [
  | inr (r, has, host, at) ↦ inr (r, Contains-there q rs r has, host, at)
  | inl same ↦ elim (raised_cases xs q.host q.toid h) [
    | inr stays ↦ inl (same ∙ stays.1)
    | inl is ↦ elim (cases_lt (get_or xs h 0) q.toid) [
      | inl more ↦ inr (q, Contains-here q rs, is.0, omega (arith, same, is.2))
      | inr less ↦ inl (omega (arith, same, is.2))
    ]
  ]
]
