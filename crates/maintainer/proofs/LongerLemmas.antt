-- Owners by the longer of two epoch lists.
use Rattle.std.proofs.Common.{◌≡◌, ◌⊎◌, ℕ, ◌<◌, ◌≤◌, ltb, length, refl, ap, sym, inl, inr, arith}
use Rattle.std.proofs.lemmas.List.Elements.{All-weaker}
use Rattle.std.proofs.lemmas.Bool.{cond-false, cond_both, le-ltb}
use Rattle.flstore_rounds.specs.declared.epochs.Epoch.{Epoch}
use Rattle.flstore_rounds.specs.Epochs.{EpochList, owner, IsPrefix, IsSettled, later_than, longer}
use Rattle.flstore_rounds.proofs.EpochLemmas.{owner-prefix}

-- a position below each start that f adds has one owner by e and by the longer of both
pub owner-longer : (e f : EpochList) (p : ℕ) → IsPrefix e f ⊎ IsPrefix f e → IsSettled f e p → owner (longer e f) p ≡ owner e p
owner-longer e f p known settled = elim known [
  | inl pre ↦ cond_both (ltb (length e.list) (length f.list)) f e (λ (t : EpochList). owner t p ≡ owner e p) (λ is. sym (owner-prefix e f p pre settled)) (λ is. refl)
  | inr pre ↦ ap (λ (t : EpochList). owner t p) (cond-false (ltb (length e.list) (length f.list)) f e (le-ltb (length e.list) (length f.list) pre.shorter))
]

pub settled_below : (t e : EpochList) (p q : ℕ) → q ≤ p → IsSettled t e p → IsSettled t e q
settled_below t e p q le = All-weaker (λ (n : Epoch). p < n.start) (λ (n : Epoch). q < n.start) (λ n lt. omega arith) (later_than e t)
