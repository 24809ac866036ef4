-- Two beginnings of one epoch list.
use Rattle.std.proofs.Common.{◌≡◌, ◌⊎◌, ℕ, zero, suc, ◌-◌, ◌≤◌, List, [], ◌∷◌, take, drop, length, refl, ap, sym, ◌∙◌, inl, inr, arith}
use Rattle.std.specs.List.{All}
use Rattle.std.proofs.lemmas.List.{drop_all, drop-take}
use Rattle.std.proofs.lemmas.List.Elements.{All-nil, All-same, All-take}
use Rattle.std.proofs.lemmas.Bool.{cases_lt}
use Rattle.flstore_rounds.specs.declared.epochs.Epoch.{Epoch}
use Rattle.flstore_rounds.specs.Epochs.{EpochList, IsPrefix, later_than}

-- of two beginnings of a list the shorter is a beginning of the longer
pub take-shorter : {A : Type 0} (n k : ℕ) (xs : List A) → n ≤ k → take n (take k xs) ≡ take n xs
take-shorter zero k xs le = refl
take-shorter (suc n) zero xs le = absurd (omega arith)
take-shorter (suc n) (suc k) [] le = refl
take-shorter (suc n) (suc k) (x ∷ xs) le = ap (λ ys. x ∷ ys) (take-shorter n k xs (omega arith))

-- so it is with epoch lists
pub prefix_of : (e f t : EpochList) → IsPrefix e t → IsPrefix f t → length e.list ≤ length f.list → IsPrefix e f
prefix_of e f t he hf short = record {
  round = he.round ∙ sym hf.round;
  shorter = short;
  same = he.same ∙ sym (take-shorter (length e.list) (length f.list) t.list short) ∙ ap (take (length e.list)) (sym hf.same);
}

-- of two beginnings of one list, one is the beginning of the other
pub prefixes_meet : (e f t : EpochList) → IsPrefix e t → IsPrefix f t → IsPrefix e f ⊎ IsPrefix f e
prefixes_meet e f t he hf = elim (cases_lt (length f.list) (length e.list)) [
  | inl shorter ↦ inr (prefix_of f e t hf he (omega arith))
  | inr longer ↦ inl (prefix_of e f t he hf longer)
]

-- what holds of all that the whole list adds holds of all that a beginning of it adds
pub All-later_by : (P : Epoch → Type 0) (e f t : EpochList) → IsPrefix f t → All P (later_than e t) → All P (later_than e f)
All-later_by P e f t hf all =
    let n : ℕ = length e.list in
    let k : ℕ = length f.list in
    elim (cases_lt n k) [
      | inr none ↦ All-same P (later_than e f) [] (drop_all n f.list none) (All-nil P)
      | inl some ↦
          let is : drop n f.list ≡ take (k - n) (drop n t.list) = ap (drop n) (hf.same ∙ ap (λ i. take i t.list) (omega arith)) ∙ drop-take n (k - n) t.list in
          All-same P (drop n f.list) (take (k - n) (drop n t.list)) is (All-take P (k - n) (drop n t.list) all)
    ]
