-- What a test of the first epochs tells of two lists.
use Rattle.std.proofs.Common.{◌≡◌, ℕ, Bool, IsTrue, ◌&&◌, eqb, List, ◌++◌, length, take, drop, ap, sym, ◌∙◌, ap₂, arith}
use Rattle.std.specs.Bool.{Decides}
use Rattle.std.specs.List.{starts_with}
use Rattle.std.proofs.lemmas.List.{take-append-drop, length-append}
use Rattle.std.proofs.lemmas.Bool.{and_parts, and_from, eqb-true, eq-eqb}
use Rattle.std.proofs.lemmas.Slice.Eq.{starts_is}
use Rattle.std.proofs.Math.Seq.{take-append_seam}
use Rattle.flstore_rounds.specs.declared.epochs.Epoch.{Epoch}
use Rattle.flstore_rounds.specs.Epochs.{EpochList, IsPrefix}

-- epochs are equal where both numbers are
pub same_epoch : (x y : Epoch) → Decides (eqb x.start y.start && eqb x.members y.members) (x ≡ y)
same_epoch x y = (
  λ both.
      let parts = and_parts (eqb x.start y.start) (eqb x.members y.members) both in
      ap₂ (λ (s m : ℕ). let e : Epoch = record { start = s; members = m } in e) (eqb-true x.start y.start parts.0) (eqb-true x.members y.members parts.1),
  λ is. and_from (eqb x.start y.start) (eqb x.members y.members) (eq-eqb x.start y.start (ap (λ (e : Epoch). e.start) is)) (eq-eqb x.members y.members (ap (λ (e : Epoch). e.members) is)),
)

prefix_is : (E : Epoch → Epoch → Bool) (e t : EpochList) (b : Bool) → ((x y : Epoch) → Decides (E x y) (x ≡ y)) → e.round ≡ t.round → b ≡ starts_with E t.list e.list
    → (IsTrue b → IsPrefix e t) × (IsPrefix e t → IsTrue b)
prefix_is E e t b decides round is =
    let n : ℕ = length e.list in
    let told = starts_is decides t.list e.list b is in (
      λ yes. record {
        round = round;
        shorter = omega (arith, ap length (told.0 yes), length-append e.list (drop n t.list));
        same = sym (ap (take n) (told.0 yes) ∙ take-append_seam e.list (drop n t.list));
      },
      λ pre. told.1 (drop n t.list) (sym (take-append-drop n t.list) ∙ ap (λ xs. xs ++ drop n t.list) (sym pre.same)),
    )

-- the same of what contracts see
pub prefix_tested : {E : Epoch → Epoch → Bool} (e t v w : EpochList) (xs ys : List Epoch) (b : Bool) → b ≡ starts_with E xs ys → xs ≡ t.list → ys ≡ e.list → e ≡ v → t ≡ w
    → ((x y : Epoch) → Decides (E x y) (x ≡ y)) → e.round ≡ t.round → (IsTrue b → IsPrefix v w) × (IsPrefix v w → IsTrue b)
prefix_tested {E} e t v w xs ys b is whole front left right decides round =
    rw (← left, ← right) (prefix_is E e t b decides round (is ∙ ap (λ zs. starts_with E zs ys) whole ∙ ap (starts_with E t.list) front))
