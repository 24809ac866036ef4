-- What a maintainer owns, by its own epoch list and by the whole one.
use Rattle.std.proofs.Common.{◌≡◌, ℕ, ◌<◌, ◌≤◌, List, get_or, refl, ap, sym, ◌∙◌, subst, inl, inr, arith}
use Rattle.std.specs.List.{All}
use Rattle.std.proofs.lemmas.Bool.{cases_lt}
use Rattle.std.proofs.lemmas.List.Elements.{All-nil, All-weaker}
use Rattle.flstore_rounds.specs.declared.epochs.Epoch.{Epoch}
use Rattle.flstore_rounds.specs.Epochs.{EpochList, owner, longer, with_epoch, IsPrefix, IsSettled}
use Rattle.flstore_rounds.specs.Heads.{IsTruePair, single}
use Rattle.flstore_rounds.proofs.EpochLemmas.{All-later_more, longer_left, longer_right, longer_prefix, owns_longer, prefix_more}
use Rattle.flstore_rounds.proofs.HeadLemmas.{single_true}
use Rattle.maintainer.specs.declared.slot.Slot.{Slot}
use Rattle.maintainer.specs.Maintainers.{MaintainerState, IsFilled, Owns, OwnsAll, collected, empty, learned, mark_of, moved_in, placed, times_in}
use Rattle.maintainer.proofs.CountLemmas.{counts_itself, entry_counted, position_counted}
use Rattle.maintainer.proofs.LawLemmas.{own_true}
use Rattle.maintainer.proofs.PositionLemmas.{All-put_position}
use Rattle.maintainer.proofs.SlotLemmas.{All-put_in, times_in-some}
use Rattle.maintainer.proofs.StateLemmas.{All-collected, has_taken}

module _ {T : Type 0} where
  -- what is filled is owned
  pub owns_filled : (t : EpochList) (m : MaintainerState T) (p : ℕ) → OwnsAll t m → IsFilled m p → Owns t m p
  owns_filled t m p owns some = elim (cases_lt 0 (times_in p m.entries)) [
    | inl there ↦ entry_counted (Owns t m) p m.entries there owns.entries
    | inr not_there ↦ position_counted (Owns t m) p m.gone (omega arith) owns.gone
  ]

  -- its own list and mark are a true pair
  pub own_pair_true : (t : EpochList) (m : MaintainerState T) (P : ℕ → Type 0) → All (λ (n : Epoch). 1 ≤ n.start) t.list → OwnsAll t m → ((p : ℕ) → IsFilled m p → P p) → IsTruePair t P (single m.epochs m.number (mark_of m))
  own_pair_true t m P starts owns has = single_true t m.epochs P m.number (mark_of m) (own_true t m P starts owns has)

  -- each further state owns all that it has filled

  pub owns_empty : (t e : EpochList) (number : ℕ) → IsPrefix e t → OwnsAll t (empty {T = T} number e)
  owns_empty t e number known = record { known = known; entries = All-nil (λ (x : Slot T). Owns t (empty {T = T} number e) x.lid); gone = All-nil (Owns t (empty {T = T} number e)) }

  pub owns_placed : (t : EpochList) (m : MaintainerState T) (p : ℕ) (value : T) → OwnsAll t m → Owns t m p → OwnsAll t (placed m p value)
  owns_placed t m p value owns here = record {
    known = owns.known;
    entries = All-put_in (λ (x : Slot T). Owns t (placed m p value) x.lid) (record { lid = p; value = value }) m.entries (record { own = here.own; settled = here.settled })
        (All-weaker (λ (x : Slot T). Owns t m x.lid) (λ (x : Slot T). Owns t (placed m p value) x.lid) (λ x o. record { own = o.own; settled = o.settled }) m.entries owns.entries);
    gone = All-weaker (Owns t m) (Owns t (placed m p value)) (λ q o. record { own = o.own; settled = o.settled }) m.gone owns.gone;
  }

  pub owns_moved_in : (t : EpochList) (m : MaintainerState T) (es : List (Slot T)) → OwnsAll t m → All (λ e. Owns t m e.lid) es → OwnsAll t (moved_in m es)
  owns_moved_in t m es owns more =
      let n : MaintainerState T = moved_in m es in
      let taken = has_taken m es in
      let still : (p : ℕ) → Owns t m p → Owns t n p = λ p o. record {
        own = ap (λ e. owner e p) taken.epochs ∙ o.own ∙ sym taken.number;
        settled = subst (λ e. IsSettled t e p) (sym taken.epochs) o.settled;
      } in
      let both : (xs : List (Slot T)) → All (λ e. Owns t m e.lid) xs → All (λ e. Owns t n e.lid) xs = All-weaker (λ (x : Slot T). Owns t m x.lid) (λ (x : Slot T). Owns t n x.lid) (λ x. still x.lid) in
      record {
        known = subst (λ e. IsPrefix e t) (sym taken.epochs) owns.known;
        entries = taken.each (λ e. Owns t n e.lid) (both m.entries owns.entries) (both es more);
        gone = subst (All (Owns t n)) (sym taken.gone) (All-weaker (Owns t m) (Owns t n) still m.gone owns.gone);
      }

  -- what a list that is learned gives it is its own, and what it owned stays so
  pub owns_told : (t : EpochList) (m : MaintainerState T) (f : EpochList) (p : ℕ) → IsPrefix m.epochs t → IsPrefix f t → owner f p ≡ m.number → IsSettled t f p → Owns t (learned m f) p
  owns_told t m f p known also own settled =
      let both = owns_longer t f (longer m.epochs f) m.number p also (longer_prefix m.epochs f t known also) (longer_right m.epochs f) own settled in
      record { own = both.0; settled = both.1 }

  pub owns_still : (t : EpochList) (m : MaintainerState T) (f : EpochList) (p : ℕ) → IsPrefix m.epochs t → IsPrefix f t → Owns t m p → Owns t (learned m f) p
  owns_still t m f p known also has =
      let both = owns_longer t m.epochs (longer m.epochs f) m.number p known (longer_prefix m.epochs f t known also) (longer_left m.epochs f) has.own has.settled in
      record { own = both.0; settled = both.1 }

  pub owns_learned : (t : EpochList) (m : MaintainerState T) (f : EpochList) → OwnsAll t m → IsPrefix f t → OwnsAll t (learned m f)
  owns_learned t m f owns also = record {
    known = longer_prefix m.epochs f t owns.known also;
    entries = All-weaker (λ (x : Slot T). Owns t m x.lid) (λ (x : Slot T). Owns t (learned m f) x.lid) (λ x. owns_still t m f x.lid owns.known also) m.entries owns.entries;
    gone = All-weaker (Owns t m) (Owns t (learned m f)) (λ p. owns_still t m f p owns.known also) m.gone owns.gone;
  }

  pub owns_collected : (t : EpochList) (m : MaintainerState T) (p : ℕ) → OwnsAll t m → IsFilled m p → OwnsAll t (collected m p)
  owns_collected t m p owns full =
      let n : MaintainerState T = collected m p in
      let again : (q : ℕ) → Owns t m q → Owns t n q = λ q o. record { own = o.own; settled = o.settled } in
      record {
        known = owns.known;
        entries = All-collected (λ (x : Slot T). Owns t n x.lid) m p (All-weaker (λ (x : Slot T). Owns t m x.lid) (λ (x : Slot T). Owns t n x.lid) (λ x. again x.lid) m.entries owns.entries);
        gone = All-put_position (Owns t n) p m.gone (again p (owns_filled t m p owns full)) (All-weaker (Owns t m) (Owns t n) again m.gone owns.gone);
      }

  -- by the whole list with an epoch more, which starts above all that is filled
  pub owns_later : (t : EpochList) (n : Epoch) (m : MaintainerState T) → OwnsAll t m → ((p : ℕ) → IsFilled m p → p < n.start) → OwnsAll (with_epoch t n) m
  owns_later t n m owns above =
      let later : (p : ℕ) → Owns t m p → p < n.start → Owns (with_epoch t n) m p = λ p o low. record {
        own = o.own;
        settled = All-later_more (λ (x : Epoch). p < x.start) m.epochs t n owns.known o.settled low;
      } in
      record {
        known = prefix_more m.epochs t n owns.known;
        entries = λ k e within. later (get_or m.entries k e).lid (owns.entries k e within) (above (get_or m.entries k e).lid (omega (arith, times_in-some (get_or m.entries k e).lid k e m.entries within refl)));
        gone = λ k q within. later (get_or m.gone k q) (owns.gone k q within) (above (get_or m.gone k q) (omega (arith, counts_itself m.gone k q within)));
      }
