-- What each kind of step does to the part of the rule on marks.
use Rattle.std.proofs.Common.{◌≡◌, ◌≢◌, ◌⊎◌, ℕ, zero, suc, ◌+◌, ◌*◌, ◌-◌, ◌/◌, ◌<◌, ◌≤◌, max, List, [], ◌∷◌, set, get_or, length, replicate, if◌then◌else◌, nat_le, false, refl, ap, sym, ◌∙◌, subst, ⊎_elim, inl, inr, arith, get_or-set_other, get_or-set_same}
use Rattle.std.proofs.lemmas.Bool.Decides.{nat_tests}
use mathlib.Core.Logic.{dite}
use native.Mathlib.Decide.{ℕ_discrete, dec_le}
use Rattle.flstore_rounds.specs.declared.epochs.Epoch.{Epoch}
use Rattle.flstore_rounds.specs.Epochs.{owner, owner_in, epoch_from, first_epoch}
use Rattle.journal_lock.specs.declared.duty.Position.{Position}
use Rattle.journal_lock.specs.declared.law.Note.{Note}
use Rattle.journal_lock.specs.Duties.{place, has}
use Rattle.journal_lock.specs.Words.{mark_word, epoch_word}
use Rattle.journal_lock.specs.Finds.{best, ended, IsLater, AllStand}
use Rattle.journal_lock.specs.Marks.{epoch_of, then_epochs, epochs_by, list_by, placed_by, Marked, MayRise}
use Rattle.journal_lock.proofs.Finds.{at_word, best_same, ended_later}
use Rattle.journal_lock.proofs.Spans.{AreAlike, alike_after}

-- a step over one epoch
over : (p value : ℕ) (e : Epoch) (r s : List Epoch) → ((f : Epoch) → epoch_from f r p ≡ epoch_from f s p) → epoch_from e (then_epochs value r) p ≡ epoch_from e (then_epochs value s) p
over p zero e r s k = refl
over p (suc value) e r s k = k (if nat_le (epoch_of (suc value)).start p then epoch_of (suc value) else e)

over_late : (p value : ℕ) (e : Epoch) (r : List Epoch) → IsLater p value → epoch_from e r p ≡ e → epoch_from e (then_epochs value r) p ≡ e
over_late p zero e r late k = refl
over_late p (suc value) e r late k = ⊎_elim (λ (z : suc value ≡ 0). absurd (omega arith))
    (λ (more : p < suc value / 32). (let no : nat_le (suc value / 32) p ≡ false = grind (arith, nat_tests) in ap (λ b. epoch_from (if b then epoch_of (suc value) else e) r p) no ∙ k)) late

-- epochs that start above p do not deal it
late_all : (g : ℕ → ℕ) (p n w : ℕ) (e : Epoch) → ((i : ℕ) → w ≤ i → i < w + n → IsLater p (g i)) → epoch_from e (epochs_by g w n) p ≡ e
late_all g p zero w e late = refl
late_all g p (suc n) w e late = over_late p (g w) e (epochs_by g (w + 1) n) (late w (omega arith) (omega arith)) (late_all g p n (w + 1) e (λ i a b. late i (omega arith) (omega arith)))

-- they deal p alike
pub alike : (f g : ℕ → ℕ) (p n w : ℕ) (e : Epoch) → AreAlike f g p n w → epoch_from e (epochs_by f w n) p ≡ epoch_from e (epochs_by g w n) p
alike f g p zero w e h = refl
alike f g p (suc n) w e h = ⊎_elim
    (λ (same : f w ≡ g w). ap (λ value. epoch_from e (then_epochs value (epochs_by f (w + 1) n)) p) same ∙ over p (g w) e (epochs_by f (w + 1) n) (epochs_by g (w + 1) n) (λ e'. alike f g p n (w + 1) e' (alike_after f g p n w h)))
    (λ (t : (f w ≡ 0) × ((j : ℕ) → w ≤ j → j < w + suc n → IsLater p (g j))). ap (λ value. epoch_from e (then_epochs value (epochs_by f (w + 1) n)) p) t.0 ∙ sym (late_all g p (suc n) w e t.1)) (h w (omega arith) (omega arith))

pub same_owner : (round d p : ℕ) (f g : ℕ → ℕ) → AreAlike f g p 16 (epoch_word d 0) → owner (list_by round f d) p ≡ owner (list_by round g d) p
same_owner round d p f g h = ap (λ e. owner_in round e p) (alike f g p 16 (epoch_word d 0) first_epoch h)

-- which epoch of d a word is
pub nth : (d i : ℕ) → epoch_word d 0 ≤ i → i < epoch_word d 0 + 16 → (k : ℕ) × (k < 16) × (i ≡ epoch_word d k)
nth d i a b = (let k : ℕ = i - epoch_word d 0 in (k, omega arith, omega arith))

module _ (round : ℕ) (words : List ℕ) (qs : List (List Position)) (r : Marked round words qs) where
  -- the turn or the count changes, and no fewer are placed
  pub moves : (words' : List ℕ) (qs' : List (List Position)) → ((w : ℕ) → 2 ≤ w → at_word words' w ≡ at_word words w) → ((x : ℕ) → placed_by x qs ≤ placed_by x qs') → Marked round words' qs'
  moves words' qs' same more = record {
    filled = λ d m p a b from low own. (let h = r.filled d m p a b from (let e = same (mark_word d m) (omega arith) in omega arith) (same_owner round d p (at_word words) (at_word words') (λ i le lt. inl (sym (same i (omega arith)))) ∙ own) in omega (arith, more (8 * p + d)));
  }

  -- a mark rises
  pub raises : (e k v : ℕ) → e < 8 → k < 16 → (w : ℕ) → w ≡ mark_word e k → w < length words → ((p : ℕ) → 1 ≤ p → p < v → owner (list_by round (at_word words) e) p ≡ k → 0 < placed_by (8 * p + e) qs) → Marked round (set words w (max (at_word words w) v)) qs
  raises e k v small few w is inside own = let new : ℕ = max (at_word words w) v in let words' : List ℕ = set words w new in let here : at_word words' w ≡ new = get_or-set_same words w new 0 inside in
      let there : (u : ℕ) → u ≢ w → at_word words' u ≡ at_word words u = λ u ne. get_or-set_other words w u new 0 ne in record {
        filled = λ d m p a b from low owned. (
            let was : owner (list_by round (at_word words) d) p ≡ m = same_owner round d p (at_word words) (at_word words') (λ i le lt. inl (sym (there i (λ z. omega arith)))) ∙ owned in
            dite (ℕ_discrete (mark_word d m) w)
            (λ at. dite (dec_le (at_word words w) p)
            (λ above. (let d_is : d ≡ e = omega arith in let m_is : m ≡ k = omega arith in let q = ap (at_word words') at in
            subst (λ z. 0 < placed_by (8 * p + z) qs) (sym d_is) (own p from (omega arith) (ap (λ z. owner (list_by round (at_word words) z) p) (sym d_is) ∙ (was ∙ m_is)))))
            (λ below. r.filled d m p a b from (let q = ap (at_word words) at in omega arith) was))
            (λ ne. r.filled d m p a b from (let q = there (mark_word d m) ne in omega arith) was));
      }

  weaker : (x y value : ℕ) → x ≤ y → IsLater y value → IsLater x value
  weaker x y value le l = ⊎_elim (λ (z : value ≡ 0). inl z) (λ (more : y < value / 32). inr (omega arith)) l

  -- an epoch begins above all that is stamped
  pub begins : (e k new : ℕ) → k < 16 → (len : ℕ → ℕ) → ((d m : ℕ) → d < 8 → m < 16 → at_word words (mark_word d m) ≤ len d + 1) → IsLater (len e) new → ((j : ℕ) → k ≤ j → j < 16 → at_word words (epoch_word e j) ≡ 0) → (w : ℕ) → w ≡ epoch_word e k → w < length words → Marked round (set words w new) qs
  begins e k new few len low later none w is inside = let words' : List ℕ = set words w new in let here : at_word words' w ≡ new = get_or-set_same words w new 0 inside in
      let there : (u : ℕ) → u ≢ w → at_word words' u ≡ at_word words u = λ u ne. get_or-set_other words w u new 0 ne in record {
        filled = λ d m p a b from under owned. (
            let mark : at_word words' (mark_word d m) ≡ at_word words (mark_word d m) = there (mark_word d m) (λ z. omega arith) in let bound = low d m a b in
            r.filled d m p a b from (omega arith) (same_owner round d p (at_word words) (at_word words') (λ i le lt. dite (ℕ_discrete i w)
            (λ at. (let d_is : d ≡ e = omega arith in inr (
              ap (at_word words) (at ∙ is) ∙ none k (omega arith) few,
              λ j jle jlt. dite (ℕ_discrete j w)
                  (λ jw. subst (IsLater p) (sym (ap (at_word words') jw ∙ here)) (weaker p (len e) new (let q = ap len d_is in omega arith) later))
                  (λ jn. (let n = nth d j (omega arith) jlt in inl (there j jn ∙ (ap (at_word words) (n.2 ∙ ap (λ z. epoch_word z n.0) d_is) ∙ none n.0 (let q = n.2 in omega arith) n.1)))),
            )))
            (λ ne. inl (sym (there i ne)))) ∙ owned));
      }

-- what a pass knows of the epochs is as they are, but for those that start above positions below the mark
pub known_alike : (round d m mark : ℕ) (notes : List Note) (placed : List Position) (words : List ℕ) → AllStand words notes → MayRise round d m mark notes placed → (p : ℕ) → 1 ≤ p → p < mark → AreAlike (λ w. best w notes) (at_word words) p 16 (epoch_word d 0)
known_alike round d m mark notes placed words stand may p from low i le lt = let n = nth d i le lt in dite (ℕ_discrete (best i notes) 0)
    (λ none. (let after = past n.0 (ap (λ z. best z notes) (sym n.2) ∙ none) in inr (
      none,
      λ j a b. (let o = nth d j (omega arith) b in subst (λ z. IsLater p (at_word words z)) (sym o.2)
          (⊎_elim (λ (full : may.count ≡ 16). absurd (let q = n.1 in omega arith))
          (λ (above : mark ≤ ended (epoch_word d may.count) notes + 1). ended_later words d may.count o.0 p notes (let q = n.2 in let u = o.2 in omega arith) o.1 stand from (omega arith))
          may.later)),
    )))
    (λ some_epoch. inl (sym (best_same words i notes (omega arith) stand (omega arith))))
  where
    past : (k : ℕ) → best (epoch_word d k) notes ≡ 0 → may.count ≤ k
    past k none = dite (dec_le may.count k) (λ z. z) (λ less. absurd (let more = may.all k (omega arith) in omega arith))

-- so it deals the positions below the mark as they are dealt
pub risen : (round d m mark : ℕ) (notes : List Note) (placed : List Position) (words : List ℕ) → AllStand words notes → MayRise round d m mark notes placed → (p : ℕ) → 1 ≤ p → p < mark → owner (list_by round (at_word words) d) p ≡ m → 0 < has place (8 * p + d) placed
risen round d m mark notes placed words stand may p from low own = may.own p from low (same_owner round d p (λ w. best w notes) (at_word words) (known_alike round d m mark notes placed words stand may p from low) ∙ own)
