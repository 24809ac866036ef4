-- What each kind of step does to the part of the rule on epoch lists and marks together, and what it tells of heads.
use Rattle.std.proofs.Common.{◌≡◌, ◌≢◌, ◌⊎◌, ℕ, zero, suc, ◌+◌, ◌*◌, ◌-◌, ◌/◌, ◌%◌, ◌<◌, ◌≤◌, ◌==◌, Bool, true, false, cond, max, nat_lt, replicate, List, [], ◌∷◌, ◌++◌, length, set, get_or, Some, refl, ap, sym, ◌∙◌, subst, ⊎_elim, inl, inr, arith, get_or-set_other, get_or-set_same}
use Rattle.std.specs.List.{All}
use Rattle.std.proofs.lemmas.Bool.Decides.{nat_tests}
use Rattle.std.proofs.lemmas.List.{get_or_past, drop_all, length-replicate, length-set}
use Rattle.std.proofs.lemmas.List.Elements.{All-nil, All-weaker, All-same, All-drop}
use mathlib.Core.Logic.{dite}
use mathlib.Core.Option.{some}
use native.Mathlib.Decide.{ℕ_discrete, dec_le}
use lib.ListN.{get_elem?}
use Rattle.flstore_rounds.specs.declared.epochs.Epoch.{Epoch}
use Rattle.flstore_rounds.specs.Epochs.{EpochList, IsEpochList, IsPrefix, owner, later_than, longer, with_epoch, last_epoch}
use Rattle.flstore_rounds.specs.Heads.{Pair, IsTruePair, IsTrueMark, mark_at, joined, single, head}
use Rattle.flstore_rounds.proofs.EpochLemmas.{All-later_more, prefix_refl, prefix_more, owner-prefix, longer_left, longer_right, all_starts_from, members_above, members_most}
use Rattle.flstore_rounds.proofs.HeadLemmas.{true_more, true_later, joined_true, mark_at-joined, mark_at-single, mark_at-single_other, single_true, head_grows, head_filled, raised_grows}
use Rattle.journal_lock.specs.declared.duty.Position.{Position}
use Rattle.journal_lock.specs.declared.law.Note.{Note}
use Rattle.journal_lock.specs.declared.law.Note.TheVariants.{Met, Length, Found, Ended, Told}
use Rattle.journal_lock.specs.Duties.{place, has}
use Rattle.journal_lock.specs.Words.{mark_word, epoch_word, code}
use Rattle.journal_lock.specs.Notes.{AllNotes, EachNote}
use Rattle.journal_lock.specs.Finds.{said, best, read_notes, Stands, AllStand}
use Rattle.journal_lock.specs.Marks.{epoch_of, epochs_by, list_by, placed_by, MayRise}
use Rattle.journal_lock.specs.Heads.{pair_of, known_list, known_marks, settle, settled, IsPlaced, Reaches, Agrees, Paired, HeadsJoin, Settles, is_end}
use Rattle.journal_lock.proofs.EachNotes.{all_append, all_by, each_by}
use Rattle.journal_lock.proofs.Spans.{marks_length, marks_at, list_same, epochs_some, epochs_none, epochs_more, begins_by, begins_with, goes_on}
use Rattle.journal_lock.proofs.Marks.{known_alike}
use Rattle.journal_lock.proofs.Finds.{at_word, said_by, told_none, told_here, told_before, best_low, best_same, best_append}

abbrev pub list_at : ℕ → List ℕ → ℕ → EpochList
list_at round words d = list_by round (at_word words) d

-- by whether the datacentre is this one
settle_same : (d e : ℕ) (epochs : EpochList) (marks : List ℕ) (v : Pair) → e ≡ d → settle d (Told e epochs marks) v ≡ joined (pair_of epochs marks) v
settle_same d e epochs marks v is = let b : (e == d) ≡ true = grind (arith, nat_tests) in ap (λ z. cond z (joined (pair_of epochs marks) v) v) b

settle_other : (d e : ℕ) (epochs : EpochList) (marks : List ℕ) (v : Pair) → e ≢ d → settle d (Told e epochs marks) v ≡ v
settle_other d e epochs marks v ne = let b : (e == d) ≡ false = grind (arith, nat_tests) in ap (λ z. cond z (joined (pair_of epochs marks) v) v) b

settle_by : (P : Pair → Type 0) (d e : ℕ) (epochs : EpochList) (marks : List ℕ) (v : Pair) → (e ≡ d → P (joined (pair_of epochs marks) v)) → P v → P (settle d (Told e epochs marks) v)
settle_by P d e epochs marks v here else = dite (ℕ_discrete e d) (λ same. subst P (sym (settle_same d e epochs marks v same)) (here same)) (λ ne. subst P (sym (settle_other d e epochs marks v ne)) else)

-- what is known of a mark
pub known_at : (d : ℕ) (notes : List Note) (m : ℕ) → m < 16 → get_or (known_marks d notes) m 0 ≡ best (mark_word d m) notes
known_at d notes m low = marks_at (λ w. best w notes) (mark_word d 0) 16 m low ∙ ap (λ w. best w notes) (let e : mark_word d 0 + m ≡ mark_word d m = omega arith in e)

pub known_past : (d : ℕ) (notes : List Note) (m : ℕ) → 16 ≤ m → get_or (known_marks d notes) m 0 ≡ 0
known_past d notes m past = get_or_past (known_marks d notes) m 0 (omega (arith, marks_length (λ w. best w notes) (mark_word d 0) 16))

-- one pair is no more than another
abbrev pub IsLess : Pair → Pair → Type 0
IsLess v w = (length v.epochs.list ≤ length w.epochs.list) × ((m : ℕ) → mark_at v m ≤ mark_at w m)

less_self : (v : Pair) → IsLess v v
less_self v = (omega arith, λ m. omega arith)

less_joined : (p v w : Pair) → IsLess v w → IsLess v (joined p w)
less_joined p v w le = (omega (arith, le.0, longer_right p.epochs w.epochs), λ m. omega (arith, le.1 m, mark_at-joined p w m))

longer_length : (e f : EpochList) → length (longer e f).list ≡ max (length e.list) (length f.list)
longer_length e f = dite (dec_le (length f.list) (length e.list))
    (λ le. (let b : nat_lt (length e.list) (length f.list) ≡ false = grind (arith, nat_tests) in ap (λ z. length (cond z f e).list) b ∙ (let q : length e.list ≡ max (length e.list) (length f.list) = omega arith in q)))
    (λ gt. (let b : nat_lt (length e.list) (length f.list) ≡ true = grind (arith, nat_tests) in ap (λ z. length (cond z f e).list) b ∙ (let q : length f.list ≡ max (length e.list) (length f.list) = omega arith in q)))

both_joined : (p v w : Pair) → IsLess v w → IsLess (joined p v) (joined p w)
both_joined p v w le = (omega (arith, le.0, longer_length p.epochs v.epochs, longer_length p.epochs w.epochs), λ m. omega (arith, le.1 m, mark_at-joined p v m, mark_at-joined p w m))

settle_less : (d : ℕ) (x : Note) (v w : Pair) → IsLess v w → IsLess v (settle d x w)
settle_less d (Met count) v w le = le
settle_less d (Length e n) v w le = le
settle_less d (Found u value) v w le = le
settle_less d (Ended u len) v w le = le
settle_less d (Told e epochs marks) v w le = settle_by (IsLess v) d e epochs marks w (λ _. less_joined (pair_of epochs marks) v w le) le

settle_both : (d : ℕ) (x : Note) (v w : Pair) → IsLess v w → IsLess (settle d x v) (settle d x w)
settle_both d (Met count) v w le = le
settle_both d (Length e n) v w le = le
settle_both d (Found u value) v w le = le
settle_both d (Ended u len) v w le = le
settle_both d (Told e epochs marks) v w le = dite (ℕ_discrete e d)
    (λ same. subst (λ (z : Pair × Pair). IsLess z.0 z.1) (λ i. (sym (settle_same d e epochs marks v same) i, sym (settle_same d e epochs marks w same) i)) (both_joined (pair_of epochs marks) v w le))
    (λ ne. subst (λ (z : Pair × Pair). IsLess z.0 z.1) (λ i. (sym (settle_other d e epochs marks v ne) i, sym (settle_other d e epochs marks w ne) i)) le)

-- of two lists of notes together, each settles no more
settled_right : (round d : ℕ) (xs ys : List Note) → IsLess (settled round d ys) (settled round d (xs ++ ys))
settled_right round d [] ys = less_self (settled round d ys)
settled_right round d (x ∷ xs) ys = settle_less d x (settled round d ys) (settled round d (xs ++ ys)) (settled_right round d xs ys)

settled_left : (round d : ℕ) (xs ys : List Note) → IsLess (settled round d xs) (settled round d (xs ++ ys))
settled_left round d [] ys = (omega arith, λ m. omega arith)
settled_left round d (x ∷ xs) ys = settle_both d x (settled round d xs) (settled round d (xs ++ ys)) (settled_left round d xs ys)

-- what is settled of a mark is known
settled_known : (round d : ℕ) (words : List ℕ) (notes : List Note) → AllStand words notes → (m : ℕ) → mark_at (settled round d notes) m ≤ get_or (known_marks d notes) m 0
settled_known round d words notes t m = dite (dec_le 16 m) (λ past. omega (arith, settled_past notes t m past)) (λ near. omega (arith, known_at d notes m (omega arith), settled_low notes t m (omega arith)))
  where
    settled_low : (xs : List Note) → AllStand words xs → (k : ℕ) → k < 16 → mark_at (settled round d xs) k ≤ best (mark_word d k) xs
    settled_low [] u k low = omega arith
    settled_low (Met count ∷ xs) u k low = omega (arith, settled_low xs u.1 k low)
    settled_low (Length e n ∷ xs) u k low = omega (arith, settled_low xs u.1 k low)
    settled_low (Found w value ∷ xs) u k low = omega (arith, settled_low xs u.1 k low)
    settled_low (Ended w len ∷ xs) u k low = omega (arith, settled_low xs u.1 k low)
    settled_low (Told e epochs marks ∷ xs) u k low = settle_by (λ (z : Pair). mark_at z k ≤ best (mark_word d k) (Told e epochs marks ∷ xs)) d e epochs marks (settled round d xs)
        (λ same. (let h = told_here d k marks in let r = settled_low xs u.1 k low in let q : said_by e (mark_word d k) marks ≡ said_by d (mark_word d k) marks = ap (λ z. said_by z (mark_word d k) marks) same in
        omega (arith, mark_at-joined (pair_of epochs marks) (settled round d xs) k)))
        (omega (arith, settled_low xs u.1 k low))

    settled_past : (xs : List Note) → AllStand words xs → (k : ℕ) → 16 ≤ k → mark_at (settled round d xs) k ≡ 0
    settled_past [] u k past = refl
    settled_past (Met count ∷ xs) u k past = settled_past xs u.1 k past
    settled_past (Length e n ∷ xs) u k past = settled_past xs u.1 k past
    settled_past (Found w value ∷ xs) u k past = settled_past xs u.1 k past
    settled_past (Ended w len ∷ xs) u k past = settled_past xs u.1 k past
    settled_past (Told e epochs marks ∷ xs) u k past = settle_by (λ (z : Pair). mark_at z k ≡ 0) d e epochs marks (settled round d xs)
        (λ same. (let none = get_or_past marks k 0 (let short = u.0.0 in omega arith) in omega (arith, settled_past xs u.1 k past, mark_at-joined (pair_of epochs marks) (settled round d xs) k)))
        (settled_past xs u.1 k past)

-- truth

module _ (round : ℕ) (words : List ℕ) (P : ℕ → ℕ → Type 0) where
  -- what true notes settle is a true pair
  pub settled_true : (d : ℕ) (notes : List Note) → AllNotes (Agrees round words P) notes → IsTruePair (list_at round words d) (P d) (settled round d notes)
  settled_true d [] t = record {
    known = record { round = refl; shorter = omega arith; same = refl };
    reached = λ m. inl (omega arith);
    filled = λ p first below. absurd (omega arith);
    settled = λ m. All-weaker_none (list_at round words d).list;
  }
    where
      All-weaker_none : (es : List Epoch) → All (λ (n : Epoch). 0 ≤ n.start) es
      All-weaker_none es = λ k low. omega arith
  settled_true d (Met count ∷ xs) t = settled_true d xs t.1
  settled_true d (Length e n ∷ xs) t = settled_true d xs t.1
  settled_true d (Found w value ∷ xs) t = settled_true d xs t.1
  settled_true d (Ended w len ∷ xs) t = settled_true d xs t.1
  settled_true d (Told e epochs marks ∷ xs) t = settle_by (λ (z : Pair). IsTruePair (list_at round words d) (P d) z) d e epochs marks (settled round d xs)
      (λ same. joined_true (list_at round words d) (P d) (pair_of epochs marks) (settled round d xs) (subst (λ z. IsTruePair (list_at round words z) (P z) (pair_of epochs marks)) same t.0) (settled_true d xs t.1))
      (settled_true d xs t.1)

  -- of two marks that are reached the greater is
  reaches_max : (epochs : EpochList) (Q : ℕ → Type 0) (m a b : ℕ) → Reaches epochs Q m a → Reaches epochs Q m b → Reaches epochs Q m (max a b)
  reaches_max epochs Q m a b r s = dite (dec_le a b) (λ le. subst (Reaches epochs Q m) (let e : b ≡ max a b = omega arith in e) s) (λ gt. subst (Reaches epochs Q m) (let e : a ≡ max a b = omega arith in e) r)

  -- a mark of a true pair is reached by the whole list
  pair_reaches : (t : EpochList) (Q : ℕ → Type 0) (v : Pair) (m : ℕ) → IsTruePair t Q v → Reaches t Q m (mark_at v m)
  pair_reaches t Q v m h = ⊎_elim inl (λ (r : (p : ℕ) × (mark_at v m ≡ p + 1) × Q p × (owner v.epochs p ≡ m)).
      (let settles = All-weaker (λ (n : Epoch). mark_at v m ≤ n.start) (λ (n : Epoch). r.0 < n.start) (λ n le. (let q = r.1 in omega arith)) (later_than v.epochs t) (h.settled m) in
      inr (r.0, r.1, r.2, sym (owner-prefix v.epochs t r.0 h.known settles) ∙ r.3))) (h.reached m)

  -- what notes say of a mark is reached
  pub best_reached : (d m : ℕ) → d < 8 → m < 16 → (notes : List Note) → AllStand words notes → AllNotes (Agrees round words P) notes → Reaches (list_at round words d) (P d) m (best (mark_word d m) notes)
  best_reached d m small few [] u t = inl (omega arith)
  best_reached d m small few (x ∷ xs) u t = reaches_max (list_at round words d) (P d) m (said (mark_word d m) x) (best (mark_word d m) xs) (one x u.0 t.0) (best_reached d m small few xs u.1 t.1)
    where
      one : (y : Note) → Stands words y → Agrees round words P y → Reaches (list_at round words d) (P d) m (said (mark_word d m) y)
      one (Met count) s a = inl (omega arith)
      one (Length e n) s a = inl (omega arith)
      one (Ended w len) s a = inl (omega arith)
      one (Found w value) s a = dite (ℕ_discrete w (mark_word d m))
          (λ same. (let e : value ≡ said (mark_word d m) (Found w value) = grind (arith, nat_tests) in subst (Reaches (list_at round words d) (P d) m) e (a d m small few same)))
          (λ ne. inl (let e : said (mark_word d m) (Found w value) ≡ 0 = grind (arith, nat_tests) in omega arith))
      one (Told e epochs marks) s a = dite (ℕ_discrete e d)
          (λ same. (let q : get_or marks m 0 ≡ said_by e (mark_word d m) marks = sym (told_here d m marks) ∙ ap (λ z. said_by z (mark_word d m) marks) (sym same) in
          subst (Reaches (list_at round words d) (P d) m) q (pair_reaches (list_at round words d) (P d) (pair_of epochs marks) m (subst (λ z. IsTruePair (list_at round words z) (P z) (pair_of epochs marks)) same a))))
          (λ ne. inl (dite (dec_le e d) (λ le. omega (arith, told_none e (mark_word d m) marks s.0 (omega arith))) (λ gt. omega (arith, told_before e (mark_word d m) marks (omega arith)))))

  -- where the words are all known, what is known of a datacentre is a true pair
  pub known_true : (d : ℕ) → d < 8 → (notes : List Note) → AllStand words notes → AllNotes (Agrees round words P) notes
      → ((m p : ℕ) → m < 16 → 1 ≤ p → p < at_word words (mark_word d m) → owner (list_at round words d) p ≡ m → P d p)
      → known_list round d notes ≡ list_at round words d → IsTruePair (list_at round words d) (P d) (pair_of (known_list round d notes) (known_marks d notes))
  known_true d small notes u t filled whole = subst (λ (z : EpochList). IsTruePair (list_at round words d) (P d) (pair_of z (known_marks d notes))) (sym whole) record {
    known = prefix_refl (list_at round words d);
    reached = λ m. dite (dec_le 16 m) (λ past. inl (omega (arith, known_past d notes m past)))
        (λ near. subst (Reaches (list_at round words d) (P d) m) (sym (known_at d notes m (omega arith))) (best_reached d m small (omega arith) notes u t));
    filled = λ p first below. dite (dec_le 16 (owner (list_at round words d) p)) (λ past. absurd (omega (arith, known_past d notes (owner (list_at round words d) p) past)))
        (λ near. filled (owner (list_at round words d) p) p (omega arith) first (let h = best_low words (mark_word d (owner (list_at round words d) p)) notes u in omega (arith, known_at d notes (owner (list_at round words d) p) (omega arith))) refl);
    settled = λ m. All-same (λ (n : Epoch). get_or (known_marks d notes) m 0 ≤ n.start) (later_than (list_at round words d) (list_at round words d)) [] (drop_all (length (list_at round words d).list) (list_at round words d).list (omega arith)) (All-nil (λ (n : Epoch). get_or (known_marks d notes) m 0 ≤ n.start));
  }

  -- then it is all that is settled
  pub known_settles : (d : ℕ) (notes : List Note) → AllStand words notes → AllNotes (Agrees round words P) notes → known_list round d notes ≡ list_at round words d → Settles round d notes (known_list round d notes) (known_marks d notes)
  known_settles d notes u t whole =
      let T : EpochList = list_at round words d in let e : EpochList = known_list round d notes in let v : Pair = settled round d notes in let k : Pair = pair_of e (known_marks d notes) in
      let old = settled_true d notes t in let new : Pair = settled round d (Told d e (known_marks d notes) ∷ notes) in
      let pre : IsPrefix v.epochs e = subst (IsPrefix v.epochs) (sym whole) old.known in let long = pre.shorter in
      let is : new ≡ joined k v = settle_same d d e (known_marks d notes) v refl in
      let no : nat_lt (length e.list) (length v.epochs.list) ≡ false = grind (arith, nat_tests) in
      let epochs : new.epochs ≡ e = ap (λ (z : Pair). z.epochs) is ∙ ap (λ b. cond b v.epochs e) no in
      let marks : (m : ℕ) → mark_at new m ≡ mark_at k m = λ m. (let q = ap (λ (z : Pair). mark_at z m) is in omega (arith, mark_at-joined k v m, settled_known round d words notes u m)) in record {
        later = pre;
        no_less = head_grows T (P d) v k old (subst (λ (z : EpochList). IsPrefix z T) (sym whole) (prefix_refl T)) long (settled_known round d words notes u);
        whole = epochs;
        head_is = (let a = raised_grows k new epochs (λ m. omega (arith, marks m)) in let b = raised_grows new k (sym epochs) (λ m. omega (arith, marks m)) in omega arith);
      }

  -- no head that is told falls as notes are put together
  pub heads_join : (notes : List Note) → AllNotes (Agrees round words P) notes → HeadsJoin round notes
  heads_join notes t d xs ys small is =
      let T : EpochList = list_at round words d in
      let parts = split_all xs ys (subst (AllNotes (Agrees round words P)) is t) in let all = settled_true d (xs ++ ys) (subst (AllNotes (Agrees round words P)) is t) in
      let a = settled_left round d xs ys in let b = settled_right round d xs ys in
      let left = head_grows T (P d) (settled round d xs) (settled round d (xs ++ ys)) (settled_true d xs parts.0) all.known a.0 a.1 in
      let right = head_grows T (P d) (settled round d ys) (settled round d (xs ++ ys)) (settled_true d ys parts.1) all.known b.0 b.1 in
      let q = ap (λ (z : List Note). head (settled round d z)) is in (omega arith, omega arith)
    where
      split_all : (front back : List Note) → AllNotes (Agrees round words P) (front ++ back) → AllNotes (Agrees round words P) front × AllNotes (Agrees round words P) back
      split_all [] back r = (tt, r)
      split_all (z ∷ front) back r = (let q = split_all front back r.1 in ((r.0, q.0), q.1))

  -- each position up to what is settled is placed
  pub head_placed : (d : ℕ) (notes : List Note) → AllNotes (Agrees round words P) notes → (p : ℕ) → 1 ≤ p → p ≤ head (settled round d notes) → P d p
  head_placed d notes t p first low = head_filled (list_at round words d) (P d) (settled round d notes) p (settled_true d notes t) first low

reaches_more : (e f : EpochList) (S R : ℕ → Type 0) (m v u : ℕ) → e ≡ f → v ≡ u → ((p : ℕ) → S p → R p) → Reaches e S m v → Reaches f R m u
reaches_more e f S R m v u is same up r = ⊎_elim (λ (low : v ≤ 1). inl (omega arith)) (λ (q : (p : ℕ) × (v ≡ p + 1) × S p × (owner e p ≡ m)). inr (q.0, (let z = q.1 in omega arith), up q.0 q.2, ap (λ z. owner z q.0) (sym is) ∙ q.3)) r

-- where lists are the same and no fewer positions are placed, a note stays true
agrees_more : (round : ℕ) (words words' : List ℕ) (P Q : ℕ → ℕ → Type 0) → ((d : ℕ) → list_at round words d ≡ list_at round words' d) → ((d p : ℕ) → P d p → Q d p) → (x : Note) → Agrees round words P x → Agrees round words' Q x
agrees_more round words words' P Q same more (Met count) a = tt
agrees_more round words words' P Q same more (Length d n) a = tt
agrees_more round words words' P Q same more (Ended w len) a = tt
agrees_more round words words' P Q same more (Found w value) a = λ d m small few is. reaches_more (list_at round words d) (list_at round words' d) (P d) (Q d) m value value (same d) refl (more d) (a d m small few is)
agrees_more round words words' P Q same more (Told d epochs marks) a = subst (λ (z : EpochList). IsTruePair z (Q d) (pair_of epochs marks)) (same d) (true_more (list_at round words d) (P d) (Q d) (pair_of epochs marks) (more d) a)

reaches_later : (round e : ℕ) (words words' : List ℕ) (P : ℕ → ℕ → Type 0) (n : Epoch) → ((p : ℕ) → P e p → p < n.start) → list_at round words' e ≡ with_epoch (list_at round words e) n → ((d : ℕ) → d ≢ e → list_at round words d ≡ list_at round words' d)
    → (d m v : ℕ) → Reaches (list_at round words d) (P d) m v → Reaches (list_at round words' d) (P d) m v
reaches_later round e words words' P n above here else d m v r = dite (ℕ_discrete d e)
    (λ same. ⊎_elim inl (λ (q : (p : ℕ) × (v ≡ p + 1) × P d p × (owner (list_at round words d) p ≡ m)). (
    let T : EpochList = list_at round words e in let low : q.0 < n.start = above q.0 (subst (λ z. P z q.0) same q.2) in
    let settles : All (λ (x : Epoch). q.0 < x.start) (later_than T (with_epoch T n)) = All-later_more (λ (x : Epoch). q.0 < x.start) T T n (prefix_refl T) (All-same (λ (x : Epoch). q.0 < x.start) (later_than T T) [] (drop_all (length T.list) T.list (omega arith)) (All-nil (λ (x : Epoch). q.0 < x.start))) low in
    let deals = owner-prefix T (with_epoch T n) q.0 (prefix_more T T n (prefix_refl T)) settles in
    inr (q.0, q.1, q.2, ap (λ z. owner (list_at round words' z) q.0) same ∙ (ap (λ (l : EpochList). owner l q.0) here ∙ (sym deals ∙ (ap (λ z. owner (list_at round words z) q.0) (sym same) ∙ q.3)))))) r)
    (λ ne. subst (λ (l : EpochList). Reaches l (P d) m v) (else d ne) r)

-- an epoch that starts above all that is placed leaves a note true
agrees_later : (round e : ℕ) (words words' : List ℕ) (P : ℕ → ℕ → Type 0) (n : Epoch) → 1 ≤ n.start → ((p : ℕ) → P e p → p < n.start) → list_at round words' e ≡ with_epoch (list_at round words e) n → ((d : ℕ) → d ≢ e → list_at round words d ≡ list_at round words' d)
    → (x : Note) → Agrees round words P x → Agrees round words' P x
agrees_later round e words words' P n first above here else (Met count) a = tt
agrees_later round e words words' P n first above here else (Length d len) a = tt
agrees_later round e words words' P n first above here else (Ended w len) a = tt
agrees_later round e words words' P n first above here else (Found w value) a = λ d m small few is. reaches_later round e words words' P n above here else d m value (a d m small few is)
agrees_later round e words words' P n first above here else (Told d epochs marks) a = dite (ℕ_discrete d e)
    (λ same. subst (λ z. IsTruePair (list_at round words' z) (P z) (pair_of epochs marks)) (sym same)
    (subst (λ (z : EpochList). IsTruePair z (P e) (pair_of epochs marks)) (sym here) (true_later (list_at round words e) (P e) n (pair_of epochs marks) first above (subst (λ z. IsTruePair (list_at round words z) (P z) (pair_of epochs marks)) same a))))
    (λ ne. subst (λ (z : EpochList). IsTruePair z (P d) (pair_of epochs marks)) (else d ne) a)

module _ (dcs round : ℕ) (words : List ℕ) (qs : List (List Position)) (ns : List (List Note)) (r : Paired dcs round words qs ns) where
  -- the turn or the count changes, no fewer positions are placed, and notes are true of what there was
  pub moves : (words' : List ℕ) (qs' : List (List Position)) (ns' : List (List Note)) → ((w : ℕ) → 2 ≤ w → at_word words' w ≡ at_word words w) → ((x : ℕ) → placed_by x qs ≤ placed_by x qs') → EachNote (Agrees round words (IsPlaced qs)) ns' → Paired dcs round words' qs' ns'
  moves words' qs' ns' same more each =
      let lists : (d : ℕ) → list_at round words d ≡ list_at round words' d = λ d. list_same round d (at_word words) (at_word words') (λ i a b. sym (same i (omega arith))) in
      let up : (d p : ℕ) → IsPlaced qs d p → IsPlaced qs' d p = λ d p h. omega (arith, more (8 * p + d)) in record {
        lists = λ d low. subst IsEpochList (lists d) (r.lists d low);
        reached = λ d m small few. reaches_more (list_at round words d) (list_at round words' d) (IsPlaced qs d) (IsPlaced qs' d) m (at_word words (mark_word d m)) (at_word words' (mark_word d m)) (lists d) (sym (same (mark_word d m) (omega arith))) (up d) (r.reached d m small few);
        each = each_by (Agrees round words (IsPlaced qs)) (Agrees round words' (IsPlaced qs')) (agrees_more round words words' (IsPlaced qs) (IsPlaced qs') lists up) ns' each;
      }

  -- a mark rises to one that is reached
  pub raises : (e k v : ℕ) → e < 8 → k < 16 → (w : ℕ) → w ≡ mark_word e k → w < length words → Reaches (list_at round words e) (IsPlaced qs e) k v → (ns' : List (List Note)) → EachNote (Agrees round words (IsPlaced qs)) ns'
      → Paired dcs round (set words w (max (at_word words w) v)) qs ns'
  raises e k v small few w is inside reached ns' each =
      let new : ℕ = max (at_word words w) v in let words' : List ℕ = set words w new in let here : at_word words' w ≡ new = get_or-set_same words w new 0 inside in
      let there : (u : ℕ) → u ≢ w → at_word words' u ≡ at_word words u = λ u ne. get_or-set_other words w u new 0 ne in
      let lists : (d : ℕ) → list_at round words d ≡ list_at round words' d = λ d. list_same round d (at_word words) (at_word words') (λ i a b. sym (there i (λ z. omega arith))) in
      let same : (d p : ℕ) → IsPlaced qs d p → IsPlaced qs d p = λ d p h. h in record {
        lists = λ d low. subst IsEpochList (lists d) (r.lists d low);
        reached = λ d m a b. dite (ℕ_discrete (mark_word d m) w)
            (λ at. (let d_is : e ≡ d = omega arith in let m_is : k ≡ m = omega arith in
            let old : Reaches (list_at round words d) (IsPlaced qs d) m (at_word words w) = subst (λ z. Reaches (list_at round words d) (IsPlaced qs d) m (at_word words z)) at (r.reached d m a b) in
            let mine : Reaches (list_at round words d) (IsPlaced qs d) m v = subst (λ (z : ℕ × ℕ). Reaches (list_at round words z.0) (IsPlaced qs z.0) z.1 v) (λ i. (d_is i, m_is i)) reached in
            reaches_more (list_at round words d) (list_at round words' d) (IsPlaced qs d) (IsPlaced qs d) m new (at_word words' (mark_word d m)) (lists d) (sym (ap (at_word words') at ∙ here)) (same d)
            (reaches_max round words (IsPlaced qs) (list_at round words d) (IsPlaced qs d) m (at_word words w) v old mine)))
            (λ ne. reaches_more (list_at round words d) (list_at round words' d) (IsPlaced qs d) (IsPlaced qs d) m (at_word words (mark_word d m)) (at_word words' (mark_word d m)) (lists d) (sym (there (mark_word d m) ne)) (same d) (r.reached d m a b));
        each = each_by (Agrees round words (IsPlaced qs)) (Agrees round words' (IsPlaced qs)) (agrees_more round words words' (IsPlaced qs) (IsPlaced qs) lists same) ns' each;
      }

  -- an epoch begins above all that is placed
  pub begins : (e k new : ℕ) → e < 8 → k < 16 → (w : ℕ) → w ≡ epoch_word e k → w < length words → ((j : ℕ) → j < k → 0 < at_word words (epoch_word e j)) → ((j : ℕ) → k ≤ j → j < 16 → at_word words (epoch_word e j) ≡ 0) → 0 < new
      → IsEpochList (with_epoch (list_at round words e) (epoch_of new)) → 1 ≤ (epoch_of new).start → ((p : ℕ) → IsPlaced qs e p → p < (epoch_of new).start) → (ns' : List (List Note)) → EachNote (Agrees round words (IsPlaced qs)) ns'
      → Paired dcs round (set words w new) qs ns'
  begins e k new small few w is inside before after some_epoch list first above ns' each =
      let words' : List ℕ = set words w new in let here : at_word words' w ≡ new = get_or-set_same words w new 0 inside in let n : Epoch = epoch_of new in
      let there : (u : ℕ) → u ≢ w → at_word words' u ≡ at_word words u = λ u ne. get_or-set_other words w u new 0 ne in
      let at : (j : ℕ) → epoch_word e 0 + j ≡ epoch_word e j = λ j. omega arith in
      let last : at_word words' (epoch_word e 0 + k) ≡ new = ap (at_word words') (at k ∙ sym is) ∙ here in
      let grown : list_at round words' e ≡ with_epoch (list_at round words e) n =
      ap (λ (l : List Epoch). let t : EpochList = record { round = round; list = l } in t) (epochs_more (at_word words) (at_word words') (epoch_word e 0) k 16 (λ i ne. sym (there i (λ q. ne (q ∙ (is ∙ sym (at k))))))
      (λ j lt. (let b = before j lt in let q = ap (at_word words) (at j) in omega arith)) (λ j le lt. ap (at_word words) (at j) ∙ after j le lt) (omega arith) few ∙ ap (λ v. epochs_by (at_word words) (epoch_word e 0) 16 ++ epoch_of v ∷ []) last) in
      let else : (d : ℕ) → d ≢ e → list_at round words d ≡ list_at round words' d = λ d ne. list_same round d (at_word words) (at_word words') (λ i a b. sym (there i (λ z. omega arith))) in record {
        lists = λ d low. dite (ℕ_discrete d e) (λ same. subst (λ z. IsEpochList (list_at round words' z)) (sym same) (subst IsEpochList (sym grown) list)) (λ ne. subst IsEpochList (else d ne) (r.lists d low));
        reached = λ d m a b. subst (Reaches (list_at round words' d) (IsPlaced qs d) m) (sym (there (mark_word d m) (λ z. omega arith))) (reaches_later round e words words' (IsPlaced qs) n above grown else d m (at_word words (mark_word d m)) (r.reached d m a b));
        each = each_by (Agrees round words (IsPlaced qs)) (Agrees round words' (IsPlaced qs)) (agrees_later round e words words' (IsPlaced qs) n first above grown else) ns' each;
      }

-- what notes tell of a datacentre's epochs begins the list
pub known_begins : (round d : ℕ) (words : List ℕ) (notes : List Note) → AllStand words notes → (rest : List Epoch) × (epochs_by (at_word words) (epoch_word d 0) 16 ≡ epochs_by (λ w. best w notes) (epoch_word d 0) 16 ++ rest)
known_begins round d words notes t = begins_by (λ w. best w notes) (at_word words) 16 (epoch_word d 0) (λ i le. dite (ℕ_discrete (best i notes) 0) inr (λ more. inl (sym (best_same words i notes (omega arith) t (omega arith)))))

-- where each word of a datacentre's epochs up to k is known, and those after it hold none, the list is known
pub known_whole : (round d k : ℕ) (words : List ℕ) (notes : List Note) → AllStand words notes → ((j : ℕ) → j ≤ k → at_word words (epoch_word d j) ≤ best (epoch_word d j) notes) → ((j : ℕ) → k < j → j < 16 → at_word words (epoch_word d j) ≡ 0)
    → known_list round d notes ≡ list_at round words d
known_whole round d k words notes t known none = list_same round d (λ w. best w notes) (at_word words) (λ i le lt. (let j : ℕ = i - epoch_word d 0 in let e : epoch_word d j ≡ i = omega arith in let low = best_low words i notes t in
    let a = ap (λ w. best w notes) e in let b = ap (at_word words) e in dite (dec_le j k) (λ near. omega (arith, known j near)) (λ far. omega (arith, none j (omega arith) (omega arith)))))

-- the list that is known ends at the first word that holds none
pub known_ends : (round d at : ℕ) (notes : List Note) → at ≤ length (known_list round d notes).list → best (epoch_word d at) notes ≡ 0 → at ≡ length (known_list round d notes).list
known_ends round d at notes le none = let f : ℕ → ℕ = λ w. best w notes in let n : ℕ = length (known_list round d notes).list in dite (dec_le n at) (λ past. omega arith)
    (λ inside. absurd (let s = epochs_some f (epoch_word d 0) 16 at (omega arith) in let e : f (epoch_word d 0 + at) ≡ f (epoch_word d at) = ap f (let q : epoch_word d 0 + at ≡ epoch_word d at = omega arith in q) in omega arith))

pub known_goes : (round d at : ℕ) (notes : List Note) → at ≤ length (known_list round d notes).list → at < 16 → (best (epoch_word d at) notes ≡ 0 → ⊥) → at + 1 ≤ length (known_list round d notes).list
known_goes round d at notes le low more = let f : ℕ → ℕ = λ w. best w notes in let n : ℕ = length (known_list round d notes).list in dite (dec_le (at + 1) n) (λ inside. inside)
    (λ end. absurd (let is : n ≡ at = omega arith in let z = epochs_none f (epoch_word d 0) 16 (omega arith) in more (ap f (let q : epoch_word d at ≡ epoch_word d 0 + n = omega arith in q) ∙ z)))

-- a list of as many epochs as there may be takes no more members
pub no_room : (t : EpochList) (n : ℕ) → IsEpochList t → 16 ≤ length t.list → (last_epoch t).members < n → n ≤ 16 → ⊥
no_room t n h long more few = let a = members_above t 15 h (omega arith) in let b = members_most t 15 h (omega arith) in omega arith

-- an epoch that was written goes last in the list that is known
pub known_next : (round d k : ℕ) (e : Epoch) (notes : List Note) → k ≡ length (known_list round d notes).list → k < 16 → ((j : ℕ) → k ≤ j → j < 16 → best (epoch_word d j) notes ≡ 0) → e.members ≤ 16 → 0 < e.members
    → known_list round d (Found (epoch_word d k) (code (Some e)) ∷ notes) ≡ with_epoch (known_list round d notes) e
known_next round d k e notes is low none few some_members =
    let f : ℕ → ℕ = λ w. best w notes in let x : ℕ = code (Some e) in let w : ℕ = epoch_word d k in let g : ℕ → ℕ = λ i. best i (Found w x ∷ notes) in let base : ℕ = epoch_word d 0 in
    let at : (j : ℕ) → base + j ≡ epoch_word d j = λ j. omega arith in
    let here : said w (Found w x) ≡ x = grind (arith, nat_tests) in
    let last : g (base + k) ≡ x = ap g (at k) ∙ (let z = none k (omega arith) low in omega arith) in
    let else : (i : ℕ) → i ≢ base + k → f i ≡ g i = λ i ne. (let gone : said i (Found w x) ≡ 0 = said_else i w x (λ q. ne (sym q ∙ sym (at k))) in omega arith) in
    let starts : x / 32 ≡ e.start = omega arith in let members : x % 32 ≡ e.members = omega arith in let decoded : epoch_of x ≡ e = (λ i. record { start = starts i; members = members i }) in
    ap (λ (l : List Epoch). let t : EpochList = record { round = round; list = l } in t) (epochs_more f g base k 16 else
    (λ j lt. epochs_some f base 16 j (omega arith)) (λ j le lt. ap f (at j) ∙ none j le lt) (omega arith) low ∙ ap (λ (z : Epoch). epochs_by f base 16 ++ z ∷ []) (ap epoch_of last ∙ decoded))
  where
    said_else : (i w x : ℕ) → (w ≡ i → ⊥) → said i (Found w x) ≡ 0
    said_else i w x ne = grind (arith, nat_tests)

-- a mark that may rise, with the list that is known, is a true pair
pub single_told : (round d m mark : ℕ) (words : List ℕ) (notes : List Note) (placed : List Position) (P : ℕ → Type 0) → AllStand words notes → MayRise round d m mark notes placed → IsEpochList (list_at round words d) → ((p : ℕ) → 0 < has place (8 * p + d) placed → P p)
    → IsTruePair (list_at round words d) P (single (known_list round d notes) m mark)
single_told round d m mark words notes placed P t may list own =
    let T : EpochList = list_at round words d in let e : EpochList = known_list round d notes in
    single_true T e P m mark (dite (dec_le mark 1)
    (λ low. (let b = known_begins round d words notes t in let begins = begins_with e T b.0 refl b.1 in record {
      known = begins.0;
      reached = inl low;
      filled = λ p first below. absurd (omega arith);
      settled = All-weaker (λ (n : Epoch). 1 ≤ n.start) (λ (n : Epoch). mark ≤ n.start) (λ n from. omega arith) (later_than e T) (All-drop (λ (n : Epoch). 1 ≤ n.start) (length e.list) T.list (all_starts_from T list));
    }))
    (λ high. (let p : ℕ = mark - 1 in let on = goes_on (λ w. best w notes) (at_word words) p 16 (epoch_word d 0) (known_alike round d m mark notes placed words t may p (omega arith) (omega arith)) in let begins = begins_with e T on.0 refl on.1 in record {
      known = begins.0;
      reached = ⊎_elim inl (λ (r : (q : ℕ) × (1 ≤ q) × (mark ≡ q + 1) × (owner e q ≡ m)). inr (r.0, r.2, own r.0 (let z = r.2 in may.own r.0 r.1 (omega arith) r.3), r.3)) may.reached;
      filled = λ q first below mine. own q (may.own q first below mine);
      settled = All-same (λ (n : Epoch). mark ≤ n.start) (later_than e T) on.0 begins.1 (All-weaker (λ (n : Epoch). p < n.start) (λ (n : Epoch). mark ≤ n.start) (λ n above. omega arith) on.0 on.2);
    })))

-- and the mark is reached
pub single_reached : (round d m mark : ℕ) (words : List ℕ) (notes : List Note) (P : ℕ → Type 0) → IsTruePair (list_at round words d) P (single (known_list round d notes) m mark) → Reaches (list_at round words d) P m mark
single_reached round d m mark words notes P t = subst (Reaches (list_at round words d) P m) (mark_at-single (known_list round d notes) m mark) (pair_reaches round words (λ _. P) (list_at round words d) P (single (known_list round d notes) m mark) m t)

-- the words of that pair are no more than the words
pub single_stands : (e : EpochList) (words : List ℕ) (d m mark : ℕ) → d < 8 → m < 16 → mark ≤ at_word words (mark_word d m) → Stands words (Told d e (single e m mark).marks)
single_stands e words d m mark small few low = (
  omega (arith, length-set (replicate (m + 1) 0) m mark, length-replicate {A = ℕ} (m + 1) 0),
  small,
  λ k inside. dite (ℕ_discrete k m) (λ same. (let q = ap (mark_at (single e m mark)) same in let z = ap (λ i. at_word words (mark_word d i)) same in omega (arith, mark_at-single e m mark))) (λ ne. omega (arith, mark_at-single_other e m mark k ne)),
)

-- what a look at the word of an epoch leaves says so much of it, and agrees
pub read_best : (w len value : ℕ) → value ≤ best w (read_notes w len value)
read_best w len zero = omega arith
read_best w len (suc value) = let s : said w (Found w (suc value)) ≡ suc value = grind (arith, nat_tests) in omega arith

pub read_agrees : (round : ℕ) (words : List ℕ) (P : ℕ → ℕ → Type 0) (w len value : ℕ) → 130 ≤ w → AllNotes (Agrees round words P) (read_notes w len value)
read_agrees round words P w len zero high = (tt, ((λ d m small few is. absurd (omega arith)), tt))
read_agrees round words P w len (suc value) high = ((λ d m small few is. absurd (omega arith)), tt)

pub end_is : (w value : ℕ) → is_end w value ≡ true → (value ≡ 0) ⊎ ((w - 130) % 16 ≡ 15)
end_is w zero end = inl refl
end_is w (suc value) end = inr (grind (arith, nat_tests))
