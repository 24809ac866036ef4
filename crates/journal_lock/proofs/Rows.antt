-- What looks at the words of a datacentre leave, one word after another.
use Rattle.std.proofs.Common.{◌≡◌, ◌≢◌, ◌⊎◌, ℕ, zero, suc, ◌+◌, ◌-◌, ◌%◌, ◌<◌, ◌≤◌, ◌==◌, Bool, true, false, cond, max, List, [], ◌∷◌, ◌++◌, map, length, take, set, get_or, Option, Some, None, refl, ap, sym, ◌∙◌, subst, ⊎_elim, inl, inr, arith, length-append, length-set, get_or-set_same, get_or-set_other}
use Rattle.std.proofs.lemmas.Bool.Decides.{nat_tests}
use Rattle.std.proofs.lemmas.List.{get_or_past, get_or_push, get_or_append_left, get_or-map, length-map, length-take-le, map_push, take_more_set}
use mathlib.Core.Logic.{dite}
use native.Mathlib.Decide.{ℕ_discrete, dec_le}
use Rattle.flstore_rounds.specs.declared.epochs.Epoch.{Epoch}
use Rattle.flstore_rounds.specs.Epochs.{EpochList, IsEpochList, IsPrefix, first_epoch, epoch_at}
use Rattle.flstore_rounds.specs.Heads.{Pair, head}
use Rattle.journal_lock.specs.declared.duty.Duty.TheVariants.{Token}
use Rattle.journal_lock.specs.declared.law.Note.{Note}
use Rattle.journal_lock.specs.declared.law.Note.TheVariants.{Found, Ended, Told}
use Rattle.journal_lock.specs.Duties.{Has, datacentre, has, stamped}
use Rattle.journal_lock.specs.Words.{mark_word, epoch_word, dc_of, code}
use Rattle.journal_lock.specs.Finds.{said, best, read_notes}
use Rattle.journal_lock.specs.Marks.{epoch_of, decoded, epochs_by, list_by}
use Rattle.journal_lock.specs.Heads.{pair_of, known_list, known_marks, settled, IsTold, is_end, told, tell_notes, marks_by}
use Rattle.journal_lock.specs.Listing.{found_list, marks_found, epochs_found, list_notes, IsListed}
use Rattle.journal_lock.specs.Passes.{Lock, Ticket}
use Rattle.journal_lock.proofs.Spans.{marks_length, marks_at, marks_same, list_same, epochs_stop, then_some}
use Rattle.journal_lock.proofs.Finds.{said_by, told_none, dc_epoch}

-- notes of words that were found

said_else : (i w x : ℕ) → (w ≡ i → ⊥) → said i (Found w x) ≡ 0
said_else i w x ne = grind (arith, nat_tests)

said_zero : (i w : ℕ) → said i (Found w 0) ≡ 0
said_zero i w = grind (arith, nat_tests)

said_here : (i w x : ℕ) → w ≡ i → said i (Found w x) ≡ x
said_here i w x is = grind (arith, nat_tests)

-- values found in words from w on say nothing of other words
pub found_other : (w : ℕ) (xs : List ℕ) (notes : List Note) (u : ℕ) → (u < w) ⊎ (w + length xs ≤ u) → best u (found_list w xs notes) ≡ best u notes
found_other w [] notes u out = refl
found_other w (x ∷ xs) notes u out =
    let past : (u < w + 1) ⊎ (w + 1 + length xs ≤ u) = ⊎_elim (λ (a : u < w). inl (omega arith)) (λ (b : w + length (x ∷ xs) ≤ u). inr (omega arith)) out in
    let gone : said u (Found w x) ≡ 0 = said_else u w x (λ e. ⊎_elim (λ (a : u < w). let z : ⊥ = omega arith in z) (λ (b : w + length (x ∷ xs) ≤ u). let z : ⊥ = omega arith in z) out) in
    found_other (w + 1) xs (Found w x ∷ notes) u past ∙ (let q : max (said u (Found w x)) (best u notes) ≡ best u notes = omega arith in q)

-- they say no less than what was known of their own
pub found_here : (w : ℕ) (xs : List ℕ) (notes : List Note) (k : ℕ) → k < length xs → best (w + k) (found_list w xs notes) ≡ max (get_or xs k 0) (best (w + k) notes)
found_here w [] notes k low = absurd (omega arith)
found_here w (x ∷ xs) notes zero low =
    let here = said_here (w + 0) w x (omega arith) in
    found_other (w + 1) xs (Found w x ∷ notes) (w + 0) (inl (omega arith)) ∙ (let q : max (said (w + 0) (Found w x)) (best (w + 0) notes) ≡ max x (best (w + 0) notes) = omega arith in q)
found_here w (x ∷ xs) notes (suc k) low =
    let at : w + 1 + k ≡ w + suc k = omega arith in
    let gone = said_else (w + 1 + k) w x (λ e. omega arith) in
    let r = found_here (w + 1) xs (Found w x ∷ notes) k (omega arith) in
    subst (λ u. best u (found_list (w + 1) xs (Found w x ∷ notes)) ≡ max (get_or xs k 0) (best u notes)) at
    (r ∙ (let q : max (get_or xs k 0) (max (said (w + 1 + k) (Found w x)) (best (w + 1 + k) notes)) ≡ max (get_or xs k 0) (best (w + 1 + k) notes) = omega arith in q))

pub found_snoc : (w : ℕ) (xs : List ℕ) (x : ℕ) (notes : List Note) → found_list w (xs ++ x ∷ []) notes ≡ Found (w + length xs) x ∷ found_list w xs notes
found_snoc w [] x notes = ap (λ u. Found u x ∷ notes) (let e : w ≡ w + 0 = omega arith in e)
found_snoc w (y ∷ ys) x notes = found_snoc (w + 1) ys x (Found w y ∷ notes) ∙ ap (λ u. Found u x ∷ found_list (w + 1) ys (Found w y ∷ notes)) (let e : w + 1 + length ys ≡ w + suc (length ys) = omega arith in e)

-- they settle nothing
pub found_settled : (round d w : ℕ) (xs : List ℕ) (notes : List Note) → settled round d (found_list w xs notes) ≡ settled round d notes
found_settled round d w [] notes = refl
found_settled round d w (x ∷ xs) notes = found_settled round d (w + 1) xs (Found w x ∷ notes)

-- epochs that were found say nothing of marks
pub found_marks : (d : ℕ) (xs : List ℕ) (notes : List Note) → known_marks d (found_list (epoch_word d 0) xs notes) ≡ known_marks d notes
found_marks d xs notes = marks_same (λ w. best w (found_list (epoch_word d 0) xs notes)) (λ w. best w notes) (mark_word d 0) 16 (λ i a b. found_other (epoch_word d 0) xs notes i (inl (omega arith)))

-- marks

-- the first `at` marks of a datacentre were loaded, and are these
pub record IsMarked (d : ℕ) (p q : Ticket) (marks : List ℕ) (at : ℕ) : Type 0 where
  pub long : length marks ≡ 16
  pub kept : q ≡ record p { notes = found_list (mark_word d 0) (take at marks) p.notes }
  pub each : (k : ℕ) → k < at → get_or marks k 0 ≡ best (mark_word d k) q.notes

pub marks_next : (d : ℕ) (p q q' : Ticket) (marks : List ℕ) (at x : ℕ) → IsMarked d p q marks at → at < 16 → best (mark_word d at) q.notes ≤ x → q' ≡ record q { notes = Found (mark_word d at) x ∷ q.notes } → IsMarked d p q' (set marks at x) (at + 1)
marks_next d p q q' marks at x r low more is = let long = r.long in record {
  long = length-set marks at x ∙ long;
  kept = is ∙ ((λ i. record (r.kept i) { notes = Found (mark_word d at) x ∷ (r.kept i).notes }) ∙ ap (λ (l : List Note). let t : Ticket = record p { notes = l } in t)
      (ap (λ w. Found w x ∷ found_list (mark_word d 0) (take at marks) p.notes) (let e : mark_word d at ≡ mark_word d 0 + length (take at marks) = omega (arith, length-take-le at marks (omega arith)) in e)
      ∙ (sym (found_snoc (mark_word d 0) (take at marks) x p.notes) ∙ ap (λ l. found_list (mark_word d 0) l p.notes) (sym (take_more_set marks at x (omega arith))))));
  each = λ k lt. subst (λ (l : List Note). get_or (set marks at x) k 0 ≡ best (mark_word d k) l) (sym (ap (λ (t : Ticket). t.notes) is)) (one k lt);
}
  where
    one : (k : ℕ) → k < at + 1 → get_or (set marks at x) k 0 ≡ best (mark_word d k) (Found (mark_word d at) x ∷ q.notes)
    one k lt = let long = r.long in dite (ℕ_discrete k at)
        (λ same. (let s = said_here (mark_word d k) (mark_word d at) x (omega arith) in let b = ap (λ z. best (mark_word d z) q.notes) same in
        (ap (λ z. get_or (set marks at x) z 0) same ∙ get_or-set_same marks at x 0 (omega arith)) ∙ (let e : x ≡ max (said (mark_word d k) (Found (mark_word d at) x)) (best (mark_word d k) q.notes) = omega arith in e)))
        (λ ne. (let s = said_else (mark_word d k) (mark_word d at) x (λ e. omega arith) in let old = r.each k (omega arith) in
        get_or-set_other marks at k x 0 ne ∙ (let e : get_or marks k 0 ≡ max (said (mark_word d k) (Found (mark_word d at) x)) (best (mark_word d k) q.notes) = omega arith in e)))

pub marks_all : (f : ℕ → ℕ) (w : ℕ) (xs : List ℕ) (n : ℕ) → length xs ≡ n → ((k : ℕ) → k < n → get_or xs k 0 ≡ f (w + k)) → xs ≡ marks_by f w n
marks_all f w [] zero long each = refl
marks_all f w [] (suc n) long each = absurd (omega arith)
marks_all f w (x ∷ xs) zero long each = absurd (omega arith)
marks_all f w (x ∷ xs) (suc n) long each =
    let first : x ≡ f w = each 0 (omega arith) ∙ ap f (let e : w + 0 ≡ w = omega arith in e) in
    let rest : xs ≡ marks_by f (w + 1) n = marks_all f (w + 1) xs n (omega arith) (λ k lt. each (suc k) (omega arith) ∙ ap f (let e : w + suc k ≡ w + 1 + k = omega arith in e)) in (λ i. first i ∷ rest i)

pub marks_known : (d : ℕ) (p q : Ticket) (marks : List ℕ) → IsMarked d p q marks 16 → marks ≡ known_marks d q.notes
marks_known d p q marks r = marks_all (λ w. best w q.notes) (mark_word d 0) marks 16 r.long (λ k lt. r.each k lt ∙ ap (λ w. best w q.notes) (let e : mark_word d k ≡ mark_word d 0 + k = omega arith in e))

-- epochs

-- words that hold these epochs, and then none, give just these
pub epochs_are : (f : ℕ → ℕ) (w : ℕ) (es : List Epoch) (n : ℕ) → length es ≤ n → ((k : ℕ) → k < length es → (0 < f (w + k)) × (epoch_of (f (w + k)) ≡ epoch_at es k)) → (length es < n → f (w + length es) ≡ 0) → epochs_by f w n ≡ es
epochs_are f w [] zero few each none = refl
epochs_are f w [] (suc n) few each none = epochs_stop f w 0 (suc n) (λ j lt. absurd (omega arith)) (none (omega arith)) (omega arith)
epochs_are f w (e ∷ es) zero few each none = absurd (omega arith)
epochs_are f w (e ∷ es) (suc n) few each none =
    let at : w + 0 ≡ w = omega arith in let h = each 0 (omega arith) in
    let some_value : 0 < f w = subst (λ z. 0 < f z) at h.0 in let one : epoch_of (f w) ≡ e = ap (λ z. epoch_of (f z)) (sym at) ∙ h.1 in
    let rest : epochs_by f (w + 1) n ≡ es = epochs_are f (w + 1) es n (omega arith)
    (λ k lt. (let q : w + suc k ≡ w + 1 + k = omega arith in subst (λ z. (0 < f z) × (epoch_of (f z) ≡ epoch_at es k)) q (each (suc k) (omega arith))))
    (λ lt. (let q : w + 1 + length es ≡ w + suc (length es) = omega arith in ap f q ∙ none (omega arith))) in
    then_some (f w) (epochs_by f (w + 1) n) some_value ∙ (λ i. one i ∷ rest i)

-- an epoch that a word held
abbrev pub IsCoded : Epoch → Type 0
IsCoded e = (0 < code (Some e)) × (epoch_of (code (Some e)) ≡ e)

pub decoded_some : (v : ℕ) (e : Epoch) → Some e ≡ decoded v → (0 < v) × (epoch_of v ≡ e)
decoded_some zero e is = cc
decoded_some (suc v) e is = (omega arith, cc)

-- what is known of the first words once their epochs were found
module _ (d : ℕ) (es : List Epoch) (notes : List Note) where
  abbrev values : List ℕ
  values = map (λ (e : Epoch). code (Some e)) es

  at_word : (k : ℕ) → epoch_word d 0 + k ≡ epoch_word d k
  at_word k = omega arith

  pub row_best : (k : ℕ) → k < length es → best (epoch_word d k) (epochs_found d es notes) ≡ max (code (Some (epoch_at es k))) (best (epoch_word d k) notes)
  row_best k lt = subst (λ u. best u (epochs_found d es notes) ≡ max (code (Some (epoch_at es k))) (best u notes)) (at_word k)
      (found_here (epoch_word d 0) values notes k (omega (arith, length-map es (λ (e : Epoch). code (Some e)))) ∙ ap (λ x. max x (best (epoch_word d 0 + k) notes)) (get_or-map (λ (e : Epoch). code (Some e)) es k first_epoch 0 lt))

  pub row_rest : (k : ℕ) → length es ≤ k → best (epoch_word d k) (epochs_found d es notes) ≡ best (epoch_word d k) notes
  row_rest k le = found_other (epoch_word d 0) values notes (epoch_word d k) (inr (omega (arith, length-map es (λ (e : Epoch). code (Some e)))))

-- what notes say of epochs they say after all was told
pub told_list : (round d : ℕ) (notes : List Note) → known_list round d (told round d notes) ≡ known_list round d notes
told_list round d notes = list_same round d (λ w. best w (told round d notes)) (λ w. best w notes) (λ i a b. (let none = told_none d i (known_marks d notes) (omega (arith, marks_length (λ w. best w notes) (mark_word d 0) 16)) (omega arith) in
    let q : max (said_by d i (known_marks d notes)) (best i notes) ≡ best i notes = omega arith in q))

-- the notes after so many words of epochs
abbrev pub row_notes : ℕ → ℕ → ℕ → List Note → List Note
row_notes round d at notes = cond (at == 16) (told round d notes) notes

-- the first `at` epochs of a datacentre were loaded, and are these
pub record IsRow (round dcs d : ℕ) (p q : Ticket) (es : List Epoch) (at : ℕ) : Type 0 where
  pub count : length es ≡ at
  pub coded : (k : ℕ) → k < at → IsCoded (epoch_at es k)
  pub same : (k : ℕ) → k < at → 0 < best (epoch_word d k) p.notes → code (Some (epoch_at es k)) ≡ best (epoch_word d k) p.notes
  pub own : Has (Token d) p.duties → (k : ℕ) → k < at → code (Some (epoch_at es k)) ≡ best (epoch_word d k) p.notes
  pub kept : q ≡ record p { notes = row_notes round d at (epochs_found d es p.notes) }
  pub told : at ≡ 16 → IsTold round dcs d (epochs_found d es p.notes)

-- a look at the next word
pub record IsLook (round dcs d at : ℕ) (q q' : Ticket) (r : Option Epoch) : Type 0 where
  pub known : 0 < best (epoch_word d at) q.notes → code r ≡ best (epoch_word d at) q.notes
  pub own : Has (Token d) q.duties → code r ≡ best (epoch_word d at) q.notes
  pub noted : q' ≡ record q { notes = tell_notes round (epoch_word d at) (has datacentre d (stamped q.seen)) (code r) q.notes }
  pub decodes : r ≡ decoded (code r)
  pub told : is_end (epoch_word d at) (code r) ≡ true → IsTold round dcs d (read_notes (epoch_word d at) (has datacentre d (stamped q.seen)) (code r) ++ q.notes)

not_full : (at : ℕ) → at < 16 → (at == 16) ≡ false
not_full at lt = grind (arith, nat_tests)

full : (at : ℕ) → at ≡ 16 → (at == 16) ≡ true
full at is = grind (arith, nat_tests)

row_end : (d at v : ℕ) → at < 16 → 0 < v → is_end (epoch_word d at) v ≡ (at + 1 == 16)
row_end d at zero lt more = absurd (omega arith)
row_end d at (suc v) lt more = dite (ℕ_discrete at 15)
    (λ same. (let a : ((epoch_word d at - 130) % 16 == 15) ≡ true = grind (arith, nat_tests) in a ∙ sym (full (at + 1) (omega arith))))
    (λ ne. (let a : ((epoch_word d at - 130) % 16 == 15) ≡ false = grind (arith, nat_tests) in a ∙ sym (not_full (at + 1) (omega arith))))

read_some : (w len v : ℕ) (notes : List Note) → 0 < v → read_notes w len v ++ notes ≡ Found w v ∷ notes
read_some w len zero notes more = absurd (omega arith)
read_some w len (suc v) notes more = refl

module _ (round dcs d : ℕ) (p q : Ticket) (es : List Epoch) (at : ℕ) (r : IsRow round dcs d p q es at) where
  abbrev found : List Note
  found = epochs_found d es p.notes

  -- before the last word
  row_open : at < 16 → q ≡ record p { notes = found }
  row_open lt = r.kept ∙ ap (λ b. let t : Ticket = record p { notes = cond b (told round d found) found } in t) (not_full at lt)

  pub row_before : at < 16 → (k : ℕ) → k < at → 0 < best (epoch_word d k) q.notes
  row_before lt k low = let count = r.count in subst (λ (l : List Note). 0 < best (epoch_word d k) l) (sym (ap (λ (t : Ticket). t.notes) (row_open lt)))
      (let h = row_best d es p.notes k (omega arith) in let c = (r.coded k low).0 in omega arith)

  row_next_best : at < 16 → best (epoch_word d at) q.notes ≡ best (epoch_word d at) p.notes
  row_next_best lt = let count = r.count in ap (λ (t : Ticket). best (epoch_word d at) t.notes) (row_open lt) ∙ row_rest d es p.notes at (omega arith)

  -- one epoch more
  pub row_next : at < 16 → (q' : Ticket) (e : Epoch) → IsLook round dcs d at q q' (Some e) → IsRow round dcs d p q' (es ++ e ∷ []) (at + 1)
  row_next lt q' e l =
      let count = r.count in let v : ℕ = code (Some e) in let w : ℕ = epoch_word d at in let len : ℕ = has datacentre d (stamped q.seen) in let dec = decoded_some v e l.decodes in
      let open_notes = ap (λ (t : Ticket). t.notes) (row_open lt) in
      let duties : q.duties ≡ p.duties = ap (λ (t : Ticket). t.duties) (row_open lt) in
      let before : (k : ℕ) → k < at → epoch_at (es ++ e ∷ []) k ≡ epoch_at es k = λ k low. get_or_append_left es (e ∷ []) first_epoch k (omega arith) in
      let last : epoch_at (es ++ e ∷ []) at ≡ e = get_or_push es e first_epoch at count in
      let grown : Found w v ∷ q.notes ≡ epochs_found d (es ++ e ∷ []) p.notes =
      ap (λ l. Found w v ∷ l) open_notes ∙ (ap (λ u. Found u v ∷ found) (let z : w ≡ epoch_word d 0 + length (map (λ (x : Epoch). code (Some x)) es) = omega (arith, length-map es (λ (x : Epoch). code (Some x))) in z)
      ∙ (sym (found_snoc (epoch_word d 0) (map (λ (x : Epoch). code (Some x)) es) v p.notes) ∙ ap (λ l. found_list (epoch_word d 0) l p.notes) (sym (map_push (λ (x : Epoch). code (Some x)) es e)))) in
      let all : read_notes w len v ++ q.notes ≡ epochs_found d (es ++ e ∷ []) p.notes = read_some w len v q.notes dec.0 ∙ grown in
      let dc : dc_of w ≡ d = dc_epoch d at lt in let end = row_end d at v lt dec.0 in
      let tells : tell_notes round w len v q.notes ≡ row_notes round d (at + 1) (epochs_found d (es ++ e ∷ []) p.notes) = (λ i. cond (end i) (told round (dc i) (all i)) (all i)) in record {
        count = omega (arith, length-append es (e ∷ []));
        coded = λ k low. dite (ℕ_discrete k at) (λ is. subst IsCoded (sym (ap (epoch_at (es ++ e ∷ [])) is ∙ last)) dec) (λ ne. subst IsCoded (sym (before k (omega arith))) (r.coded k (omega arith)));
        same = λ k low more. dite (ℕ_discrete k at)
            (λ is. (let b = row_next_best lt in let z = ap (λ j. best (epoch_word d j) p.notes) is in ap (λ (x : Epoch). code (Some x)) (ap (epoch_at (es ++ e ∷ [])) is ∙ last) ∙ (l.known (omega arith) ∙ (b ∙ sym z))))
            (λ ne. ap (λ (x : Epoch). code (Some x)) (before k (omega arith)) ∙ r.same k (omega arith) more);
        own = λ duty k low. dite (ℕ_discrete k at)
            (λ is. (let b = row_next_best lt in let z = ap (λ j. best (epoch_word d j) p.notes) is in ap (λ (x : Epoch). code (Some x)) (ap (epoch_at (es ++ e ∷ [])) is ∙ last) ∙ (l.own (subst (Has (Token d)) (sym duties) duty) ∙ (b ∙ sym z))))
            (λ ne. ap (λ (x : Epoch). code (Some x)) (before k (omega arith)) ∙ r.own duty k (omega arith));
        kept = l.noted ∙ ((λ i. record (row_open lt i) { notes = tell_notes round w len v q.notes }) ∙ ap (λ (z : List Note). let t : Ticket = record p { notes = z } in t) tells);
        told = λ is. subst (IsTold round dcs d) all (l.told (end ∙ full (at + 1) is));
      }

-- a list is known where its words say just its epochs
pub known_row : (round d : ℕ) (notes : List Note) (es : List Epoch) → length es ≤ 16 → ((k : ℕ) → k < length es → (best (epoch_word d k) notes ≡ code (Some (epoch_at es k))) × IsCoded (epoch_at es k)) → (length es < 16 → best (epoch_word d (length es)) notes ≡ 0)
    → known_list round d notes ≡ record { round = round; list = es }
known_row round d notes es few each none =
    let f : ℕ → ℕ = λ w. best w notes in let at : (k : ℕ) → epoch_word d k ≡ epoch_word d 0 + k = λ k. omega arith in
    ap (λ (l : List Epoch). let t : EpochList = record { round = round; list = l } in t) (epochs_are f (epoch_word d 0) es 16 few
    (λ k lt. subst (λ u. (0 < f u) × (epoch_of (f u) ≡ epoch_at es k)) (at k) (subst (λ v. (0 < v) × (epoch_of v ≡ epoch_at es k)) (sym (each k lt).0) (each k lt).1))
    (λ lt. ap f (sym (at (length es))) ∙ none lt))

-- the whole list was loaded
module _ (l : Lock) (dcs d : ℕ) (p q' : Ticket) (es : List Epoch) (mid : List Note) (t : IsTold l.round dcs d mid) (is : q' ≡ record p { notes = told l.round d mid })
    (list : told l.round d mid ≡ list_notes l.round d (has datacentre d (stamped p.seen)) es p.notes) (known : known_list l.round d mid ≡ record { round = l.round; list = es })
    (settles : settled l.round d mid ≡ settled l.round d p.notes) (marks : known_marks d mid ≡ known_marks d p.notes) where
  abbrev epochs : EpochList
  epochs = record { round = l.round; list = es }

  notes_are : q'.notes ≡ told l.round d mid
  notes_are = ap (λ (z : Ticket). z.notes) is

  pub row_listed : IsListed l d p q' epochs
  row_listed = let s = t.settles in record {
    kept = is ∙ ap (λ (z : List Note). let u : Ticket = record p { notes = z } in u) list;
    known = sym (ap (known_list l.round d) notes_are ∙ (told_list l.round d mid ∙ known));
    later = subst (λ (z : Pair × EpochList). IsPrefix z.0.epochs z.1) (λ i. (settles i, known i)) s.later;
    whole = ap (λ (z : List Note). (settled l.round d z).epochs) notes_are ∙ (s.whole ∙ known);
    no_less = (let a = ap (λ (z : List Note). head (settled l.round d z)) notes_are in let b = ap head settles in let c = s.no_less in let h = s.head_is in omega arith);
    head_is = ap (λ (z : List Note). head (settled l.round d z)) notes_are ∙ (s.head_is ∙ (λ i. head (pair_of (known i) (marks i))));
  }

  pub row_rounds : d < dcs → IsEpochList epochs
  row_rounds low = subst IsEpochList known (t.list low)

module _ (l : Lock) (dcs d : ℕ) (p q : Ticket) (es : List Epoch) (at : ℕ) (r : IsRow l.round dcs d p q es at) where
  abbrev row : List Note
  row = epochs_found d es p.notes

  each_known : (k : ℕ) → k < length es → (best (epoch_word d k) row ≡ code (Some (epoch_at es k))) × IsCoded (epoch_at es k)
  each_known k lt = let count = r.count in let h = row_best d es p.notes k lt in let c = r.coded k (omega arith) in (
    dite (ℕ_discrete (best (epoch_word d k) p.notes) 0) (λ none. (let more = c.0 in omega arith)) (λ more. (let s = r.same k (omega arith) (omega arith) in omega arith)),
    c,
  )

  -- as many epochs as there may be
  pub full_listed : at ≡ 16 → IsListed l d p q (record { round = l.round; list = es })
  full_listed is = let count = r.count in row_listed l dcs d p q es row (r.told is) (r.kept ∙ ap (λ b. let t : Ticket = record p { notes = cond b (told l.round d row) row } in t) (full at is))
      (ap (λ b. told l.round d (cond b row (Ended (epoch_word d (length es)) (has datacentre d (stamped p.seen)) ∷ Found (epoch_word d (length es)) 0 ∷ row))) (sym (full (length es) (omega arith))))
      (known_row l.round d row es (omega arith) each_known (λ lt. absurd (omega arith))) (found_settled l.round d (epoch_word d 0) (map (λ (e : Epoch). code (Some e)) es) p.notes) (found_marks d (map (λ (e : Epoch). code (Some e)) es) p.notes)

  pub full_rounds : at ≡ 16 → d < dcs → IsEpochList (record { round = l.round; list = es })
  full_rounds is low = let count = r.count in subst IsEpochList (known_row l.round d row es (omega arith) each_known (λ lt. absurd (omega arith))) ((r.told is).list low)

  pub full_own : at ≡ 16 → Has (Token d) p.duties → record { round = l.round; list = es } ≡ known_list l.round d p.notes
  full_own is duty = let count = r.count in sym (known_row l.round d p.notes es (omega arith) (λ k lt. (sym (r.own duty k (omega arith)), r.coded k (omega arith))) (λ lt. absurd (omega arith)))

  -- the next word holds none
  module _ (lt : at < 16) (q' : Ticket) (k : IsLook l.round dcs d at q q' None) where
    abbrev len : ℕ
    len = has datacentre d (stamped q.seen)

    abbrev mid : List Note
    mid = Ended (epoch_word d at) len ∷ Found (epoch_word d at) 0 ∷ q.notes

    abbrev open_row : q ≡ record p { notes = row }
    open_row = row_open l.round dcs d p q es at r lt

    none_here : best (epoch_word d at) p.notes ≡ 0
    none_here = let b = row_next_best l.round dcs d p q es at r lt in dite (ℕ_discrete (best (epoch_word d at) p.notes) 0) (λ z. z) (λ more. absurd (let e = k.known (omega arith) in omega arith))

    mid_best : (w : ℕ) → best w mid ≡ best w row
    mid_best w = let z = said_zero w (epoch_word d at) in let n = ap (λ (t : Ticket). best w t.notes) open_row in omega arith

    mid_is : mid ≡ Ended (epoch_word d (length es)) (has datacentre d (stamped p.seen)) ∷ Found (epoch_word d (length es)) 0 ∷ row
    mid_is = (λ i. Ended (epoch_word d (sym r.count i)) (has datacentre d (stamped (open_row i).seen)) ∷ Found (epoch_word d (sym r.count i)) 0 ∷ (open_row i).notes)

    mid_known : known_list l.round d mid ≡ record { round = l.round; list = es }
    mid_known = let count = r.count in known_row l.round d mid es (omega arith) (λ j low. (mid_best (epoch_word d j) ∙ (each_known j low).0, (each_known j low).1))
        (λ few. (mid_best (epoch_word d (length es)) ∙ (row_rest d es p.notes (length es) (omega arith) ∙ (ap (λ j. best (epoch_word d j) p.notes) count ∙ none_here))))

    is_told : IsTold l.round dcs d mid
    is_told = k.told refl

    pub end_listed : IsListed l d p q' (record { round = l.round; list = es })
    end_listed = let count = r.count in row_listed l dcs d p q' es mid is_told
        (k.noted ∙ ((λ i. record (open_row i) { notes = tell_notes l.round (epoch_word d at) len 0 q.notes }) ∙ ap (λ e. let t : Ticket = record p { notes = told l.round e mid } in t) (dc_epoch d at lt)))
        (ap (told l.round d) mid_is ∙ ap (λ b. told l.round d (cond b row (Ended (epoch_word d (length es)) (has datacentre d (stamped p.seen)) ∷ Found (epoch_word d (length es)) 0 ∷ row))) (sym (not_full (length es) (omega arith))))
        mid_known
        (ap (λ (t : Ticket). settled l.round d t.notes) open_row ∙ found_settled l.round d (epoch_word d 0) (map (λ (e : Epoch). code (Some e)) es) p.notes)
        (marks_same (λ w. best w mid) (λ w. best w row) (mark_word d 0) 16 (λ i a b. mid_best i) ∙ found_marks d (map (λ (e : Epoch). code (Some e)) es) p.notes)

    pub end_rounds : d < dcs → IsEpochList (record { round = l.round; list = es })
    end_rounds low = subst IsEpochList mid_known (is_told.list low)

    pub end_own : Has (Token d) p.duties → record { round = l.round; list = es } ≡ known_list l.round d p.notes
    end_own duty = let count = r.count in sym (known_row l.round d p.notes es (omega arith) (λ j low. (sym (r.own duty j (omega arith)), r.coded j (omega arith))) (λ few. ap (λ j. best (epoch_word d j) p.notes) count ∙ none_here))
