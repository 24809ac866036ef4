-- A walk over a stock, from one new record to the next.
use Rattle.std.proofs.Common.{◌≡◌, ◌≢◌, ℕ, zero, suc, ◌+◌, ◌-◌, ◌<◌, ◌≤◌, Bool, true, false, cond, ◌&&◌, List, [], ◌∷◌, ◌++◌, length, take, filter, Some, None, refl, ap, sym, subst, ◌∙◌, arith, inl, inr, append_assoc, append-nil}
use Rattle.std.specs.Prelude.{nat_lt}
use Rattle.std.proofs.lemmas.Bool.{lt-ltb, le-ltb, cases_lt, cases_Bool}
use Rattle.std.proofs.lemmas.Option.{same_Some}
use Rattle.std.proofs.lemmas.List.{length_push}
use Rattle.causal_deps.specs.declared.record.Record.{Record}
use Rattle.sender_receiver.specs.Stocks.{Stocked, IsRisingFrom, records_in}
use Rattle.sender_receiver.specs.Choosing.{is_new, first_new, next_new}

-- what is held above a place
abbrev above : ℕ → List Stocked → List Stocked
above lid held = filter (λ x. nat_lt lid x.lid) held

kept : (lid : ℕ) (x : Stocked) (xs : List Stocked) → lid < x.lid → above lid (x ∷ xs) ≡ x ∷ above lid xs
kept lid x xs past = ap (λ b. cond b (x ∷ above lid xs) (above lid xs)) (lt-ltb lid x.lid past)

left_out : (lid : ℕ) (x : Stocked) (xs : List Stocked) → x.lid ≤ lid → above lid (x ∷ xs) ≡ above lid xs
left_out lid x xs before = ap (λ b. cond b (x ∷ above lid xs) (above lid xs)) (le-ltb lid x.lid before)

all_above : (low lid : ℕ) (xs : List Stocked) → IsRisingFrom low xs → lid ≤ low → above lid xs ≡ xs
all_above low lid [] rising within = refl
all_above low lid (x ∷ xs) rising within =
    kept lid x xs (omega (arith, rising.0)) ∙ ap (λ ys. x ∷ ys) (all_above x.lid lid xs rising.1 (omega (arith, rising.0)))

module _ (d known : ℕ) where
  -- the new records above a place
  abbrev pub news : ℕ → List Stocked → List Record
  news lid held = filter (is_new d known) (records_in (above lid held))

  -- the first is new and above the place, or what is next stands behind it
  next_here : (lid : ℕ) (y : Stocked) (ys : List Stocked) → lid < y.lid → is_new d known y.rec ≡ true → next_new d known lid (y ∷ ys) ≡ Some y
  next_here lid y ys past new =
      ap (λ b. cond (b && is_new d known y.rec) (Some y) (next_new d known lid ys)) (lt-ltb lid y.lid past) ∙ ap (λ b. cond b (Some y) (next_new d known lid ys)) new

  old_later : (lid : ℕ) (y : Stocked) (ys : List Stocked) → is_new d known y.rec ≡ false → next_new d known lid (y ∷ ys) ≡ next_new d known lid ys
  old_later lid y ys old = go (nat_lt lid y.lid)
    where
      go : (b : Bool) → cond (b && is_new d known y.rec) (Some y) (next_new d known lid ys) ≡ next_new d known lid ys
      go true = ap (λ b. cond b (Some y) (next_new d known lid ys)) old
      go false = refl

  low_later : (lid : ℕ) (y : Stocked) (ys : List Stocked) → y.lid ≤ lid → next_new d known lid (y ∷ ys) ≡ next_new d known lid ys
  low_later lid y ys low = ap (λ b. cond (b && is_new d known y.rec) (Some y) (next_new d known lid ys)) (le-ltb lid y.lid low)

  -- so are the new records

  news_here : (lid : ℕ) (y : Stocked) (ys : List Stocked) → lid < y.lid → is_new d known y.rec ≡ true → news lid (y ∷ ys) ≡ y.rec ∷ news lid ys
  news_here lid y ys past new = ap (λ xs. filter (is_new d known) (records_in xs)) (kept lid y ys past) ∙ ap (λ b. cond b (y.rec ∷ news lid ys) (news lid ys)) new

  old_news : (lid : ℕ) (y : Stocked) (ys : List Stocked) → is_new d known y.rec ≡ false → news lid (y ∷ ys) ≡ news lid ys
  old_news lid y ys old = go (nat_lt lid y.lid)
    where
      go : (b : Bool) → filter (is_new d known) (records_in (cond b (y ∷ above lid ys) (above lid ys))) ≡ news lid ys
      go true = ap (λ b. cond b (y.rec ∷ news lid ys) (news lid ys)) old
      go false = refl

  low_news : (lid : ℕ) (y : Stocked) (ys : List Stocked) → y.lid ≤ lid → news lid (y ∷ ys) ≡ news lid ys
  low_news lid y ys low = ap (λ xs. filter (is_new d known) (records_in xs)) (left_out lid y ys low)

  -- x is past the place, and its record is the first of the new ones
  pub record IsNext (lid : ℕ) (held : List Stocked) (x : Stocked) : Type 0 where
    pub past : lid < x.lid
    pub rest : news lid held ≡ x.rec ∷ news x.lid held

  next_first : (lid : ℕ) (y : Stocked) (ys : List Stocked) → IsRisingFrom y.lid ys → lid < y.lid → is_new d known y.rec ≡ true → IsNext lid (y ∷ ys) y
  next_first lid y ys rising past new = record {
    past = past;
    rest = news_here lid y ys past new
        ∙ ap (λ xs. y.rec ∷ filter (is_new d known) (records_in xs)) (all_above y.lid lid ys rising (omega arith) ∙ sym (all_above y.lid y.lid ys rising (omega arith)))
        ∙ ap (λ rs. y.rec ∷ rs) (sym (low_news y.lid y ys (omega arith)));
  }

  next_behind : (lid : ℕ) (x y : Stocked) (ys : List Stocked) → news lid (y ∷ ys) ≡ news lid ys → news x.lid (y ∷ ys) ≡ news x.lid ys → IsNext lid ys x → IsNext lid (y ∷ ys) x
  next_behind lid x y ys same still h = record { past = h.past; rest = same ∙ h.rest ∙ ap (λ rs. x.rec ∷ rs) (sym still) }

  pub next_is : (low lid : ℕ) (held : List Stocked) (x : Stocked) → IsRisingFrom low held → next_new d known lid held ≡ Some x → IsNext lid held x
  next_is low lid [] x rising e = absurd (cc)
  next_is low lid (y ∷ ys) x rising e = elim (cases_lt lid y.lid) [
    | inr before ↦
        let later = next_is y.lid lid ys x rising.1 (sym (low_later lid y ys before) ∙ e) in
        next_behind lid x y ys (low_news lid y ys before) (low_news x.lid y ys (omega (arith, before, later.past))) later
    | inl past ↦ elim (cases_Bool (is_new d known y.rec)) [
      | inl new ↦ subst (IsNext lid (y ∷ ys)) (same_Some y x (sym (next_here lid y ys past new) ∙ e)) (next_first lid y ys rising.1 past new)
      | inr old ↦ next_behind lid x y ys (old_news lid y ys old) (old_news x.lid y ys old) (next_is y.lid lid ys x rising.1 (sym (old_later lid y ys old) ∙ e))
    ]
  ]

  pub none_next : (lid : ℕ) (held : List Stocked) → next_new d known lid held ≡ None → news lid held ≡ []
  none_next lid [] e = refl
  none_next lid (y ∷ ys) e = elim (cases_lt lid y.lid) [
    | inr before ↦ low_news lid y ys before ∙ none_next lid ys (sym (low_later lid y ys before) ∙ e)
    | inl past ↦ elim (cases_Bool (is_new d known y.rec)) [
      | inl new ↦ absurd (let f : Some y ≡ None = sym (next_here lid y ys past new) ∙ e in cc)
      | inr old ↦ old_news lid y ys old ∙ none_next lid ys (sym (old_later lid y ys old) ∙ e)
    ]
  ]

  -- fewer are new above the next
  pub fewer : (held : List Stocked) (lid : ℕ) (x : Stocked) → IsRisingFrom 0 held → next_new d known lid held ≡ Some x → length (news x.lid held) < length (news lid held)
  fewer held lid x rising e = omega (arith, ap length (next_is 0 lid held x rising e).rest)

  -- the records so far, and those that are still to come
  pub record IsWalked (held : List Stocked) (lid : ℕ) (records : List Record) : Type 0 where
    pub room : length records ≤ 16
    pub chosen : records ++ take (16 - length records) (news lid held) ≡ first_new d known (records_in held)

  all_news : (held : List Stocked) → IsRisingFrom 0 held → news 0 held ≡ filter (is_new d known) (records_in held)
  all_news held rising = ap (λ xs. filter (is_new d known) (records_in xs)) (all_above 0 0 held rising (omega arith))

  pub begun : (held : List Stocked) (records : List Record) → IsRisingFrom 0 held → records ≡ [] → IsWalked held 0 records
  begun held records rising none = subst (IsWalked held 0) (sym none) (record { room = omega arith; chosen = ap (take 16) (all_news held rising) })

  take_one : (n : ℕ) (records : List Record) (rec : Record) (rest : List Record) → n < 16
      → records ++ take (16 - n) (rec ∷ rest) ≡ (records ++ rec ∷ []) ++ take (16 - (n + 1)) rest
  take_one n records rec rest room =
      let e : 16 - n ≡ suc (16 - (n + 1)) = omega arith in
      ap (λ k. records ++ take k (rec ∷ rest)) e ∙ sym (append_assoc records (rec ∷ []) (take (16 - (n + 1)) rest))

  -- the next new record is told
  pub told : (held : List Stocked) (lid : ℕ) (x : Stocked) (records : List Record) (copy : Record) (new : List Record) → IsRisingFrom 0 held
      → next_new d known lid held ≡ Some x → copy ≡ x.rec → length records < 16 → IsWalked held lid records → new ≡ records ++ copy ∷ [] → IsWalked held x.lid new
  told held lid x records copy new rising e is_copy room walked is =
      let pushed : new ≡ records ++ x.rec ∷ [] = is ∙ ap (λ r. records ++ r ∷ []) is_copy in
      let one : length (records ++ x.rec ∷ []) ≡ length records + 1 = length_push records x.rec in
      subst (IsWalked held x.lid) (sym pushed) (record {
        room = omega (arith, one);
        chosen = ap (λ n. (records ++ x.rec ∷ []) ++ take (16 - n) (news x.lid held)) one
            ∙ sym (take_one (length records) records x.rec (news x.lid held) room)
            ∙ ap (λ rs. records ++ take (16 - length records) rs) (sym (next_is 0 lid held x rising e).rest)
            ∙ walked.chosen;
      })

  -- there are 16
  pub full : (held : List Stocked) (lid : ℕ) (records : List Record) → 16 ≤ length records → IsWalked held lid records → records ≡ first_new d known (records_in held)
  full held lid records many walked =
      let none : 16 - length records ≡ 0 = omega arith in
      sym (append-nil records) ∙ ap (λ n. records ++ take n (news lid held)) (sym none) ∙ walked.chosen

  nothing_of : (n : ℕ) → ◌≡◌ {A = List Record} (take n []) []
  nothing_of zero = refl
  nothing_of (suc n) = refl

  -- there is no further one
  pub ended : (held : List Stocked) (lid : ℕ) (records : List Record) → next_new d known lid held ≡ None → IsWalked held lid records → records ≡ first_new d known (records_in held)
  ended held lid records e walked =
      sym (append-nil records) ∙ ap (λ rs. records ++ rs) (sym (nothing_of (16 - length records)))
      ∙ ap (λ rs. records ++ take (16 - length records) rs) (sym (none_next lid held e)) ∙ walked.chosen

  -- whether any is told
  pub some_told : (held : List Stocked) (x : Stocked) → IsRisingFrom 0 held → next_new d known 0 held ≡ Some x → first_new d known (records_in held) ≢ []
  some_told held x rising e none =
      let first : x.rec ∷ take 15 (news x.lid held) ≡ first_new d known (records_in held) = ap (take 16) (sym (next_is 0 0 held x rising e).rest ∙ all_news held rising) in
      let bad = first ∙ none in
      absurd (cc)

  pub none_told : (held : List Stocked) → IsRisingFrom 0 held → next_new d known 0 held ≡ None → first_new d known (records_in held) ≡ []
  none_told held rising e = ap (take 16) (sym (all_news held rising) ∙ none_next 0 held e)
