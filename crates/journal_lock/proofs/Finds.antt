-- What each kind of step does to the part of the rule on the words of marks and epochs.
use Rattle.std.proofs.Common.{◌≡◌, ◌≢◌, ℕ, zero, suc, ◌+◌, ◌-◌, ◌/◌, ◌<◌, ◌≤◌, ◌⊎◌, inl, inr, cond, nat_le, nat_eq, true, max, List, [], ◌∷◌, ◌++◌, set, get_or, length, replicate, refl, ap, sym, ◌∙◌, subst, ⊎_elim, arith, get_or-set_other, get_or-set_same}
use Rattle.std.proofs.lemmas.Bool.Decides.{nat_tests}
use mathlib.Core.Logic.{dite}
use mathlib.Core.Option.{some, some-injective}
use mathlib.Core.List.{IsPrefix}
use native.Mathlib.Decide.{ℕ_discrete, dec_le}
use Rattle.std.proofs.lemmas.List.{get_or_past}
use lib.ListN.{get_elem?}
use Rattle.atomic_table.proofs.Lists.{at_set, set_else, at_snoc}
use Rattle.abstract_log.specs.declared.event.Event.{Event}
use Rattle.journal_lock.specs.declared.duty.Duty.{Duty}
use Rattle.journal_lock.specs.declared.duty.Duty.TheVariants.{Token, Maintainer}
use Rattle.journal_lock.specs.declared.law.Note.{Note}
use Rattle.journal_lock.specs.declared.law.Note.TheVariants.{Met, Length, Found, Ended, Told}
use Rattle.journal_lock.specs.Duties.{number, datacentre, has, minus, stamped, Among}
use Rattle.journal_lock.specs.Words.{mark_word, epoch_word, dc_of, guard}
use Rattle.journal_lock.specs.Notes.{IsTrue, AllTrue}
use Rattle.causal_deps.specs.Counts.{greater}
use Rattle.causal_deps.proofs.CountsLemmas.{get_or-greater}
use Rattle.flstore_rounds.specs.Heads.{Pair, joined}
use Rattle.journal_lock.specs.Joins.{told_as}
use Rattle.journal_lock.specs.Names.{lengths_of}
use Rattle.journal_lock.specs.Finds.{said, best, floor, ended, IsLater, read_notes, Stands, AllStand, Finding, FitsWords, Worded}
use Rattle.journal_lock.proofs.EachNotes.{all_append}
use Rattle.journal_lock.proofs.Lists.{stamped_prefix, has_append, has_minus}

abbrev pub at_word : List ℕ → ℕ → ℕ
at_word words w = get_or words w 0

-- what marks of datacentre d that were told say of a word
abbrev pub said_by : ℕ → ℕ → List ℕ → ℕ
said_by d w marks = cond (nat_le (mark_word d 0) w) (get_or marks (w - mark_word d 0) 0) 0

pub guard_mark : (d m : ℕ) → d < 8 → m < 16 → guard (mark_word d m) ≡ number (Maintainer d m)
guard_mark d m a b = grind (arith, nat_tests)

pub guard_epoch : (d k : ℕ) → k < 16 → guard (epoch_word d k) ≡ number (Token d)
guard_epoch d k a = grind (arith, nat_tests)

pub dc_epoch : (d k : ℕ) → k < 16 → dc_of (epoch_word d k) ≡ d
dc_epoch d k few = omega arith

-- a test of what a word holds
pub none_tested : (a b : ℕ) → a ≡ b → (nat_eq a 0 ≡ true → b ≡ 0) × (b ≡ 0 → nat_eq a 0 ≡ true)
none_tested a b is = ((λ t. grind (arith, nat_tests)), (λ z. grind (arith, nat_tests)))

-- a word is the mark of one maintainer
pub one_dc : (d m e k mark : ℕ) (log : List Event) → m < 16 → k < 16 → mark_word d m ≡ mark_word e k → mark ≤ has datacentre d (stamped log) + 1 → mark ≤ has datacentre e (stamped log) + 1
one_dc d m e k mark log a b is small = let same : d ≡ e = omega arith in subst (λ z. mark ≤ has datacentre z (stamped log) + 1) same small

pub best_append : (w : ℕ) (xs ys : List Note) → best w (xs ++ ys) ≡ max (best w xs) (best w ys)
best_append w [] ys = omega arith
best_append w (x ∷ xs) ys = omega (arith, best_append w xs ys)

-- words that only grew, and whose epochs stayed
pub record Grew (log : List Event) (words words' : List ℕ) : Type 0 where
  pub more : (w : ℕ) → 2 ≤ w → at_word words w ≤ at_word words' w
  pub same : (w : ℕ) → 130 ≤ w → 0 < at_word words w → at_word words' w ≡ at_word words w
  pub fresh : (d j : ℕ) → j < 16 → at_word words (epoch_word d j) ≡ 0 → IsLater (has datacentre d (stamped log)) (at_word words' (epoch_word d j))

later_weaker : (a b value : ℕ) → a ≤ b → IsLater b value → IsLater a value
later_weaker a b value le l = ⊎_elim (λ (z : value ≡ 0). inl z) (λ (more : b < value / 32). inr (omega arith)) l

later_some : (a value : ℕ) → a < value / 32 → 0 < value
later_some a value more = omega arith

stands_more : (log : List Event) (words words' : List ℕ) → Grew log words words' → (x : Note) → IsTrue log x → Stands words x → Stands words' x
stands_more log words words' g (Met count) is t = tt
stands_more log words words' g (Length d n) is t = tt
stands_more log words words' g (Told d epochs marks) is t = (t.0, t.1, λ m low. (let h = t.2 m low in let u = g.more (mark_word d m) (omega arith) in omega arith))
stands_more log words words' g (Ended w len) is t = λ d k j e le lt. ⊎_elim (λ (z : at_word words (epoch_word d j) ≡ 0). later_weaker len (has datacentre d (stamped log)) (at_word words' (epoch_word d j)) (is d k (omega arith) e) (g.fresh d j lt z))
    (λ (more : len < at_word words (epoch_word d j) / 32). inr (subst (λ z. len < z / 32) (sym (g.same (epoch_word d j) (omega arith) (later_some len (at_word words (epoch_word d j)) more))) more)) (t d k j e le lt)
stands_more log words words' g (Found w value) is t = (t.0, (let u = g.more w t.0 in let v = t.1 in omega arith), λ high some_value. (let e = t.2 high some_value in g.same w high (omega arith) ∙ e))

all_more : (log : List Event) (words words' : List ℕ) → Grew log words words' → (xs : List Note) → AllTrue log xs → AllStand words xs → AllStand words' xs
all_more log words words' g [] is t = tt
all_more log words words' g (x ∷ xs) is t = (stands_more log words words' g x is.0 t.0, all_more log words words' g xs is.1 t.1)

-- the same where only the turn and the count change
stands_still : (words words' : List ℕ) → ((w : ℕ) → 2 ≤ w → at_word words' w ≡ at_word words w) → (x : Note) → Stands words x → Stands words' x
stands_still words words' same (Met count) t = tt
stands_still words words' same (Length d n) t = tt
stands_still words words' same (Found w value) t = (t.0, (let e = same w t.0 in let u = t.1 in omega arith), λ high more. same w t.0 ∙ t.2 high more)
stands_still words words' same (Told d epochs marks) t = (t.0, t.1, λ m low. (let h = t.2 m low in let u = same (mark_word d m) (omega arith) in omega arith))
stands_still words words' same (Ended w len) t = λ d k j e le lt. subst (IsLater len) (sym (same (epoch_word d j) (omega arith))) (t d k j e le lt)

all_still : (words words' : List ℕ) → ((w : ℕ) → 2 ≤ w → at_word words' w ≡ at_word words w) → (xs : List Note) → AllStand words xs → AllStand words' xs
all_still words words' same [] t = tt
all_still words words' same (x ∷ xs) t = (stands_still words words' same x t.0, all_still words words' same xs t.1)

pub lengths_stand : (words : List ℕ) (seen : List Event) (ds : List ℕ) → AllStand words (lengths_of ds seen)
lengths_stand words seen [] = tt
lengths_stand words seen (d ∷ ds) = (tt, lengths_stand words seen ds)

few_greater : (xs ys : List ℕ) (n : ℕ) → length xs ≤ n → length ys ≤ n → length (greater xs ys) ≤ n
few_greater [] ys n a b = b
few_greater (x ∷ xs) [] n a b = a
few_greater (x ∷ xs) (y ∷ ys) zero a b = absurd (omega arith)
few_greater (x ∷ xs) (y ∷ ys) (suc n) a b = (let less = few_greater xs ys n (omega arith) (omega arith) in omega arith)

-- what two pairs say together is true of the words, where both are
pub joins_stand : (words : List ℕ) (d : ℕ) (v u : Pair) → Stands words (told_as d v) → Stands words (told_as d u) → Stands words (told_as d (joined v u))
joins_stand words d v u s t = (few_greater v.marks u.marks 16 s.0 t.0, s.1, λ m low. (let a = s.2 m low in let b = t.2 m low in omega (arith, get_or-greater v.marks u.marks m)))

-- what marks that were told say of a word
told_at : (d w : ℕ) (marks : List ℕ) → mark_word d 0 ≤ w → said_by d w marks ≡ get_or marks (w - mark_word d 0) 0
told_at d w marks le = grind (arith, nat_tests)

pub told_none : (d w : ℕ) (marks : List ℕ) → length marks ≤ 16 → mark_word d 16 ≤ w → said_by d w marks ≡ 0
told_none d w marks short far = told_at d w marks (omega arith) ∙ get_or_past marks (w - mark_word d 0) 0 (omega arith)

pub told_here : (d m : ℕ) (marks : List ℕ) → said_by d (mark_word d m) marks ≡ get_or marks m 0
told_here d m marks = told_at d (mark_word d m) marks (omega arith) ∙ ap (λ i. get_or marks i 0) (let e : mark_word d m - mark_word d 0 ≡ m = omega arith in e)

pub told_before : (d w : ℕ) (marks : List ℕ) → w < mark_word d 0 → said_by d w marks ≡ 0
told_before d w marks less = grind (arith, nat_tests)

told_low : (words : List ℕ) (w d : ℕ) (marks : List ℕ) → length marks ≤ 16 → ((m : ℕ) → m < 16 → get_or marks m 0 ≤ at_word words (mark_word d m)) → said_by d w marks ≤ at_word words w
told_low words w d marks short low = dite (dec_le (mark_word d 0) w)
    (λ le. dite (dec_le (mark_word d 16) w)
    (λ far. omega (arith, told_none d w marks short far))
    (λ near. (let m : ℕ = w - mark_word d 0 in let is : mark_word d m ≡ w = omega arith in let h = low m (omega arith) in let e = ap (at_word words) is in omega (arith, told_at d w marks le))))
    (λ before. omega (arith, told_before d w marks (omega arith)))

said_low : (words : List ℕ) (w : ℕ) (x : Note) → Stands words x → said w x ≤ at_word words w
said_low words w (Met count) t = omega arith
said_low words w (Length d n) t = omega arith
said_low words w (Ended u len) t = omega arith
said_low words w (Told d epochs marks) t = told_low words w d marks t.0 t.2
said_low words w (Found u value) t = dite (ℕ_discrete u w) (λ e. (let low = t.1 in let same = ap (at_word words) e in grind (arith, nat_tests))) (λ ne. grind (arith, nat_tests))

-- no note says more of a word than it holds
pub best_low : (words : List ℕ) (w : ℕ) (xs : List Note) → AllStand words xs → best w xs ≤ at_word words w
best_low words w [] t = omega arith
best_low words w (x ∷ xs) t = omega (arith, said_low words w x t.0, best_low words w xs t.1)

either_max : (P : ℕ → Type 0) (a b : ℕ) → P a → P b → P (max a b)
either_max P a b p q = dite (ℕ_discrete (max a b) a) (λ e. subst P (sym e) p) (λ ne. subst P (let e : b ≡ max a b = omega arith in e) q)

said_same : (words : List ℕ) (w : ℕ) (x : Note) → 130 ≤ w → Stands words x → 0 < said w x → at_word words w ≡ said w x
said_same words w (Met count) high t more = absurd (omega arith)
said_same words w (Length d n) high t more = absurd (omega arith)
said_same words w (Ended u len) high t more = absurd (omega arith)
said_same words w (Told d epochs marks) high t more = absurd (let none = told_none d w marks t.0 (omega (arith, t.1)) in omega arith)
said_same words w (Found u value) high t more = dite (ℕ_discrete u w)
    (λ e. (let is : said w (Found u value) ≡ value = grind (arith, nat_tests) in sym (ap (at_word words) e) ∙ (t.2 (omega arith) (omega arith) ∙ sym is)))
    (λ ne. (let none : said w (Found u value) ≡ 0 = grind (arith, nat_tests) in absurd (omega arith)))

-- what notes say of an epoch is what it is
pub best_same : (words : List ℕ) (w : ℕ) (xs : List Note) → 130 ≤ w → AllStand words xs → 0 < best w xs → at_word words w ≡ best w xs
best_same words w [] high t more = absurd (omega arith)
best_same words w (x ∷ xs) high t more = either_max (λ k. 0 < k → at_word words w ≡ k) (said w x) (best w xs) (said_same words w x high t.0) (best_same words w xs high t.1) more

floor_later : (words : List ℕ) (d k j p : ℕ) (x : Note) → k ≤ j → j < 16 → Stands words x → 1 ≤ p → p ≤ floor (epoch_word d k) x → IsLater p (at_word words (epoch_word d j))
floor_later words d k j p (Met count) le lt t from low = absurd (omega arith)
floor_later words d k j p (Length e n) le lt t from low = absurd (omega arith)
floor_later words d k j p (Found u value) le lt t from low = absurd (omega arith)
floor_later words d k j p (Told e epochs marks) le lt t from low = absurd (omega arith)
floor_later words d k j p (Ended u len) le lt t from low = dite (ℕ_discrete u (epoch_word d k))
    (λ e. later_weaker p len (at_word words (epoch_word d j)) (let is : floor (epoch_word d k) (Ended u len) ≡ len = grind (arith, nat_tests) in omega arith) (t d k j e le lt))
    (λ ne. absurd (let none : floor (epoch_word d k) (Ended u len) ≡ 0 = grind (arith, nat_tests) in omega arith))

-- each epoch after those that were found starts above what notes tell
pub ended_later : (words : List ℕ) (d k j p : ℕ) (xs : List Note) → k ≤ j → j < 16 → AllStand words xs → 1 ≤ p → p ≤ ended (epoch_word d k) xs → IsLater p (at_word words (epoch_word d j))
ended_later words d k j p [] le lt t from low = absurd (omega arith)
ended_later words d k j p (x ∷ xs) le lt t from low = either_max (λ z. p ≤ z → IsLater p (at_word words (epoch_word d j))) (floor (epoch_word d k) x) (ended (epoch_word d k) xs) (floor_later words d k j p x le lt t.0 from) (ended_later words d k j p xs le lt t.1 from) low

each_set : (words : List ℕ) (xs : List Finding) (id : ℕ) (y : Finding) → FitsWords words y → ((j : ℕ) (x : Finding) → j ≢ id → get_elem? xs j ≡ some x → FitsWords words x) → (j : ℕ) (x : Finding) → get_elem? (set xs id y) j ≡ some x → FitsWords words x
each_set words xs id y mine others j x e = ⊎_elim (λ (t : (j ≡ id) × (y ≡ x)). subst (FitsWords words) t.1 mine) (λ (t : (j ≢ id) × (get_elem? xs j ≡ some x)). others j x t.0 t.1) (at_set xs id j y x e)

pub zeros : (n i : ℕ) → ◌≡◌ {A = ℕ} (at_word (replicate n 0) i) 0
zeros zero i = refl
zeros (suc n) zero = refl
zeros (suc n) (suc i) = zeros n i

module _ (log : List Event) (words : List ℕ) (xs : List Finding) (r : Worded log words xs) where
  -- the journal grows, and another word changes
  pub grows : (log' : List Event) → IsPrefix log log' → (i v : ℕ) → i < 2 → Worded log' (set words i v) xs
  grows log' more i v low =
      let same : (w : ℕ) → 2 ≤ w → at_word (set words i v) w ≡ at_word words w = λ w le. get_or-set_other words i w v 0 (λ e. omega arith) in
      record {
        low = λ d m a b. omega (arith, r.low d m a b, same (mark_word d m) (omega arith), stamped_prefix datacentre d log log' more);
        rows = λ d k j a b c z. same (epoch_word d j) (omega arith) ∙ r.rows d k j a b c (sym (same (epoch_word d k) (omega arith)) ∙ z);
        each = λ j x e. (let f = r.each j x e in record { stand = all_still words (set words i v) same x.1 f.stand; own = λ w a b. same w a ∙ f.own w a b });
      }

  module _ (id : ℕ) (y : Finding) (at : get_elem? xs id ≡ some y) where
    -- more notes that are true
    pub adds : (new : List Note) → AllStand words new → Worded log words (set xs id (y.0, new ++ y.1))
    adds new t = let f = r.each id y at in record {
      low = r.low;
      rows = r.rows;
      each = each_set words xs id (y.0, new ++ y.1) record { stand = all_append (Stands words) new y.1 t f.stand; own = λ w a b. omega (arith, f.own w a b, best_append w new y.1, best_low words w new t) } (λ j x _. r.each j x);
    }

    -- what a look at a word leaves is true
    pub read_stand : (w len value : ℕ) → 2 ≤ w → w < 258 → at_word words w ≡ value → AllStand words (read_notes w len value)
    read_stand w len zero from to is = ((λ d k j e le lt. inl (r.rows d k j (omega arith) le lt (ap (at_word words) (sym e) ∙ is))), ((from, omega arith, λ high more. absurd (omega arith)), tt))
    read_stand w len (suc value) from to is = ((from, omega arith, λ high more. is), tt)

    pub splits : (ds : List Duty) → Among number ds y.0 → Worded log words (set xs id (minus number y.0 ds, y.1) ++ (ds, y.1) ∷ [])
    splits ds among = let y' : Finding = (minus number y.0 ds, y.1) in let z : Finding = (ds, y.1) in let f = r.each id y at in record {
      low = r.low;
      rows = r.rows;
      each = λ j x e. ⊎_elim (each_set words xs id y' record { stand = f.stand; own = λ w a b. f.own w a (omega (arith, has_minus number y.0 ds among (guard w))) } (λ i u _. r.each i u) j x)
          (λ (t : z ≡ x). subst (FitsWords words) t record { stand = f.stand; own = λ w a b. f.own w a (omega (arith, among (guard w))) }) (at_snoc (set xs id y') z x j e);
    }

    pub joins : (other : ℕ) (x : Finding) → other ≢ id → get_elem? (set xs id (y.0 ++ x.0, y.1 ++ x.1)) other ≡ some x → Worded log words (set (set xs id (y.0 ++ x.0, y.1 ++ x.1)) other ([], []))
    joins other x ne bt = let y' : Finding = (y.0 ++ x.0, y.1 ++ x.1) in let there : get_elem? xs other ≡ some x = sym (set_else xs id other y' ne) ∙ bt in let f = r.each id y at in let g = r.each other x there in record {
      low = r.low;
      rows = r.rows;
      each = each_set words (set xs id y') other ([], []) record { stand = tt; own = λ w a b. absurd (omega arith) } (λ j z _. each_set words xs id y' record {
        stand = all_append (Stands words) y.1 x.1 f.stand g.stand;
        own = λ w a b. dite (ℕ_discrete (has number (guard w) y.0) 0)
            (λ none. omega (arith, has_append number (guard w) y.0 x.0, g.own w a (omega (arith, has_append number (guard w) y.0 x.0)), best_append w y.1 x.1, best_low words w y.1 f.stand))
            (λ some_here. omega (arith, f.own w a (omega arith), best_append w y.1 x.1, best_low words w x.1 g.stand));
      } (λ i u _. r.each i u) j z);
    }

    -- who alone has the duty for a word raises it to v
    pub writes : (w v new : ℕ) → 2 ≤ w → w < length words → 0 < has number (guard w) y.0 → ((j : ℕ) (x : Finding) → j ≢ id → get_elem? xs j ≡ some x → has number (guard w) x.0 ≡ 0)
        → new ≡ max (at_word words w) v → (130 ≤ w → 0 < at_word words w → new ≡ at_word words w) → (130 ≤ w → new ≡ v) → ((d m : ℕ) → d < 8 → m < 16 → w ≡ mark_word d m → v ≤ has datacentre d (stamped log) + 1)
        → ((j : ℕ) (x : Finding) → get_elem? xs j ≡ some x → AllTrue log x.1) → ((d j : ℕ) → j < 16 → w ≡ epoch_word d j → IsLater (has datacentre d (stamped log)) new × ((k : ℕ) → k < j → 0 < at_word words (epoch_word d k)))
        → Worded log (set words w new) (set xs id (y.0, Found w v ∷ y.1))
    writes w v new from inside duty alone is keep whole small true_all place =
        let words' : List ℕ = set words w new in let here : at_word words' w ≡ new = get_or-set_same words w new 0 inside in let f = r.each id y at in
        let there : (u : ℕ) → u ≢ w → at_word words' u ≡ at_word words u = λ u ne. get_or-set_other words w u new 0 ne in
        let g : Grew log words words' = record {
          fresh = λ d j lt z. dite (ℕ_discrete (epoch_word d j) w) (λ e. subst (IsLater (has datacentre d (stamped log))) (sym (ap (at_word words') e ∙ here)) (place d j lt (sym e)).0) (λ ne. inl (there (epoch_word d j) ne ∙ z));
          more = λ u le. dite (ℕ_discrete u w) (λ e. (let a = ap (at_word words) e in let b = ap (at_word words') e in omega arith)) (λ ne. omega (arith, there u ne));
          same = λ u le more. dite (ℕ_discrete u w) (λ e. (let a = ap (at_word words) e in let b = ap (at_word words') e in b ∙ (here ∙ (keep (omega arith) (omega arith) ∙ sym a)))) (λ ne. there u ne);
        } in record {
          low = λ d m a b. dite (ℕ_discrete (mark_word d m) w) (λ e. (let s = small d m a b (sym e) in let t = r.low d m a b in let p = ap (at_word words) e in let q = ap (at_word words') e in omega arith)) (λ ne. omega (arith, there (mark_word d m) ne, r.low d m a b));
          rows = λ d k j a b c z. dite (ℕ_discrete (epoch_word d j) w)
              (λ e. dite (ℕ_discrete k j) (λ kj. ap (λ i. at_word words' (epoch_word d i)) (sym kj) ∙ z) (λ ne. absurd (let more = (place d j c (sym e)).1 k (omega arith) in let up = g.more (epoch_word d k) (omega arith) in omega arith)))
              (λ ne. there (epoch_word d j) ne ∙ r.rows d k j a b c (let up = g.more (epoch_word d k) (omega arith) in omega arith));
          each = each_set words' xs id (y.0, Found w v ∷ y.1) record {
            stand = ((from, (omega arith), λ high more. here ∙ whole high), all_more log words words' g y.1 (true_all id y at) f.stand);
            own = λ u a b. dite (ℕ_discrete w u)
                (λ e. (let s : said u (Found w v) ≡ v = grind (arith, nat_tests) in let p = ap (at_word words) e in let q = ap (at_word words') e in omega (arith, f.own u a b)))
                (λ ne. (let s : said u (Found w v) ≡ 0 = grind (arith, nat_tests) in omega (arith, f.own u a b, there u (λ e. ne (sym e)))));
          } (λ j x ne e. (let h = r.each j x e in record {
            stand = all_more log words words' g x.1 (true_all j x e) h.stand;
            own = λ u a b. dite (ℕ_discrete u w) (λ is_w. (let z = alone j x ne e in let p = ap (λ k. has number (guard k) x.0) is_w in absurd (omega arith))) (λ other. there u other ∙ h.own u a b);
          }));
        }
