-- Lists of epochs and of marks, as words hold them.
use Rattle.std.proofs.Common.{◌≡◌, ◌≢◌, ◌⊎◌, ℕ, zero, suc, ◌+◌, ◌-◌, ◌/◌, ◌<◌, ◌≤◌, cond, nat_lt, nat_le, List, [], ◌∷◌, ◌++◌, length, take, drop, get_or, refl, ap, sym, ◌∙◌, subst, ⊎_elim, inl, inr, arith, length-append, append_assoc}
use Rattle.std.specs.List.{All}
use Rattle.std.proofs.lemmas.Bool.Decides.{nat_tests}
use Rattle.std.proofs.lemmas.List.{append-nil, get_or_past}
use Rattle.std.proofs.lemmas.List.Elements.{All-nil, All-cons}
use mathlib.Core.Logic.{dite}
use native.Mathlib.Decide.{ℕ_discrete, dec_le}
use Rattle.flstore_rounds.specs.declared.epochs.Epoch.{Epoch}
use Rattle.flstore_rounds.specs.Epochs.{EpochList, IsPrefix, later_than, with_epoch}
use Rattle.journal_lock.specs.Words.{mark_word, epoch_word}
use Rattle.journal_lock.specs.Finds.{IsLater}
use Rattle.journal_lock.specs.Marks.{epoch_of, then_epochs, epochs_by, list_by}
use Rattle.journal_lock.specs.Heads.{marks_by}
use Rattle.journal_lock.proofs.Lists.{drop_length}

-- marks

pub marks_length : (f : ℕ → ℕ) (w n : ℕ) → length (marks_by f w n) ≡ n
marks_length f w zero = refl
marks_length f w (suc n) = omega (arith, marks_length f (w + 1) n)

pub marks_at : (f : ℕ → ℕ) (w n m : ℕ) → m < n → get_or (marks_by f w n) m 0 ≡ f (w + m)
marks_at f w zero m low = absurd (omega arith)
marks_at f w (suc n) zero low = ap f (let e : w ≡ w + 0 = omega arith in e)
marks_at f w (suc n) (suc m) low = marks_at f (w + 1) n m (omega arith) ∙ ap f (let e : w + 1 + m ≡ w + suc m = omega arith in e)

pub marks_same : (f g : ℕ → ℕ) (w n : ℕ) → ((i : ℕ) → w ≤ i → i < w + n → f i ≡ g i) → marks_by f w n ≡ marks_by g w n
marks_same f g w zero same = refl
marks_same f g w (suc n) same = (λ i. same w (omega arith) (omega arith) i ∷ marks_same f g (w + 1) n (λ j a b. same j (omega arith) (omega arith)) i)

-- epochs

pub epochs_same : (f g : ℕ → ℕ) (w n : ℕ) → ((i : ℕ) → w ≤ i → i < w + n → f i ≡ g i) → epochs_by f w n ≡ epochs_by g w n
epochs_same f g w zero same = refl
epochs_same f g w (suc n) same = (λ i. then_epochs (same w (omega arith) (omega arith) i) (epochs_same f g (w + 1) n (λ j a b. same j (omega arith) (omega arith)) i))

-- words of epochs that are equal give one list
pub list_same : (round d : ℕ) (f g : ℕ → ℕ) → ((i : ℕ) → epoch_word d 0 ≤ i → i < epoch_word d 0 + 16 → f i ≡ g i) → list_by round f d ≡ list_by round g d
list_same round d f g same = (λ i. record { round = round; list = epochs_same f g (epoch_word d 0) 16 same i })

then_none : (value : ℕ) (es : List Epoch) → value ≡ 0 → then_epochs value es ≡ []
then_none zero es none = refl
then_none (suc value) es none = absurd (omega arith)

pub then_some : (value : ℕ) (es : List Epoch) → 0 < value → then_epochs value es ≡ epoch_of value ∷ es
then_some zero es more = absurd (omega arith)
then_some (suc value) es more = refl

-- an empty word ends the list
pub epochs_stop : (f : ℕ → ℕ) (w k n : ℕ) → ((j : ℕ) → j < k → 0 < f (w + j)) → f (w + k) ≡ 0 → k < n → epochs_by f w n ≡ epochs_by f w k
epochs_stop f w k zero some none low = absurd (omega arith)
epochs_stop f w zero (suc n) some none low = then_none (f w) (epochs_by f (w + 1) n) (ap f (let e : w ≡ w + 0 = omega arith in e) ∙ none)
epochs_stop f w (suc k) (suc n) some none low = ap (then_epochs (f w)) (epochs_stop f (w + 1) k n
    (λ j lt. (let s = some (suc j) (omega arith) in let e : f (w + 1 + j) ≡ f (w + suc j) = ap f (let q : w + 1 + j ≡ w + suc j = omega arith in q) in omega arith))
    (ap f (let q : w + 1 + k ≡ w + suc k = omega arith in q) ∙ none) (omega arith))

-- one epoch more
pub epochs_next : (f : ℕ → ℕ) (w k : ℕ) → ((j : ℕ) → j < k → 0 < f (w + j)) → 0 < f (w + k) → epochs_by f w (suc k) ≡ epochs_by f w k ++ epoch_of (f (w + k)) ∷ []
epochs_next f w zero some last = (let same : f w ≡ f (w + 0) = ap f (let e : w ≡ w + 0 = omega arith in e) in then_some (f w) [] (omega arith) ∙ ap (λ v. epoch_of v ∷ []) same)
epochs_next f w (suc k) some last =
    let first : 0 < f w = (let s = some 0 (omega arith) in let e : f (w + 0) ≡ f w = ap f (let q : w + 0 ≡ w = omega arith in q) in omega arith) in
    let shift : (j : ℕ) → f (w + 1 + j) ≡ f (w + suc j) = λ j. ap f (let q : w + 1 + j ≡ w + suc j = omega arith in q) in
    let rest = epochs_next f (w + 1) k (λ j lt. (let s = some (suc j) (omega arith) in let e = shift j in omega arith)) (let e = shift k in omega arith) in
    ap (then_epochs (f w)) (rest ∙ ap (λ v. epochs_by f (w + 1) k ++ epoch_of v ∷ []) (shift k))
    ∙ (then_some (f w) (epochs_by f (w + 1) k ++ epoch_of (f (w + suc k)) ∷ []) first ∙ ap (λ l. l ++ epoch_of (f (w + suc k)) ∷ []) (sym (then_some (f w) (epochs_by f (w + 1) k) first)))

pub epochs_short : (f : ℕ → ℕ) (w n : ℕ) → length (epochs_by f w n) ≤ n
epochs_short f w zero = omega arith
epochs_short f w (suc n) = short (f w) (epochs_short f (w + 1) n)
  where
    short : (value : ℕ) → length (epochs_by f (w + 1) n) ≤ n → length (then_epochs value (epochs_by f (w + 1) n)) ≤ suc n
    short zero le = omega arith
    short (suc value) le = omega arith

some_by : (f : ℕ → ℕ) (w j value : ℕ) (es : List Epoch) → f w ≡ value → j < length (then_epochs value es) → (0 < j → j - 1 < length es → 0 < f (w + 1 + (j - 1))) → 0 < f (w + j)
some_by f w j zero es is low rest = absurd (omega arith)
some_by f w j (suc value) es is low rest = dite (ℕ_discrete j 0)
    (λ z. (let e : f (w + j) ≡ f w = ap f (let q : w + j ≡ w = omega arith in q) in omega arith))
    (λ more. (let s = rest (omega arith) (omega arith) in let e : f (w + 1 + (j - 1)) ≡ f (w + j) = ap f (let q : w + 1 + (j - 1) ≡ w + j = omega arith in q) in omega arith))

-- the words of a list's epochs hold some, and the one after them none
pub epochs_some : (f : ℕ → ℕ) (w n j : ℕ) → j < length (epochs_by f w n) → 0 < f (w + j)
epochs_some f w zero j low = absurd (omega arith)
epochs_some f w (suc n) j low = some_by f w j (f w) (epochs_by f (w + 1) n) refl low (λ _ lt. epochs_some f (w + 1) n (j - 1) lt)

none_by : (f : ℕ → ℕ) (w n value : ℕ) (es : List Epoch) → f w ≡ value → length (then_epochs value es) < suc n → (length es < n → f (w + 1 + length es) ≡ 0) → f (w + length (then_epochs value es)) ≡ 0
none_by f w n zero es is low rest = ap f (let q : w + 0 ≡ w = omega arith in q) ∙ is
none_by f w n (suc value) es is low rest = ap f (let q : w + suc (length es) ≡ w + 1 + length es = omega arith in q) ∙ rest (omega arith)

pub epochs_none : (f : ℕ → ℕ) (w n : ℕ) → length (epochs_by f w n) < n → f (w + length (epochs_by f w n)) ≡ 0
epochs_none f w zero low = absurd (omega arith)
epochs_none f w (suc n) low = none_by f w n (f w) (epochs_by f (w + 1) n) refl low (λ lt. epochs_none f (w + 1) n lt)

-- so many words hold some
pub epochs_count : (f : ℕ → ℕ) (w k : ℕ) → ((j : ℕ) → j < k → 0 < f (w + j)) → length (epochs_by f w k) ≡ k
epochs_count f w k some = dite (dec_le k (length (epochs_by f w k))) (λ le. omega (arith, epochs_short f w k))
    (λ less. absurd (let low : length (epochs_by f w k) < k = omega arith in let z = epochs_none f w k low in let s = some (length (epochs_by f w k)) low in omega arith))

-- a word that held none holds one, and those after it none
pub epochs_more : (f g : ℕ → ℕ) (w k n : ℕ) → ((i : ℕ) → i ≢ w + k → f i ≡ g i) → ((j : ℕ) → j < k → 0 < f (w + j)) → ((j : ℕ) → k ≤ j → j < n → f (w + j) ≡ 0) → 0 < g (w + k) → k < n
    → epochs_by g w n ≡ epochs_by f w n ++ epoch_of (g (w + k)) ∷ []
epochs_more f g w k n same some none last low =
    let before : epochs_by g w k ≡ epochs_by f w k = epochs_same g f w k (λ i a b. sym (same i (λ e. omega arith))) in
    let some' : (j : ℕ) → j < k → 0 < g (w + j) = λ j lt. (let s = some j lt in let e = same (w + j) (λ q. omega arith) in omega arith) in
    let old : epochs_by f w n ≡ epochs_by f w k = epochs_stop f w k n some (none k (omega arith) low) low in
    let next : epochs_by g w (suc k) ≡ epochs_by g w k ++ epoch_of (g (w + k)) ∷ [] = epochs_next g w k some' last in
    let end : epochs_by g w n ≡ epochs_by g w (suc k) = dite (ℕ_discrete (suc k) n) (λ e. ap (epochs_by g w) (sym e))
    (λ ne. epochs_stop g w (suc k) n (λ j lt. dite (ℕ_discrete j k) (λ e. (let q : g (w + j) ≡ g (w + k) = ap (λ z. g (w + z)) e in omega arith)) (λ other. some' j (omega arith)))
    (sym (same (w + suc k) (λ e. omega arith)) ∙ none (suc k) (omega arith) (omega arith)) (omega arith)) in
    end ∙ (next ∙ ap (λ l. l ++ epoch_of (g (w + k)) ∷ []) (before ∙ sym old))

-- epochs that all start above p
pub all_later : (g : ℕ → ℕ) (p n w : ℕ) → ((i : ℕ) → w ≤ i → i < w + n → IsLater p (g i)) → All (λ (e : Epoch). p < e.start) (epochs_by g w n)
all_later g p zero w late = All-nil (λ (e : Epoch). p < e.start)
all_later g p (suc n) w late = one (g w) (late w (omega arith) (omega arith)) (all_later g p n (w + 1) (λ i a b. late i (omega arith) (omega arith)))
  where
    one : (value : ℕ) → IsLater p value → All (λ (e : Epoch). p < e.start) (epochs_by g (w + 1) n) → All (λ (e : Epoch). p < e.start) (then_epochs value (epochs_by g (w + 1) n))
    one zero l rest = All-nil (λ (e : Epoch). p < e.start)
    one (suc value) l rest = All-cons (λ (e : Epoch). p < e.start) (epoch_of (suc value)) (epochs_by g (w + 1) n) (⊎_elim (λ (z : suc value ≡ 0). absurd (omega arith)) (λ (more : p < suc value / 32). more) l) rest

-- a list goes on from another by epochs that start above p
abbrev pub GoesOn : ℕ → List Epoch → List Epoch → Type 0
GoesOn p es fs = (rest : List Epoch) × (fs ≡ es ++ rest) × All (λ (e : Epoch). p < e.start) rest

-- words that are equal, up to one from which on epochs start above p
abbrev pub AreAlike : (f g : ℕ → ℕ) → ℕ → ℕ → ℕ → Type 0
AreAlike f g p n w = (i : ℕ) → w ≤ i → i < w + n → (f i ≡ g i) ⊎ ((f i ≡ 0) × ((j : ℕ) → i ≤ j → j < w + n → IsLater p (g j)))

pub alike_after : (f g : ℕ → ℕ) (p n w : ℕ) → AreAlike f g p (suc n) w → AreAlike f g p n (w + 1)
alike_after f g p n w h i a b = ⊎_elim inl (λ (t : (f i ≡ 0) × ((j : ℕ) → i ≤ j → j < w + suc n → IsLater p (g j))). inr (t.0, λ j u v. t.1 j u (omega arith))) (h i (omega arith) (omega arith))

goes_over : (p value : ℕ) (es fs : List Epoch) → GoesOn p es fs → GoesOn p (then_epochs value es) (then_epochs value fs)
goes_over p zero es fs on = ([], refl, All-nil (λ (e : Epoch). p < e.start))
goes_over p (suc value) es fs on = (on.0, ap (λ l. epoch_of (suc value) ∷ l) on.1, on.2)

pub goes_on : (f g : ℕ → ℕ) (p n w : ℕ) → AreAlike f g p n w → GoesOn p (epochs_by f w n) (epochs_by g w n)
goes_on f g p zero w h = ([], refl, All-nil (λ (e : Epoch). p < e.start))
goes_on f g p (suc n) w h = ⊎_elim
    (λ (same : f w ≡ g w). subst (λ v. GoesOn p (then_epochs v (epochs_by f (w + 1) n)) (epochs_by g w (suc n))) (sym same) (goes_over p (g w) (epochs_by f (w + 1) n) (epochs_by g (w + 1) n) (goes_on f g p n (w + 1) (alike_after f g p n w h))))
    (λ (t : (f w ≡ 0) × ((j : ℕ) → w ≤ j → j < w + suc n → IsLater p (g j))). (epochs_by g w (suc n), ap (λ l. l ++ epochs_by g w (suc n)) (sym (then_none (f w) (epochs_by f (w + 1) n) t.0)), all_later g p (suc n) w t.1)) (h w (omega arith) (omega arith))

begins_over : (value : ℕ) (es fs : List Epoch) → (rest : List Epoch) × (fs ≡ es ++ rest) → (rest : List Epoch) × (then_epochs value fs ≡ then_epochs value es ++ rest)
begins_over zero es fs on = ([], refl)
begins_over (suc value) es fs on = (on.0, ap (λ l. epoch_of (suc value) ∷ l) on.1)

-- words that are equal, or of which the first hold none, give a list that begins the other
pub begins_by : (f g : ℕ → ℕ) (n w : ℕ) → ((i : ℕ) → w ≤ i → (f i ≡ g i) ⊎ (f i ≡ 0)) → (rest : List Epoch) × (epochs_by g w n ≡ epochs_by f w n ++ rest)
begins_by f g zero w h = ([], refl)
begins_by f g (suc n) w h = ⊎_elim
    (λ (same : f w ≡ g w). subst (λ v. (rest : List Epoch) × (epochs_by g w (suc n) ≡ then_epochs v (epochs_by f (w + 1) n) ++ rest)) (sym same) (begins_over (g w) (epochs_by f (w + 1) n) (epochs_by g (w + 1) n) (begins_by f g n (w + 1) (λ i le. h i (omega arith)))))
    (λ (none : f w ≡ 0). (epochs_by g w (suc n), ap (λ l. l ++ epochs_by g w (suc n)) (sym (then_none (f w) (epochs_by f (w + 1) n) none)))) (h w (omega arith))

take_front : {A : Type 0} (xs ys : List A) → take (length xs) (xs ++ ys) ≡ xs
take_front [] ys = refl
take_front (x ∷ xs) ys = ap (λ l. x ∷ l) (take_front xs ys)

-- it begins with the other, and has no more than these
pub begins_with : (e t : EpochList) (rest : List Epoch) → e.round ≡ t.round → t.list ≡ e.list ++ rest → IsPrefix e t × (later_than e t ≡ rest)
begins_with e t rest round is = (
  record { round = round; shorter = omega (arith, ap length is, length-append e.list rest); same = sym (ap (take (length e.list)) is ∙ take_front e.list rest) },
  ap (drop (length e.list)) is ∙ drop_length e.list rest,
)
