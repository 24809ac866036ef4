-- The dependencies in the sparse form: which entries are told, that these say all, and what is missed in them.
use Rattle.std.proofs.Common.{◌≡◌, ℕ, zero, suc, ◌+◌, ◌-◌, ◌<◌, ◌≤◌, ◌⊎◌, ◌||◌, Bool, cond, eqb, not, true, false, Some, List, [], ◌∷◌, ◌++◌, length, get_or, set, take, replicate, refl, ap, ap₂, sym, ◌∙◌, subst, inl, inr, arith}
use Rattle.std.proofs.lemmas.Bool.{cases_eq, eq-eqb, ne_eqb}
use Rattle.std.proofs.lemmas.List.{flat_map_more, length-append, length-replicate, length-set, length-take-le, take_more, get_or-replicate, get_or-set_other, get_or-set_same}
use Rattle.std.specs.List.{flat_map}
use Rattle.byteorder.specs.Endian.{big_bytes}
use Rattle.record_codec.specs.declared.fault.DecodeFault.{DecodeFault}
use Rattle.record_codec.specs.declared.reader.Entry.{Entry}
use Rattle.record_codec.specs.Fields.{AreEntries, AreTold, FitsOwn, IsEntry, IsOther, IsToldNext, told_bytes}
use Rattle.record_codec.specs.Parts.{Differ, IsWord, IsCode, IsBetween, AreEach, IsSized, sized}
use Rattle.record_codec.specs.Reading.{ReaderState, ReadPast, FailsAt}
use Rattle.record_codec.specs.Wire.{entry_bytes, sparse_bytes, told_entries}
use Rattle.record_codec.proofs.Several.{each_length, each_of, sized_code}
use Rattle.record_codec.proofs.Fields.{entry_of_own, least_le_greatest, own_entry}
use Rattle.record_codec.proofs.Places.{fails_same, fails_size, fails_items, ReadPast-none, ReadPast-push, ReadPast-trans}
use Rattle.record_codec.proofs.Rising.{AreRising, HasRoom, Lead, lead_all, lead_push, lead_room, other_made, other_within, rising_apart, rising_fails, rising_higher, rising_length, rising_lower, rising_made}

-- ---- which entries are told

-- a number is passed over: the own one, or a zero
pub told_past : (own i n : ℕ) (ns : List ℕ) → (i ≡ own) ⊎ (n ≡ 0) → told_entries own i (n ∷ ns) ≡ told_entries own (suc i) ns
told_past own i n ns (inl same) =
    ap (λ (b : Bool). cond (b || eqb n 0) (told_entries own (suc i) ns) (record { host = i; count = n } ∷ told_entries own (suc i) ns)) (eq-eqb i own same)
told_past own i n ns (inr none) = elim (cases_eq i own) [
  | inl same ↦ ap (λ (b : Bool). cond (b || eqb n 0) (told_entries own (suc i) ns) (record { host = i; count = n } ∷ told_entries own (suc i) ns)) (eq-eqb i own same)
  | inr other ↦
      ap (λ (b : Bool). cond (b || eqb n 0) (told_entries own (suc i) ns) (record { host = i; count = n } ∷ told_entries own (suc i) ns)) (ne_eqb i own other)
      ∙ ap (λ (b : Bool). cond b (told_entries own (suc i) ns) (record { host = i; count = n } ∷ told_entries own (suc i) ns)) (eq-eqb n 0 none)
]

-- a number is told
pub told_here : (own i n : ℕ) (ns : List ℕ) → (i ≡ own → ⊥) → (n ≡ 0 → ⊥) → told_entries own i (n ∷ ns) ≡ record { host = i; count = n } ∷ told_entries own (suc i) ns
told_here own i n ns other some =
    ap (λ (b : Bool). cond (b || eqb n 0) (told_entries own (suc i) ns) (record { host = i; count = n } ∷ told_entries own (suc i) ns)) (ne_eqb i own other)
    ∙ ap (λ (b : Bool). cond b (told_entries own (suc i) ns) (record { host = i; count = n } ∷ told_entries own (suc i) ns)) (ne_eqb n 0 some)

pub told_cases : (own i n : ℕ) → ((i ≡ own) ⊎ (n ≡ 0)) ⊎ ((i ≡ own → ⊥) × (n ≡ 0 → ⊥))
told_cases own i n = elim (cases_eq i own) [
  | inl same ↦ inl (inl same)
  | inr other ↦ elim (cases_eq n 0) [
    | inl none ↦ inl (inr none)
    | inr some ↦ inr (other, some)
  ]
]

pub told_le : (own i : ℕ) (ns : List ℕ) → length (told_entries own i ns) ≤ length ns
told_le own i [] = omega arith
told_le own i (n ∷ ns) = elim (told_cases own i n) [
  | inl past ↦ omega (arith, ap (λ (es : List Entry). length es) (told_past own i n ns past), told_le own (suc i) ns)
  | inr here ↦ omega (arith, ap (λ (es : List Entry). length es) (told_here own i n ns here.0 here.1), told_le own (suc i) ns)
]

-- the own number is among them, so one is not told
pub told_less : (own i : ℕ) (ns : List ℕ) → i ≤ own → own < i + length ns → length (told_entries own i ns) + 1 ≤ length ns
told_less own i [] from within = absurd (omega arith)
told_less own i (n ∷ ns) from within = elim (cases_eq i own) [
  | inl same ↦ omega (arith, ap (λ (es : List Entry). length es) (told_past own i n ns (inl same)), told_le own (suc i) ns)
  | inr other ↦
      let rest = told_less own (suc i) ns (omega (arith, other)) (omega arith) in
      elim (told_cases own i n) [
        | inl past ↦ omega (arith, ap (λ (es : List Entry). length es) (told_past own i n ns past), rest)
        | inr here ↦ omega (arith, ap (λ (es : List Entry). length es) (told_here own i n ns here.0 here.1), rest)
      ]
]

-- ---- valid dependencies tell entries that rise, and each such list is told by some

told_next : (own : Entry) (dcs i n : ℕ) (ns : List ℕ) → FitsOwn (Some own) → own.host < dcs → i + suc (length ns) ≡ dcs → (i ≡ own.host → ⊥) → (n ≡ 0 → ⊥) → IsEntry (Some own) i n
    → IsToldNext own.host dcs i (length (told_entries own.host (suc i) ns)) (record { host = i; count = n })
told_next own dcs i n ns fits inside size other some entry = record {
  host = record {
    least = omega arith;
    other = other;
    below = λ h. let less = told_less own.host (suc i) ns (omega arith) (omega arith) in omega arith;
    above = λ h. let le = told_le own.host (suc i) ns in omega arith;
  };
  count = record { least = omega (arith, some); greatest = let top = (least_le_greatest (Some own) i fits).1 in omega (arith, entry.within.greatest, top) };
}

pub told_rises : (own : Entry) (dcs i m : ℕ) (ns : List ℕ) → FitsOwn (Some own) → own.host < dcs → i + m ≡ dcs → AreEach (IsEntry (Some own)) i m ns
    → AreRising own.host dcs i (length (told_entries own.host i ns)) (told_entries own.host i ns)
told_rises own dcs i m [] fits inside size each = refl
told_rises own dcs i zero (n ∷ ns) fits inside size each = absurd each
told_rises own dcs i (suc m) (n ∷ ns) fits inside size each =
    let rest = told_rises own dcs (suc i) m ns fits inside (omega arith) each.1 in
    let R : List Entry → Type 0 = λ es. AreRising own.host dcs i (length es) es in
    let many : length ns ≡ m = each_length (IsEntry (Some own)) (suc i) m ns each.1 in
    elim (told_cases own.host i n) [
      | inl past ↦ subst R (sym (told_past own.host i n ns past)) (rising_lower own.host dcs i (length (told_entries own.host (suc i) ns)) (told_entries own.host (suc i) ns) rest)
      | inr here ↦ subst R (sym (told_here own.host i n ns here.0 here.1)) (told_next own dcs i n ns fits inside (omega arith) here.0 here.1 each.0, rest)
    ]

abbrev pub IsToldBy : (own : Entry) (i m : ℕ) → List Entry → Type 0
IsToldBy own i m es = (ns : List ℕ) × AreEach (IsEntry (Some own)) i m ns × (told_entries own.host i ns ≡ es)

put_own : (own : Entry) (i m : ℕ) (es : List Entry) → FitsOwn (Some own) → i ≡ own.host → IsToldBy own (suc i) m es → IsToldBy own i (suc m) es
put_own own i m es fits same rest = (
  own.count ∷ rest.0,
  (entry_of_own own i own.count (λ h. refl) fits, rest.1),
  told_past own.host i own.count rest.0 (inl same) ∙ rest.2,
)

put_zero : (own : Entry) (i m : ℕ) (es : List Entry) → (i ≡ own.host → ⊥) → IsToldBy own (suc i) m es → IsToldBy own i (suc m) es
put_zero own i m es other rest = (
  0 ∷ rest.0,
  (entry_of_own own i 0 (λ h. absurd (other h)) (omega arith), rest.1),
  told_past own.host i 0 rest.0 (inr refl) ∙ rest.2,
)

put_past : (own : Entry) (i m : ℕ) (es : List Entry) → FitsOwn (Some own) → IsToldBy own (suc i) m es → IsToldBy own i (suc m) es
put_past own i m es fits rest = elim (cases_eq i own.host) [
  | inl same ↦ put_own own i m es fits same rest
  | inr other ↦ put_zero own i m es other rest
]

put_here : (own : Entry) (dcs i m more : ℕ) (e : Entry) (es : List Entry) → e.host ≡ i → IsToldNext own.host dcs i more e → IsToldBy own (suc i) m es → IsToldBy own i (suc m) (e ∷ es)
put_here own dcs i m more e es here is rest =
    let other : i ≡ own.host → ⊥ = λ h. is.host.other (here ∙ h) in
    let head : record { host = i; count = e.count } ≡ e = λ j. record { host = sym here j; count = e.count } in (
      e.count ∷ rest.0,
      (entry_of_own own i e.count (λ h. absurd (other h)) (omega (arith, is.count.greatest)), rest.1),
      told_here own.host i e.count rest.0 other (λ h. omega (arith, h, is.count.least)) ∙ ap₂ (λ (x : Entry) (xs : List Entry). x ∷ xs) head rest.2,
    )

pub told_made : (own : Entry) (dcs i m k : ℕ) (es : List Entry) → FitsOwn (Some own) → i + m ≡ dcs → AreRising own.host dcs i k es → IsToldBy own i m es
told_made own dcs i zero k [] fits size rising = ([], refl, refl)
told_made own dcs i (suc m) k [] fits size rising = put_past own i m [] fits (told_made own dcs (suc i) m k [] fits (omega arith) rising)
told_made own dcs i m zero (e ∷ es) fits size rising = absurd rising
told_made own dcs i zero (suc k) (e ∷ es) fits size rising =
    let within = other_within own.host dcs i k e.host rising.0.host in absurd (omega (arith, rising.0.host.least))
told_made own dcs i (suc m) (suc k) (e ∷ es) fits size rising = elim (cases_eq e.host i) [
  | inl here ↦
      let P : ℕ → Type 0 = λ h. AreRising own.host dcs (suc h) k es in
      put_here own dcs i m k e es here rising.0 (told_made own dcs (suc i) m k es fits (omega arith) (subst P here rising.1))
  | inr there ↦ put_past own i m (e ∷ es) fits (told_made own dcs (suc i) m (suc k) (e ∷ es) fits (omega arith) (rising_higher own.host dcs i (suc k) e es there rising))
]

-- dependencies that tell the same are the same

same_parts : (e f : Entry) (es fs : List Entry) → e ∷ es ≡ f ∷ fs → (e.count ≡ f.count) × (es ≡ fs)
same_parts e f es fs is = let head : e ≡ f = cc in (ap (λ (x : Entry). x.count) head, cc)

above_first : (own dcs i n : ℕ) (e : Entry) (es fs : List Entry) → AreRising own dcs (suc i) n fs → fs ≡ e ∷ es → e.host ≡ i → ⊥
above_first own dcs i n e es [] rising is here = let none : length (e ∷ es) ≡ 0 = ap (λ (xs : List Entry). length xs) (sym is) in omega (arith, none)
above_first own dcs i zero e es (f ∷ fs) rising is here = rising
above_first own dcs i (suc n) e es (f ∷ fs) rising is here =
    let head : f ≡ e = cc in omega (arith, rising.0.host.least, ap (λ (x : Entry). x.host) head)

told_same_more : (own : Entry) (dcs i m x y : ℕ) (xs ys : List ℕ) → FitsOwn (Some own) → own.host < dcs → suc i + m ≡ dcs
    → IsEntry (Some own) i x → IsEntry (Some own) i y → AreEach (IsEntry (Some own)) (suc i) m xs → AreEach (IsEntry (Some own)) (suc i) m ys
    → told_entries own.host i (x ∷ xs) ≡ told_entries own.host i (y ∷ ys)
    → (x ≡ y) × (told_entries own.host (suc i) xs ≡ told_entries own.host (suc i) ys)
told_same_more own dcs i m x y xs ys fits inside size in_x in_y in_xs in_ys is = elim (cases_eq i own.host) [
  | inl same ↦
      let P : ℕ → Type 0 = λ k. IsEntry (Some own) k x in
      let Q : ℕ → Type 0 = λ k. IsEntry (Some own) k y in (
        own_entry own x (subst P same in_x) ∙ sym (own_entry own y (subst Q same in_y)),
        sym (told_past own.host i x xs (inl same)) ∙ is ∙ told_past own.host i y ys (inl same),
      )
  | inr other ↦ elim (cases_eq x 0) [
    | inl x_none ↦ elim (cases_eq y 0) [
      | inl y_none ↦ (x_none ∙ sym y_none, sym (told_past own.host i x xs (inr x_none)) ∙ is ∙ told_past own.host i y ys (inr y_none))
      | inr y_some ↦ absurd (above_first own.host dcs i (length (told_entries own.host (suc i) xs)) (record { host = i; count = y }) (told_entries own.host (suc i) ys) (told_entries own.host (suc i) xs)
          (told_rises own dcs (suc i) m xs fits inside size in_xs) (sym (told_past own.host i x xs (inr x_none)) ∙ is ∙ told_here own.host i y ys other y_some) refl)
    ]
    | inr x_some ↦ elim (cases_eq y 0) [
      | inl y_none ↦ absurd (above_first own.host dcs i (length (told_entries own.host (suc i) ys)) (record { host = i; count = x }) (told_entries own.host (suc i) xs) (told_entries own.host (suc i) ys)
          (told_rises own dcs (suc i) m ys fits inside size in_ys) (sym (told_past own.host i y ys (inr y_none)) ∙ sym is ∙ told_here own.host i x xs other x_some) refl)
      | inr y_some ↦
          let lists : record { host = i; count = x } ∷ told_entries own.host (suc i) xs ≡ record { host = i; count = y } ∷ told_entries own.host (suc i) ys =
          sym (told_here own.host i x xs other x_some) ∙ is ∙ told_here own.host i y ys other y_some in
          same_parts (record { host = i; count = x }) (record { host = i; count = y }) (told_entries own.host (suc i) xs) (told_entries own.host (suc i) ys) lists
    ]
  ]
]

pub told_same : (own : Entry) (dcs i m : ℕ) (xs ys : List ℕ) → FitsOwn (Some own) → own.host < dcs → i + m ≡ dcs
    → AreEach (IsEntry (Some own)) i m xs → AreEach (IsEntry (Some own)) i m ys → told_entries own.host i xs ≡ told_entries own.host i ys → xs ≡ ys
told_same own dcs i m [] [] fits inside size in_xs in_ys is = refl
told_same own dcs i zero [] (y ∷ ys) fits inside size in_xs in_ys is = absurd in_ys
told_same own dcs i (suc m) [] (y ∷ ys) fits inside size in_xs in_ys is = absurd (omega (arith, in_xs))
told_same own dcs i zero (x ∷ xs) ys fits inside size in_xs in_ys is = absurd in_xs
told_same own dcs i (suc m) (x ∷ xs) [] fits inside size in_xs in_ys is = absurd (omega (arith, in_ys))
told_same own dcs i (suc m) (x ∷ xs) (y ∷ ys) fits inside size in_xs in_ys is =
    let both = told_same_more own dcs i m x y xs ys fits inside (omega arith) in_xs.0 in_ys.0 in_xs.1 in_ys.1 is in
    ap₂ (λ (z : ℕ) (zs : List ℕ). z ∷ zs) both.0 (told_same own dcs (suc i) m xs ys fits inside (omega arith) in_xs.1 in_ys.1 both.1)

-- ---- dependencies of which so many are told

told_there : (own : Entry) (dcs n : ℕ) (w : List ℕ) → FitsOwn (Some own) → IsWord (AreRising own.host dcs 0 n) (flat_map entry_bytes) w → IsWord (AreTold own dcs n) (told_bytes own.host) w
told_there own dcs n w fits word =
    let dep = told_made own dcs 0 dcs n word.value fits (omega arith) word.allowed in
    record {
      value = dep.0;
      allowed = record { entries = dep.1; size = ap (λ (es : List Entry). length es) dep.2 ∙ rising_length own.host dcs 0 n word.value word.allowed };
      spelled = word.spelled ∙ ap (λ (es : List Entry). flat_map entry_bytes es) (sym dep.2);
    }

rises_of : (own : Entry) (dcs n : ℕ) (dep : List ℕ) → FitsOwn (Some own) → own.host < dcs → AreTold own dcs n dep → AreRising own.host dcs 0 n (told_entries own.host 0 dep)
rises_of own dcs n dep fits inside told =
    let P : ℕ → Type 0 = λ k. AreRising own.host dcs 0 k (told_entries own.host 0 dep) in
    subst P told.size (told_rises own dcs 0 dcs dep fits inside (omega arith) told.entries)

told_back : (own : Entry) (dcs n : ℕ) (w : List ℕ) → FitsOwn (Some own) → own.host < dcs → IsWord (AreTold own dcs n) (told_bytes own.host) w → IsWord (AreRising own.host dcs 0 n) (flat_map entry_bytes) w
told_back own dcs n w fits inside word = record {
  value = told_entries own.host 0 word.value;
  allowed = rises_of own dcs n word.value fits inside word.allowed;
  spelled = word.spelled;
}

told_apart : (own : Entry) (dcs n : ℕ) (x y : List ℕ) → FitsOwn (Some own) → own.host < dcs → dcs ≤ 8 → AreTold own dcs n x → AreTold own dcs n y
    → (x ≡ y) ⊎ Differ (told_bytes own.host x) (told_bytes own.host y)
told_apart own dcs n x y fits inside small in_x in_y =
    elim (rising_apart own.host dcs 0 n (told_entries own.host 0 x) (told_entries own.host 0 y) small (rises_of own dcs n x fits inside in_x) (rises_of own dcs n y fits inside in_y)) [
      | inl same ↦ inl (told_same own dcs 0 dcs x y fits inside (omega arith) in_x.entries in_y.entries same)
      | inr differ ↦ inr differ
    ]

told_code : (own : Entry) (dcs n : ℕ) → FitsOwn (Some own) → own.host < dcs → dcs ≤ 8 → IsCode (AreTold own dcs n) (told_bytes own.host)
told_code own dcs n fits inside small = record { apart = λ x y in_x in_y. told_apart own dcs n x y fits inside small in_x in_y }

pub room_for : (own dcs n : ℕ) → n < dcs → HasRoom own dcs 0 n
room_for own dcs n few = record { below = λ h. omega arith; above = λ h. omega arith }

so_many_told : (own : Entry) (dcs n : ℕ) → FitsOwn (Some own) → n < dcs → (dep : List ℕ) × AreTold own dcs n dep
so_many_told own dcs n fits few =
    let es = rising_made own.host dcs 0 n (room_for own.host dcs n few) in
    let dep = told_made own dcs 0 dcs n es.0 fits (omega arith) es.1 in
    (dep.0, record { entries = dep.1; size = ap (λ (xs : List Entry). length xs) dep.2 ∙ rising_length own.host dcs 0 n es.0 es.1 })

-- ---- these behind their number

abbrev told_size : ℕ → List ℕ → ℕ
told_size own dep = length (told_entries own 0 dep)

tells_size : (own : Entry) (dcs n : ℕ) (dep : List ℕ) → AreTold own dcs n dep → told_size own.host dep ≡ n
tells_size own dcs n dep told = told.size

sparse_there : (own : Entry) (dcs : ℕ) (w : List ℕ) → IsWord (IsSized 0 (dcs - 1) (told_size own.host) (AreTold own dcs)) (sized 1 (told_size own.host) (told_bytes own.host)) w
    → IsWord (AreEntries (Some own) dcs) (sparse_bytes own.host) w
sparse_there own dcs w word = record { value = word.value; allowed = word.allowed.items.entries; spelled = word.spelled }

sparse_sized : (own : Entry) (dcs : ℕ) (dep : List ℕ) → own.host < dcs → AreEntries (Some own) dcs dep → IsSized 0 (dcs - 1) (told_size own.host) (AreTold own dcs) dep
sparse_sized own dcs dep inside entries =
    let size : length dep ≡ dcs = each_length (IsEntry (Some own)) 0 dcs dep entries in
    let less = told_less own.host 0 dep (omega arith) (omega arith) in
    record { within = record { least = omega arith; greatest = omega arith }; items = record { entries = entries; size = refl } }

sparse_back : (own : Entry) (dcs : ℕ) (w : List ℕ) → own.host < dcs → IsWord (AreEntries (Some own) dcs) (sparse_bytes own.host) w
    → IsWord (IsSized 0 (dcs - 1) (told_size own.host) (AreTold own dcs)) (sized 1 (told_size own.host) (told_bytes own.host)) w
sparse_back own dcs w inside word = record { value = word.value; allowed = sparse_sized own dcs word.value inside word.allowed; spelled = word.spelled }

pub sparse_code : (own : Entry) (dcs : ℕ) → FitsOwn (Some own) → own.host < dcs → dcs ≤ 8 → IsCode (AreEntries (Some own) dcs) (sparse_bytes own.host)
sparse_code own dcs fits inside small =
    let code : IsCode (IsSized 0 (dcs - 1) (told_size own.host) (AreTold own dcs)) (sized 1 (told_size own.host) (told_bytes own.host)) =
    sized_code 1 0 (dcs - 1) (told_size own.host) (AreTold own dcs) (told_bytes own.host) (omega arith) (λ n. told_code own dcs n fits inside small) in
    record { apart = λ x y in_x in_y. code.apart x y (sparse_sized own dcs x inside in_x) (sparse_sized own dcs y inside in_y) }

pub told_count_fails : (own : Entry) (dcs : ℕ) (p : ReaderState) → FitsOwn (Some own) → own.host < dcs → (f : DecodeFault) → FailsAt (IsWord (IsBetween 0 (dcs - 1)) (big_bytes 1)) p f
    → FailsAt (IsWord (AreEntries (Some own) dcs) (sparse_bytes own.host)) p f
told_count_fails own dcs p fits inside f h =
    fails_same p (sparse_there own dcs) (λ w. sparse_back own dcs w inside) f
    (fails_size 1 0 (dcs - 1) (told_size own.host) (AreTold own dcs) (told_bytes own.host) p (tells_size own dcs) (λ n within. so_many_told own dcs n fits (omega (arith, within.greatest))) f h)

pub told_each_fails : (own : Entry) (dcs : ℕ) {p q : ReaderState} {n : ℕ} → own.host < dcs → dcs ≤ 8 → IsBetween 0 (dcs - 1) n → ReadPast p q (big_bytes 1 n) → (f : DecodeFault)
    → FailsAt (IsWord (AreTold own dcs n) (told_bytes own.host)) q f → FailsAt (IsWord (AreEntries (Some own) dcs) (sparse_bytes own.host)) p f
told_each_fails own dcs {p} inside small within took f h =
    fails_same p (sparse_there own dcs) (λ w. sparse_back own dcs w inside) f
    (fails_items 1 0 (dcs - 1) (told_size own.host) (AreTold own dcs) (told_bytes own.host) (tells_size own dcs) (omega arith) within took f h)

pub sparse_took : (own : Entry) (dcs n : ℕ) (dep : List ℕ) {p q r : ReaderState} → AreTold own dcs n dep → ReadPast p q (big_bytes 1 n) → ReadPast q r (told_bytes own.host dep) → ReadPast p r (sparse_bytes own.host dep)
sparse_took own dcs n dep {p} {q} told before now =
    let P : ℕ → Type 0 = λ k. ReadPast p q (big_bytes 1 k) in
    ReadPast-trans (subst P (sym told.size) before) now

-- ---- entries are put in, one after the other

-- from the datacentre on there are zeros but for the own number
pub record IsClear (own i : ℕ) (next : ℕ) (ns : List ℕ) : Type 0 where
  pub zeros : (k : ℕ) → next ≤ k → k < length ns → (i + k ≡ own → ⊥) → get_or ns k 0 ≡ 0

clear_rest : (own i n next : ℕ) (ns : List ℕ) → IsClear own i (suc next) (n ∷ ns) → IsClear own (suc i) next ns
clear_rest own i n next ns clear = record { zeros = λ k from to other. clear.zeros (suc k) (omega arith) (omega arith) (λ h. other (omega (arith, h))) }

clear_all : (own i n : ℕ) (ns : List ℕ) → IsClear own i 0 (n ∷ ns) → IsClear own (suc i) 0 ns
clear_all own i n ns clear = record { zeros = λ k from to other. clear.zeros (suc k) (omega arith) (omega arith) (λ h. other (omega (arith, h))) }

pub told_none : (own i : ℕ) (ns : List ℕ) → IsClear own i 0 ns → told_entries own i ns ≡ []
told_none own i [] clear = refl
told_none own i (n ∷ ns) clear = elim (cases_eq i own) [
  | inl same ↦ told_past own i n ns (inl same) ∙ told_none own (suc i) ns (clear_all own i n ns clear)
  | inr other ↦ told_past own i n ns (inr (clear.zeros 0 (omega arith) (omega arith) (λ h. other (omega (arith, h))))) ∙ told_none own (suc i) ns (clear_all own i n ns clear)
]

abbrev entry : ℕ → ℕ → Entry
entry host count = record { host = host; count = count }

pub told_put : (own i j c : ℕ) (ns : List ℕ) → j < length ns → (i + j ≡ own → ⊥) → (c ≡ 0 → ⊥) → IsClear own i j ns
    → told_entries own i (set ns j c) ≡ told_entries own i ns ++ record { host = i + j; count = c } ∷ []
told_put own i j c [] inside other some clear = absurd (omega arith)
told_put own i zero c (n ∷ ns) inside other some clear =
    let rest : told_entries own (suc i) ns ≡ [] = told_none own (suc i) ns (clear_all own i n ns clear) in
    let none : n ≡ 0 = clear.zeros 0 (omega arith) (omega arith) other in
    let at : entry i c ≡ entry (i + 0) c = ap (λ (k : ℕ). entry k c) {x = i} {y = i + 0} (omega arith) in
    told_here own i c ns (λ h. other (omega (arith, h))) some ∙ ap₂ (λ (e : Entry) (es : List Entry). e ∷ es) at rest
    ∙ ap (λ (es : List Entry). es ++ record { host = i + 0; count = c } ∷ []) (sym (told_past own i n ns (inr none) ∙ rest))
told_put own i (suc j) c (n ∷ ns) inside other some clear =
    let at : entry (suc i + j) c ≡ entry (i + suc j) c = ap (λ (k : ℕ). entry k c) {x = suc i + j} {y = i + suc j} (omega arith) in
    let more : told_entries own (suc i) (set ns j c) ≡ told_entries own (suc i) ns ++ record { host = i + suc j; count = c } ∷ [] =
    told_put own (suc i) j c ns (omega arith) (λ h. other (omega (arith, h))) some (clear_rest own i n j ns clear)
    ∙ ap (λ (e : Entry). told_entries own (suc i) ns ++ e ∷ []) at in
    elim (told_cases own i n) [
      | inl past ↦ told_past own i n (set ns j c) past ∙ more ∙ ap (λ (es : List Entry). es ++ record { host = i + suc j; count = c } ∷ []) (sym (told_past own i n ns past))
      | inr here ↦
          told_here own i n (set ns j c) here.0 here.1 ∙ ap (λ (es : List Entry). record { host = i; count = n } ∷ es) more
          ∙ ap (λ (es : List Entry). es ++ record { host = i + suc j; count = c } ∷ []) (sym (told_here own i n ns here.0 here.1))
    ]

each_set : {X : Type 0} (A : ℕ → X → Type 0) (i n j : ℕ) (xs : List X) (x : X) → AreEach A i n xs → A (i + j) x → AreEach A i n (set xs j x)
each_set A i n j [] x each is = each
each_set A i zero j (y ∷ ys) x each is = absurd each
each_set {X} A i (suc n) zero (y ∷ ys) x each is = let P : ℕ → Type 0 = λ k. A k x in (subst P {x = i + 0} {y = i} (omega arith) is, each.1)
each_set {X} A i (suc n) (suc j) (y ∷ ys) x each is =
    let P : ℕ → Type 0 = λ k. A k x in (each.0, each_set A (suc i) n j ys x each.1 (subst P {x = i + suc j} {y = suc i + j} (omega arith) is))

abbrev pub zeros : ℕ → List ℕ
zeros n = replicate n 0

-- what the loop keeps
pub record IsTelling (own : Entry) (dcs count told next : ℕ) (dep : List ℕ) (p q : ReaderState) : Type 0 where
  pub entries : AreEntries (Some own) dcs dep
  pub clear : IsClear own.host 0 next dep
  pub lead : Lead own.host dcs 0 count (told_entries own.host 0 dep) next (count - told)
  pub took : ReadPast p q (told_bytes own.host dep)

alone_at : (own : Entry) (dcs k d : ℕ) → k < dcs → FitsOwn (Some own) → IsEntry (Some own) k (get_or (set (zeros dcs) own.host own.count) k d)
alone_at own dcs k d within fits =
    let size : length (zeros dcs) ≡ dcs = length-replicate dcs 0 in
    elim (cases_eq k own.host) [
      | inl same ↦
          let is : get_or (set (zeros dcs) own.host own.count) k d ≡ own.count =
          ap (λ (j : ℕ). get_or (set (zeros dcs) own.host own.count) j d) same ∙ get_or-set_same (zeros dcs) own.host own.count d (omega (arith, size, same)) in
          entry_of_own own k (get_or (set (zeros dcs) own.host own.count) k d) (λ h. is) (omega (arith, is, fits))
      | inr other ↦
          let is : get_or (set (zeros dcs) own.host own.count) k d ≡ 0 = get_or-set_other (zeros dcs) own.host k own.count d other ∙ get_or-replicate dcs k 0 d within in
          entry_of_own own k (get_or (set (zeros dcs) own.host own.count) k d) (λ h. absurd (other h)) (omega (arith, is))
    ]

alone_entries : (own : Entry) (dcs : ℕ) → FitsOwn (Some own) → AreEntries (Some own) dcs (set (zeros dcs) own.host own.count)
alone_entries own dcs fits =
    each_of (IsEntry (Some own)) 0 dcs (set (zeros dcs) own.host own.count) (length-set (zeros dcs) own.host own.count ∙ length-replicate dcs 0) (λ k d within.
    let P : ℕ → Type 0 = λ j. IsEntry (Some own) j (get_or (set (zeros dcs) own.host own.count) k d) in
    subst P {x = k} {y = 0 + k} (omega arith) (alone_at own dcs k d within fits))

alone_clear : (own : Entry) (dcs : ℕ) → IsClear own.host 0 0 (set (zeros dcs) own.host own.count)
alone_clear own dcs = record {
  zeros = λ k from within other.
      let size : length (set (zeros dcs) own.host own.count) ≡ dcs = length-set (zeros dcs) own.host own.count ∙ length-replicate dcs 0 in
      get_or-set_other (zeros dcs) own.host k own.count 0 (λ h. other (omega (arith, h))) ∙ get_or-replicate dcs k 0 0 (omega arith);
}

pub telling_start : (own : Entry) (dcs count : ℕ) (dep : List ℕ) (p : ReaderState) → FitsOwn (Some own) → dep ≡ set (zeros dcs) own.host own.count → IsTelling own dcs count 0 0 dep p p
telling_start own dcs count dep p fits is =
    let none : told_entries own.host 0 (set (zeros dcs) own.host own.count) ≡ [] = told_none own.host 0 (set (zeros dcs) own.host own.count) (alone_clear own dcs) in
    let L : List Entry → Type 0 = λ es. Lead own.host dcs 0 count es 0 (count - 0) in
    let T : List Entry → Type 0 = λ es. ReadPast p p (flat_map entry_bytes es) in
    let P : List ℕ → Type 0 = λ ns. IsTelling own dcs count 0 0 ns p p in
    subst P (sym is) (record {
      entries = alone_entries own dcs fits;
      clear = alone_clear own dcs;
      lead = subst L (sym none) (refl, omega arith);
      took = subst T (sym none) (ReadPast-none p);
    })

telling_lead : (own : Entry) (dcs count told next more : ℕ) (dep : List ℕ) {p q : ReaderState} → told < count → more ≡ count - 1 - told → IsTelling own dcs count told next dep p q
    → Lead own.host dcs 0 count (told_entries own.host 0 dep) next (suc more)
telling_lead own dcs count told next more dep within is telling =
    let P : ℕ → Type 0 = λ k. Lead own.host dcs 0 count (told_entries own.host 0 dep) next k in
    subst P {x = count - told} {y = suc more} (omega arith) telling.lead

-- there is another datacentre for the next entry
pub telling_room : (own : Entry) (dcs count told next more : ℕ) (dep : List ℕ) {p q : ReaderState} → count < dcs → told < count → more ≡ count - 1 - told → IsTelling own dcs count told next dep p q
    → (host : ℕ) × IsOther own.host dcs next more host
telling_room own dcs count told next more dep few within is telling =
    other_made own.host dcs next more
    (lead_room own.host dcs 0 count (told_entries own.host 0 dep) next (suc more) (room_for own.host dcs count few) (telling_lead own dcs count told next more dep within is telling))

-- one more entry is put in
pub telling_more : (own : Entry) (dcs count told next more host : ℕ) (dep new : List ℕ) (e : Entry) {p q r : ReaderState} → told < count → more ≡ count - 1 - told → host ≡ e.host → new ≡ set dep host e.count
    → IsTelling own dcs count told next dep p q → IsToldNext own.host dcs next more e → ReadPast q r (entry_bytes e) → IsTelling own dcs count (told + 1) (e.host + 1) new p r
telling_more own dcs count told next more host dep new e {p} {q} {r} within is at put telling entry took =
    let size : length dep ≡ dcs = each_length (IsEntry (Some own)) 0 dcs dep telling.entries in
    let inside : e.host < length dep = let h = other_within own.host dcs next more e.host entry.host in omega arith in
    let other : 0 + e.host ≡ own.host → ⊥ = λ h. entry.host.other (omega (arith, h)) in
    let clear : IsClear own.host 0 e.host dep = record { zeros = λ k from to apart. telling.clear.zeros k (omega (arith, entry.host.least)) to apart } in
    let put_in : told_entries own.host 0 (set dep e.host e.count) ≡ told_entries own.host 0 dep ++ e ∷ [] =
    told_put own.host 0 e.host e.count dep inside other (λ h. omega (arith, h, entry.count.least)) clear
    ∙ ap (λ (x : Entry). told_entries own.host 0 dep ++ x ∷ []) (ap (λ (k : ℕ). record { host = k; count = e.count }) {x = 0 + e.host} {y = e.host} (omega arith)) in
    let L : List Entry → Type 0 = λ es. Lead own.host dcs 0 count es (suc e.host) more in
    let lead : Lead own.host dcs 0 count (told_entries own.host 0 (set dep e.host e.count)) (suc e.host) more =
    subst L (sym put_in) (lead_push own.host dcs 0 count (told_entries own.host 0 dep) next more e (telling_lead own dcs count told next more dep within is telling) entry) in
    let M : ℕ → Type 0 = λ k. Lead own.host dcs 0 count (told_entries own.host 0 (set dep e.host e.count)) k more in
    let N : ℕ → Type 0 = λ k. Lead own.host dcs 0 count (told_entries own.host 0 (set dep e.host e.count)) (e.host + 1) k in
    let T : List Entry → Type 0 = λ es. ReadPast p r (flat_map entry_bytes es) in
    let E : ℕ → Type 0 = λ k. IsEntry (Some own) k e.count in
    let P : List ℕ → Type 0 = λ ns. IsTelling own dcs count (told + 1) (e.host + 1) ns p r in
    let here : new ≡ set dep e.host e.count = put ∙ ap (λ (k : ℕ). set dep k e.count) at in
    subst P (sym here) (record {
      entries = each_set (IsEntry (Some own)) 0 dcs e.host dep e.count telling.entries
          (subst E {x = e.host} {y = 0 + e.host} (omega arith) (entry_of_own own e.host e.count (λ h. absurd (entry.host.other h)) (omega (arith, entry.count.greatest))));
      clear = record { zeros = λ k from to apart. get_or-set_other dep e.host k e.count 0 (λ h. omega (arith, h)) ∙ telling.clear.zeros k (omega (arith, entry.host.least)) (omega (arith, length-set dep e.host e.count)) apart };
      lead = subst N {x = more} {y = count - (told + 1)} (omega arith) (subst M {x = suc e.host} {y = e.host + 1} (omega arith) lead);
      took = subst T (sym put_in) (ReadPast-push entry_bytes (told_entries own.host 0 dep) e telling.took took);
    })

-- the entry is inside
pub telling_inside : (own : Entry) (dcs count told next more host : ℕ) (dep : List ℕ) (e : Entry) {p q : ReaderState} → IsTelling own dcs count told next dep p q
    → IsToldNext own.host dcs next more e → host ≡ e.host → host < length dep
telling_inside own dcs count told next more host dep e telling entry at =
    omega (arith, each_length (IsEntry (Some own)) 0 dcs dep telling.entries, other_within own.host dcs next more e.host entry.host)

-- all were put in
pub telling_all : (own : Entry) (dcs count told next : ℕ) (dep : List ℕ) {p q : ReaderState} → count ≤ told → IsTelling own dcs count told next dep p q → AreTold own dcs count dep
telling_all own dcs count told next dep done telling =
    let P : ℕ → Type 0 = λ k. Lead own.host dcs 0 count (told_entries own.host 0 dep) next k in
    record {
      entries = telling.entries;
      size = rising_length own.host dcs 0 count (told_entries own.host 0 dep)
          (lead_all own.host dcs 0 count (told_entries own.host 0 dep) next (subst P {x = count - told} {y = 0} (omega arith) telling.lead));
    }

-- the next entry is missed
pub telling_fails : (own : Entry) (dcs count told next more : ℕ) (dep : List ℕ) {p q : ReaderState} → FitsOwn (Some own) → own.host < dcs → dcs ≤ 8 → told < count → more ≡ count - 1 - told
    → IsTelling own dcs count told next dep p q → (f : DecodeFault)
    → FailsAt (IsWord (IsToldNext own.host dcs next more) entry_bytes) q f → FailsAt (IsWord (AreTold own dcs count) (told_bytes own.host)) p f
telling_fails own dcs count told next more dep {p} fits inside small within is telling f h =
    fails_same p (λ w. told_there own dcs count w fits) (λ w. told_back own dcs count w fits inside) f
    (rising_fails own.host dcs count (told_entries own.host 0 dep) next more small (telling_lead own dcs count told next more dep within is telling) telling.took f h)

-- ---- one number more

abbrev is_told : (own i n : ℕ) → Bool
is_told own i n = not (eqb i own || eqb n 0)

past_untold : (own i n : ℕ) → (i ≡ own) ⊎ (n ≡ 0) → is_told own i n ≡ false
past_untold own i n (inl same) = ap (λ (b : Bool). not (b || eqb n 0)) (eq-eqb i own same)
past_untold own i n (inr none) = elim (cases_eq i own) [
  | inl same ↦ ap (λ (b : Bool). not (b || eqb n 0)) (eq-eqb i own same)
  | inr other ↦ ap (λ (b : Bool). not (b || eqb n 0)) (ne_eqb i own other) ∙ ap not (eq-eqb n 0 none)
]

here_told : (own i n : ℕ) → (i ≡ own → ⊥) → (n ≡ 0 → ⊥) → is_told own i n ≡ true
here_told own i n other some = ap (λ (b : Bool). not (b || eqb n 0)) (ne_eqb i own other) ∙ ap not (ne_eqb n 0 some)

-- the test says which
tested : (own i n : ℕ) (b : Bool) → b ≡ is_told own i n → ((b ≡ true) × (i ≡ own → ⊥) × (n ≡ 0 → ⊥)) ⊎ ((b ≡ false) × ((i ≡ own) ⊎ (n ≡ 0)))
tested own i n b is = elim (told_cases own i n) [
  | inl past ↦ inr (is ∙ past_untold own i n past, past)
  | inr here ↦ inl (is ∙ here_told own i n here.0 here.1, here.0, here.1)
]

last_past : (own i n : ℕ) (ns : List ℕ) → (i + length ns ≡ own) ⊎ (n ≡ 0) → told_entries own i (ns ++ n ∷ []) ≡ told_entries own i ns
last_past own i n [] past = told_past own i n [] (elim past [ inl same ↦ inl (omega (arith, same)) | inr none ↦ inr none ])
last_past own i n (x ∷ xs) past =
    let rest : told_entries own (suc i) (xs ++ n ∷ []) ≡ told_entries own (suc i) xs = last_past own (suc i) n xs (elim past [ inl same ↦ inl (omega (arith, same)) | inr none ↦ inr none ]) in
    elim (told_cases own i x) [
      | inl skipped ↦ told_past own i x (xs ++ n ∷ []) skipped ∙ rest ∙ sym (told_past own i x xs skipped)
      | inr here ↦ told_here own i x (xs ++ n ∷ []) here.0 here.1 ∙ ap (λ (es : List Entry). record { host = i; count = x } ∷ es) rest ∙ sym (told_here own i x xs here.0 here.1)
    ]

last_here : (own i at n : ℕ) (ns : List ℕ) → i + length ns ≡ at → (at ≡ own → ⊥) → (n ≡ 0 → ⊥) → told_entries own i (ns ++ n ∷ []) ≡ told_entries own i ns ++ record { host = at; count = n } ∷ []
last_here own i at n [] place other some =
    told_here own i n [] (λ h. other (omega (arith, h, place))) some ∙ ap (λ (k : ℕ). record { host = k; count = n } ∷ []) {x = i} {y = at} (omega (arith, place))
last_here own i at n (x ∷ xs) place other some =
    let rest : told_entries own (suc i) (xs ++ n ∷ []) ≡ told_entries own (suc i) xs ++ record { host = at; count = n } ∷ [] = last_here own (suc i) at n xs (omega (arith, place)) other some in
    elim (told_cases own i x) [
      | inl skipped ↦ told_past own i x (xs ++ n ∷ []) skipped ∙ rest ∙ ap (λ (es : List Entry). es ++ record { host = at; count = n } ∷ []) (sym (told_past own i x xs skipped))
      | inr here ↦
          told_here own i x (xs ++ n ∷ []) here.0 here.1 ∙ ap (λ (es : List Entry). record { host = i; count = x } ∷ es) rest
          ∙ ap (λ (es : List Entry). es ++ record { host = at; count = n } ∷ []) (sym (told_here own i x xs here.0 here.1))
    ]

-- the next number is told
pub next_told : (own at host n : ℕ) (dep : List ℕ) (b : Bool) → at < length dep → host ≡ at → n ≡ get_or dep host 0 → b ≡ is_told own at n → b ≡ true
    → told_entries own 0 (take (at + 1) dep) ≡ told_entries own 0 (take at dep) ++ record { host = at; count = n } ∷ []
next_told own at host n dep b inside here is test passed = elim (tested own at n b test) [
  | inl told ↦
      let size : 0 + length (take at dep) ≡ at = omega (arith, length-take-le at dep (omega arith)) in
      let last : take (at + 1) dep ≡ take at dep ++ n ∷ [] = take_more dep at 0 inside ∙ ap (λ (x : ℕ). take at dep ++ x ∷ []) (sym (is ∙ ap (λ (k : ℕ). get_or dep k 0) here)) in
      ap (λ (ns : List ℕ). told_entries own 0 ns) last ∙ last_here own 0 at n (take at dep) size told.1 told.2
  | inr untold ↦ let e : true ≡ false = sym passed ∙ untold.0 in cc
]

-- the next number is passed over
pub next_past : (own at host n : ℕ) (dep : List ℕ) (b : Bool) → at < length dep → host ≡ at → n ≡ get_or dep host 0 → b ≡ is_told own at n → b ≡ false
    → told_entries own 0 (take (at + 1) dep) ≡ told_entries own 0 (take at dep)
next_past own at host n dep b inside here is test failed = elim (tested own at n b test) [
  | inl told ↦ let e : true ≡ false = sym told.0 ∙ failed in cc
  | inr untold ↦
      let size : 0 + length (take at dep) ≡ at = omega (arith, length-take-le at dep (omega arith)) in
      let last : take (at + 1) dep ≡ take at dep ++ n ∷ [] = take_more dep at 0 inside ∙ ap (λ (x : ℕ). take at dep ++ x ∷ []) (sym (is ∙ ap (λ (k : ℕ). get_or dep k 0) here)) in
      ap (λ (ns : List ℕ). told_entries own 0 ns) last ∙ last_past own 0 n (take at dep) (elim untold.1 [ inl same ↦ inl (omega (arith, size, same)) | inr none ↦ inr none ])
]

-- one more is counted
pub counted_more : (es new : List Entry) (e : Entry) (at told now : ℕ) → new ≡ es ++ e ∷ [] → (told ≡ length es) × (told ≤ at) → now ≡ told + 1 → (now ≡ length new) × (now ≤ at + 1)
counted_more es new e at told now is before more = (omega (arith, ap (λ (xs : List Entry). length xs) is, length-append es (e ∷ []), before.0, more), omega (arith, before.1, more))

pub counted_same : (es new : List Entry) (at told now : ℕ) → new ≡ es → (told ≡ length es) × (told ≤ at) → now ≡ told → (now ≡ length new) × (now ≤ at + 1)
counted_same es new at told now is before same = (omega (arith, ap (λ (xs : List Entry). length xs) is, before.0, same), omega (arith, before.1, same))

-- one more is written
pub told_written : (es new : List Entry) (e : Entry) (w u v : List ℕ) → new ≡ es ++ e ∷ [] → u ≡ w ++ flat_map entry_bytes es → v ≡ u ++ entry_bytes e → v ≡ w ++ flat_map entry_bytes new
told_written es new e w u v is before now =
    now ∙ ap (λ (q : List ℕ). q ++ entry_bytes e) before ∙ flat_map_more entry_bytes w es e ∙ ap (λ (xs : List Entry). w ++ flat_map entry_bytes xs) (sym is)

pub past_written : (es new : List Entry) (w u v : List ℕ) → new ≡ es → u ≡ w ++ flat_map entry_bytes es → v ≡ u → v ≡ w ++ flat_map entry_bytes new
past_written es new w u v is before now = now ∙ before ∙ ap (λ (xs : List Entry). w ++ flat_map entry_bytes xs) (sym is)
