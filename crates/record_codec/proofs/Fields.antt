-- The fields of a record: that each can be gone on with, that their words differ, and what is missed in one.
use Rattle.std.proofs.Common.{◌≡◌, ℕ, zero, suc, ◌+◌, ◌-◌, ◌<◌, ◌≤◌, ◌^◌, Bool, true, false, eqb, cond, Option, Some, None, List, [], ◌∷◌, ◌++◌, length, take, set, replicate, refl, ap, ap₂, sym, ◌∙◌, subst, inl, inr, arith}
use Rattle.std.proofs.lemmas.Bool.{cases_eq, eq-eqb, ne_eqb}
use Rattle.std.proofs.lemmas.List.{length-replicate, length-set, get_or-replicate, get_or-set_other, take_all, take_more_set}
use Rattle.std.specs.List.{flat_map}
use Rattle.byteorder.specs.Endian.{big_bytes}
use Rattle.cz_base.specs.Text.{IsName, is_name_byte, is_body_byte}
use Rattle.causal_deps.specs.Counts.{greater, raised_row, row_of, zero_table}
use Rattle.record_codec.specs.declared.fault.DecodeFault.{DecodeFault}
use Rattle.record_codec.specs.declared.reader.Entry.{Entry}
use Rattle.record_codec.specs.Fields.{AreNames, AreEntries, AreRows, FitsOwn, IsEntry, IsShortBody, greatest_entry, least_entry}
use Rattle.record_codec.specs.Parts.{IsWord, IsCode, IsText, IsBetween, AreEach, IsSized, sized, as_it_is}
use Rattle.record_codec.specs.Reading.{ReaderState, ReadPast, FailsAt}
use Rattle.record_codec.specs.Wire.{name_bytes, names_bytes, body_bytes, counts_bytes, table_bytes}
use Rattle.record_codec.proofs.Numbers.{number_code}
use Rattle.record_codec.proofs.Texts.{none_bad, text_code}
use Rattle.record_codec.proofs.Several.{sized_code, each_made, each_code, each_length, each_push}
use Rattle.record_codec.proofs.Places.{fails_same, fails_size, fails_items, fails_each, ReadPast-push, ReadPast-trans}

-- ---- texts behind their length

-- a text of one byte over and over
text_made : (good : ℕ → Bool) (d n : ℕ) → good d ≡ true → IsText good n (replicate n d)
text_made good d n is_good = record {
  size = length-replicate n d;
  passes = none_bad good (replicate n d) (λ i within. ap good (get_or-replicate n i d 0 (omega (arith, length-replicate n d))) ∙ is_good);
}

text_size : (good : ℕ → Bool) (n : ℕ) (text : List ℕ) → IsText good n text → length text ≡ n
text_size good n text h = h.size

IsName_there : (w : List ℕ) → IsWord (IsSized 1 64 length (IsText is_name_byte)) (sized 1 length as_it_is) w → IsWord IsName name_bytes w
IsName_there w word = record {
  value = word.value;
  allowed = record { not_empty = word.allowed.within.least; short = word.allowed.within.greatest; allowed = word.allowed.items.passes };
  spelled = word.spelled;
}

name_sized : (name : List ℕ) → IsName name → IsSized 1 64 length (IsText is_name_byte) name
name_sized name is = record { within = record { least = is.not_empty; greatest = is.short }; items = record { size = refl; passes = is.allowed } }

IsName_back : (w : List ℕ) → IsWord IsName name_bytes w → IsWord (IsSized 1 64 length (IsText is_name_byte)) (sized 1 length as_it_is) w
IsName_back w word = record { value = word.value; allowed = name_sized word.value word.allowed; spelled = word.spelled }

pub name_size_fails : (p : ReaderState) (f : DecodeFault) → FailsAt (IsWord (IsBetween 1 64) (big_bytes 1)) p f → FailsAt (IsWord IsName name_bytes) p f
name_size_fails p f h =
    fails_same p IsName_there IsName_back f
    (fails_size 1 1 64 length (IsText is_name_byte) as_it_is p (text_size is_name_byte) (λ n within. (replicate n 65, text_made is_name_byte 65 n refl)) f h)

pub name_text_fails : {p q : ReaderState} {n : ℕ} → IsBetween 1 64 n → ReadPast p q (big_bytes 1 n) → (f : DecodeFault)
    → FailsAt (IsWord (IsText is_name_byte n) as_it_is) q f → FailsAt (IsWord IsName name_bytes) p f
name_text_fails {p} within took f h =
    fails_same p IsName_there IsName_back f (fails_items 1 1 64 length (IsText is_name_byte) as_it_is (text_size is_name_byte) (omega arith) within took f h)

pub name_code : IsCode IsName name_bytes
name_code =
    let code : IsCode (IsSized 1 64 length (IsText is_name_byte)) (sized 1 length as_it_is) = sized_code 1 1 64 length (IsText is_name_byte) as_it_is (omega arith) (text_code is_name_byte) in
    record { apart = λ x y in_x in_y. code.apart x y (name_sized x in_x) (name_sized y in_y) }

IsShortBody_there : (most : ℕ) → most ≤ 4096 → (w : List ℕ) → IsWord (IsSized 0 most length (IsText is_body_byte)) (sized 2 length as_it_is) w → IsWord (IsShortBody most) body_bytes w
IsShortBody_there most small w word = record {
  value = word.value;
  allowed = record { few = word.allowed.within.greatest; body = record { short = omega (arith, word.allowed.within.greatest, small); allowed = word.allowed.items.passes } };
  spelled = word.spelled;
}

body_sized : (most : ℕ) (body : List ℕ) → IsShortBody most body → IsSized 0 most length (IsText is_body_byte) body
body_sized most body is = record { within = record { least = omega arith; greatest = is.few }; items = record { size = refl; passes = is.body.allowed } }

IsShortBody_back : (most : ℕ) (w : List ℕ) → IsWord (IsShortBody most) body_bytes w → IsWord (IsSized 0 most length (IsText is_body_byte)) (sized 2 length as_it_is) w
IsShortBody_back most w word = record { value = word.value; allowed = body_sized most word.value word.allowed; spelled = word.spelled }

pub body_size_fails : {most : ℕ} (p : ReaderState) → most ≤ 4096 → (f : DecodeFault) → FailsAt (IsWord (IsBetween 0 most) (big_bytes 2)) p f → FailsAt (IsWord (IsShortBody most) body_bytes) p f
body_size_fails {most} p small f h =
    fails_same p (IsShortBody_there most small) (IsShortBody_back most) f
    (fails_size 2 0 most length (IsText is_body_byte) as_it_is p (text_size is_body_byte) (λ n within. (replicate n 65, text_made is_body_byte 65 n refl)) f h)

pub body_text_fails : {most : ℕ} {p q : ReaderState} {n : ℕ} → most ≤ 4096 → IsBetween 0 most n → ReadPast p q (big_bytes 2 n) → (f : DecodeFault)
    → FailsAt (IsWord (IsText is_body_byte n) as_it_is) q f → FailsAt (IsWord (IsShortBody most) body_bytes) p f
body_text_fails {most} {p} small within took f h =
    fails_same p (IsShortBody_there most small) (IsShortBody_back most) f (fails_items 2 0 most length (IsText is_body_byte) as_it_is (text_size is_body_byte) (omega (arith, small)) within took f h)

pub body_code : (most : ℕ) → most ≤ 4096 → IsCode (IsShortBody most) body_bytes
body_code most small =
    let code : IsCode (IsSized 0 most length (IsText is_body_byte)) (sized 2 length as_it_is) = sized_code 2 0 most length (IsText is_body_byte) as_it_is (omega (arith, small)) (text_code is_body_byte) in
    record { apart = λ x y in_x in_y. code.apart x y (body_sized most x in_x) (body_sized most y in_y) }

-- ---- names

name_made : (i : ℕ) → (name : List ℕ) × IsName name
name_made i = (65 ∷ [], record { not_empty = omega arith; short = omega arith; allowed = refl })

pub names_made : (n : ℕ) → (names : List (List ℕ)) × AreNames n names
names_made n = each_made (λ (_ : ℕ). IsName) name_made 0 n

names_size : (n : ℕ) (names : List (List ℕ)) → AreNames n names → length names ≡ n
names_size n names each = each_length (λ (_ : ℕ). IsName) 0 n names each

pub names_count_fails : (low high : ℕ) (p : ReaderState) (f : DecodeFault) → FailsAt (IsWord (IsBetween low high) (big_bytes 1)) p f
    → FailsAt (IsWord (IsSized low high length AreNames) names_bytes) p f
names_count_fails low high p f h = fails_size 1 low high length AreNames (flat_map name_bytes) p names_size (λ n within. names_made n) f h

pub names_each_fails : (low high : ℕ) {p q : ReaderState} {n : ℕ} → high < 256 → IsBetween low high n → ReadPast p q (big_bytes 1 n) → (f : DecodeFault)
    → FailsAt (IsWord (AreNames n) (flat_map name_bytes)) q f → FailsAt (IsWord (IsSized low high length AreNames) names_bytes) p f
names_each_fails low high fits within took f h = fails_items 1 low high length AreNames (flat_map name_bytes) names_size (omega arith) within took f h

pub name_fails : (n m : ℕ) (names : List (List ℕ)) {p q : ReaderState} → AreNames m names → m < n → ReadPast p q (flat_map name_bytes names) → (f : DecodeFault)
    → FailsAt (IsWord IsName name_bytes) q f → FailsAt (IsWord (AreNames n) (flat_map name_bytes)) p f
name_fails n m names each short took f h = fails_each (λ (_ : ℕ). IsName) name_bytes n m names (λ j. name_code) name_made each short took f h

pub names_code : (low high : ℕ) → high < 256 → IsCode (IsSized low high length AreNames) names_bytes
names_code low high fits = sized_code 1 low high length AreNames (flat_map name_bytes) (omega arith) (λ n. each_code (λ (_ : ℕ). IsName) name_bytes 0 n (λ j. name_code))

-- ---- entries and rows

pub least_le_greatest : (own : Option Entry) (i : ℕ) → FitsOwn own → (least_entry own i ≤ greatest_entry own i) × (greatest_entry own i < 2 ^ 48)
least_le_greatest None i fits = (omega arith, omega arith)
least_le_greatest (Some own) i fits = elim (eqb i own.host) as (λ b. (cond b own.count 0 ≤ cond b own.count (2 ^ 48 - 1)) × (cond b own.count (2 ^ 48 - 1) < 2 ^ 48)) [
  | true ↦ (omega arith, fits)
  | false ↦ (omega arith, omega arith)
]

pub own_entry : (own : Entry) (n : ℕ) → IsEntry (Some own) own.host n → n ≡ own.count
own_entry own n entry =
    let here = eq-eqb own.host own.host refl in
    let low : least_entry (Some own) own.host ≡ own.count = ap (λ (b : Bool). cond b own.count 0) here in
    let high : greatest_entry (Some own) own.host ≡ own.count = ap (λ (b : Bool). cond b own.count (2 ^ 48 - 1)) here in
    omega (arith, entry.within.least, entry.within.greatest)

pub entry_of_own : (own : Entry) (k n : ℕ) → (k ≡ own.host → n ≡ own.count) → n < 2 ^ 48 → IsEntry (Some own) k n
entry_of_own own k n is fits = elim (cases_eq k own.host) [
  | inl here ↦
      let test = eq-eqb k own.host here in
      let low : least_entry (Some own) k ≡ own.count = ap (λ (b : Bool). cond b own.count 0) test in
      let high : greatest_entry (Some own) k ≡ own.count = ap (λ (b : Bool). cond b own.count (2 ^ 48 - 1)) test in
      let same : n ≡ own.count = is here in
      record { within = record { least = omega arith; greatest = omega arith } }
  | inr other ↦
      let test = ne_eqb k own.host other in
      let low : least_entry (Some own) k ≡ 0 = ap (λ (b : Bool). cond b own.count 0) test in
      let high : greatest_entry (Some own) k ≡ 2 ^ 48 - 1 = ap (λ (b : Bool). cond b own.count (2 ^ 48 - 1)) test in
      record { within = record { least = omega arith; greatest = omega arith } }
]

entry_made : (own : Option Entry) → FitsOwn own → (i : ℕ) → (n : ℕ) × IsEntry own i n
entry_made own fits i = (least_entry own i, record { within = record { least = omega arith; greatest = (least_le_greatest own i fits).0 } })

entry_code : (own : Option Entry) → FitsOwn own → (i : ℕ) → IsCode (IsEntry own i) (big_bytes 8)
entry_code own fits i =
    let code = number_code 8 (least_entry own i) (greatest_entry own i) (let h = (least_le_greatest own i fits).1 in omega arith) in
    record { apart = λ x y in_x in_y. code.apart x y in_x.within in_y.within }

pub entries_made : (own : Option Entry) (dcs : ℕ) → FitsOwn own → (counts : List ℕ) × AreEntries own dcs counts
entries_made own dcs fits = each_made (IsEntry own) (entry_made own fits) 0 dcs

pub entries_code : (own : Option Entry) (dcs : ℕ) → FitsOwn own → IsCode (AreEntries own dcs) counts_bytes
entries_code own dcs fits = each_code (IsEntry own) (big_bytes 8) 0 dcs (entry_code own fits)

entry_there : (own : Option Entry) (i : ℕ) (w : List ℕ) → IsWord (IsBetween (least_entry own i) (greatest_entry own i)) (big_bytes 8) w → IsWord (IsEntry own i) (big_bytes 8) w
entry_there own i w word = record { value = word.value; allowed = record { within = word.allowed }; spelled = word.spelled }

entry_back : (own : Option Entry) (i : ℕ) (w : List ℕ) → IsWord (IsEntry own i) (big_bytes 8) w → IsWord (IsBetween (least_entry own i) (greatest_entry own i)) (big_bytes 8) w
entry_back own i w word = record { value = word.value; allowed = word.allowed.within; spelled = word.spelled }

pub entry_fails : (own : Option Entry) (dcs i low high : ℕ) (counts : List ℕ) {p q : ReaderState} → FitsOwn own → low ≡ least_entry own i → high ≡ greatest_entry own i
    → AreEntries own i counts → i < dcs → ReadPast p q (counts_bytes counts) → (f : DecodeFault)
    → FailsAt (IsWord (IsBetween low high) (big_bytes 8)) q f → FailsAt (IsWord (AreEntries own dcs) counts_bytes) p f
entry_fails own dcs i low high counts {p} {q} fits is_low is_high each short took f h =
    let P : ℕ → Type 0 = λ n. FailsAt (IsWord (IsBetween n high) (big_bytes 8)) q f in
    let Q : ℕ → Type 0 = λ n. FailsAt (IsWord (IsBetween (least_entry own i) n) (big_bytes 8)) q f in
    fails_each (IsEntry own) (big_bytes 8) dcs i counts (entry_code own fits) (entry_made own fits) each short took f
    (fails_same q (entry_there own i) (entry_back own i) f (subst Q is_high (subst P is_low h)))

pub rows_made : (dcs : ℕ) → (table : List (List ℕ)) × AreRows dcs table
rows_made dcs = each_made (λ (_ : ℕ). AreEntries None dcs) (λ i. entries_made None dcs tt) 0 dcs

pub rows_code : (dcs : ℕ) → IsCode (AreRows dcs) table_bytes
rows_code dcs = each_code (λ (_ : ℕ). AreEntries None dcs) counts_bytes 0 dcs (λ j. entries_code None dcs tt)

pub row_fails : (dcs i : ℕ) (table : List (List ℕ)) {p q : ReaderState} → AreEach (λ (_ : ℕ). AreEntries None dcs) 0 i table → i < dcs → ReadPast p q (table_bytes table) → (f : DecodeFault)
    → FailsAt (IsWord (AreEntries None dcs) counts_bytes) q f → FailsAt (IsWord (AreRows dcs) table_bytes) p f
row_fails dcs i table each short took f h =
    fails_each (λ (_ : ℕ). AreEntries None dcs) counts_bytes dcs i table (λ j. entries_code None dcs tt) (λ j. entries_made None dcs tt) each short took f h

-- one more name
pub names_more : (n : ℕ) (names new : List (List ℕ)) (name : List ℕ) {p q r : ReaderState} → new ≡ names ++ name ∷ [] → AreNames n names → IsName name
    → ReadPast p q (flat_map name_bytes names) → ReadPast q r (name_bytes name) → AreNames (n + 1) new × ReadPast p r (flat_map name_bytes new)
names_more n names new name {p} {q} {r} is each is_name before now =
    let P : List (List ℕ) → Type 0 = λ xs. AreNames (n + 1) xs × ReadPast p r (flat_map name_bytes xs) in
    subst P (sym is) (each_push (λ (_ : ℕ). IsName) 0 n names name each is_name, ReadPast-push name_bytes names name before now)

-- one more entry is written
pub entries_more : (own : Option Entry) (i n low high : ℕ) (counts new : List ℕ) {p q r : ReaderState} → low ≡ least_entry own i → high ≡ greatest_entry own i
    → i < length counts → new ≡ set counts i n → AreEntries own i (take i counts) → IsBetween low high n
    → ReadPast p q (counts_bytes (take i counts)) → ReadPast q r (big_bytes 8 n)
    → AreEntries own (i + 1) (take (i + 1) new) × ReadPast p r (counts_bytes (take (i + 1) new))
entries_more own i n low high counts new {p} {q} {r} is_low is_high inside is each within before now =
    let e : take (i + 1) new ≡ take i counts ++ n ∷ [] = ap (λ (xs : List ℕ). take (i + 1) xs) is ∙ take_more_set counts i n inside in
    let entry : IsEntry own i n = record { within = record { least = omega (arith, within.least); greatest = omega (arith, within.greatest) } } in
    let P : List ℕ → Type 0 = λ xs. AreEntries own (i + 1) xs × ReadPast p r (counts_bytes xs) in
    subst P (sym e) (each_push (IsEntry own) 0 i (take i counts) n each (subst (λ (j : ℕ). IsEntry own j n) {x = i} {y = 0 + i} (omega arith) entry), ReadPast-push (big_bytes 8) (take i counts) n before now)

greater_zeros : (n : ℕ) (xs : List ℕ) → length xs ≡ n → greater (replicate n 0) xs ≡ xs
greater_zeros zero xs e = refl
greater_zeros (suc n) [] e = absurd (omega arith)
greater_zeros (suc n) (x ∷ xs) e = ap₂ (λ (y : ℕ) (ys : List ℕ). y ∷ ys) (omega arith) (greater_zeros n xs (omega arith))

-- the rows from the i-th on are zeros
pub record AreZeros (dcs i : ℕ) (table : List (List ℕ)) : Type 0 where
  pub rows : length table ≡ dcs
  pub zeros : (k : ℕ) → i ≤ k → k < dcs → row_of table k ≡ replicate dcs 0

pub zero_rows : (dcs : ℕ) → AreZeros dcs 0 (zero_table dcs)
zero_rows dcs = record { rows = length-replicate dcs (replicate dcs 0); zeros = λ k from to. get_or-replicate dcs k (replicate dcs 0) [] to }

-- one more row is written
pub rows_more : (dcs i : ℕ) (row : List ℕ) (table new : List (List ℕ)) {p q r : ReaderState} → i < dcs → new ≡ raised_row table i row → AreZeros dcs i table
    → AreEach (λ (_ : ℕ). AreEntries None dcs) 0 i (take i table) → AreEntries None dcs row
    → ReadPast p q (table_bytes (take i table)) → ReadPast q r (counts_bytes row)
    → AreZeros dcs (i + 1) new × (AreEach (λ (_ : ℕ). AreEntries None dcs) 0 (i + 1) (take (i + 1) new) × ReadPast p r (table_bytes (take (i + 1) new)))
rows_more dcs i row table new {p} {q} {r} inside is zeros each is_row before now =
    let size : length row ≡ dcs = each_length (IsEntry None) 0 dcs row is_row in
    let same : greater (row_of table i) row ≡ row = ap (λ (xs : List ℕ). greater xs row) (zeros.zeros i (omega arith) inside) ∙ greater_zeros dcs row size in
    let put : new ≡ set table i row = is ∙ ap (λ (xs : List ℕ). set table i xs) same in
    let within : i < length table = omega (arith, zeros.rows) in
    let e : take (i + 1) new ≡ take i table ++ row ∷ [] = ap (λ (t : List (List ℕ)). take (i + 1) t) put ∙ take_more_set table i row within in
    let P : List (List ℕ) → Type 0 = λ t. AreEach (λ (_ : ℕ). AreEntries None dcs) 0 (i + 1) t × ReadPast p r (table_bytes t) in (
      record {
        rows = ap length put ∙ length-set table i row ∙ zeros.rows;
        zeros = λ k from to. ap (λ (t : List (List ℕ)). row_of t k) put ∙ get_or-set_other table i k row [] (λ e. omega arith) ∙ zeros.zeros k (omega arith) to;
      },
      subst P (sym e) (each_push (λ (_ : ℕ). AreEntries None dcs) 0 i (take i table) row each is_row, ReadPast-push counts_bytes (take i table) row before now),
    )

-- all entries are written
pub entries_all : (own : Option Entry) (dcs i : ℕ) (counts : List ℕ) {p q : ReaderState} → dcs ≤ i → i ≤ dcs → length counts ≡ dcs → AreEntries own i (take i counts) → ReadPast p q (counts_bytes (take i counts))
    → AreEntries own dcs counts × ReadPast p q (counts_bytes counts)
entries_all own dcs i counts {p} {q} above below size each took =
    let all : take i counts ≡ counts = take_all i counts (omega arith) in
    let same : i ≡ dcs = omega arith in
    let P : List ℕ → Type 0 = λ xs. ReadPast p q (counts_bytes xs) in
    let Q : List ℕ → Type 0 = λ xs. AreEntries own i xs in
    let R : ℕ → Type 0 = λ n. AreEntries own n counts in
    (subst R same (subst Q all each), subst P all took)

pub rows_all : (dcs i : ℕ) (table : List (List ℕ)) {p q : ReaderState} → dcs ≤ i → i ≤ dcs → length table ≡ dcs → AreEach (λ (_ : ℕ). AreEntries None dcs) 0 i (take i table) → ReadPast p q (table_bytes (take i table))
    → AreRows dcs table × ReadPast p q (table_bytes table)
rows_all dcs i table {p} {q} above below size each took =
    let all : take i table ≡ table = take_all i table (omega arith) in
    let same : i ≡ dcs = omega arith in
    let P : List (List ℕ) → Type 0 = λ t. ReadPast p q (table_bytes t) in
    let Q : List (List ℕ) → Type 0 = λ t. AreEach (λ (_ : ℕ). AreEntries None dcs) 0 i t in
    let R : ℕ → Type 0 = λ n. AreEach (λ (_ : ℕ). AreEntries None dcs) 0 n table in
    (subst R same (subst Q all each), subst P all took)

pub entries_size : (own : Option Entry) (dcs : ℕ) (counts : List ℕ) → AreEntries own dcs counts → length counts ≡ dcs
entries_size own dcs counts each = each_length (IsEntry own) 0 dcs counts each

pub names_sized : (low high n : ℕ) (names : List (List ℕ)) → IsBetween low high n → AreNames n names → IsSized low high length AreNames names
names_sized low high n names within each =
    let e : length names ≡ n = names_size n names each in
    let P : ℕ → Type 0 = λ m. AreNames m names in
    record { within = record { least = omega (arith, within.least); greatest = omega (arith, within.greatest) }; items = subst P (sym e) each }

pub names_took : (n : ℕ) (names : List (List ℕ)) {p q r : ReaderState} → AreNames n names → ReadPast p q (big_bytes 1 n) → ReadPast q r (flat_map name_bytes names) → ReadPast p r (names_bytes names)
names_took n names {p} {q} {r} each before now =
    let P : ℕ → Type 0 = λ m. ReadPast p q (big_bytes 1 m) in
    ReadPast-trans (subst P (sym (names_size n names each)) before) now
