-- A message: its form, and behind it its sender, the number of datacentres, its table and its records, one after the other.
use Rattle.std.proofs.Common.{◌≡◌, ℕ, ◌+◌, ◌-◌, ◌<◌, ◌≤◌, ◌^◌, None, List, [], ◌∷◌, ◌++◌, length, get_or, refl, ap, sym, ◌∙◌, subst, inl, inr, arith}
use Rattle.std.specs.List.{flat_map}
use Rattle.std.proofs.lemmas.Bool.{cases_eq, cases_lt}
use Rattle.std.proofs.lemmas.List.{get_or_default, get_or_past}
use Rattle.byteorder.specs.Endian.{big_bytes}
use Rattle.causal_deps.specs.Counts.{entry_of, row_of, IsSquare}
use Rattle.causal_deps.specs.declared.record.Record.{Record}
use Rattle.record_codec.specs.declared.fault.DecodeFault.{DecodeFault}
use Rattle.record_codec.specs.declared.form.Form.{Form}
use Rattle.record_codec.specs.declared.form.Form.TheVariants.{Dense, Sparse}
use Rattle.record_codec.specs.declared.message.Message.{Message}
use Rattle.record_codec.specs.Fields.{AreEntries, AreRecords, AreRows, form_bytes, IsEntry, IsForm, IsMessage, IsRecord}
use Rattle.record_codec.specs.Parts.{IsWord, IsCode, IsBetween, IsSized, Both, behind_one_another}
use Rattle.record_codec.specs.Reading.{ReaderState, ReadPast, FailsAt}
use Rattle.record_codec.specs.Wire.{content_bytes, form_number, record_bytes, records_bytes, table_bytes}
use Rattle.record_codec.proofs.Numbers.{number_code}
use Rattle.record_codec.proofs.Composing.{Both_code}
use Rattle.record_codec.proofs.Several.{each_at, each_code, each_length, each_made, each_of, each_push, sized_code}
use Rattle.record_codec.proofs.Fields.{entries_size, rows_code, rows_made}
use Rattle.record_codec.proofs.Records.{record_code, record_made}
use Rattle.record_codec.proofs.Places.{fails_same, fails_first, fails_next, fails_size, fails_items, fails_each, ReadPast-push, ReadPast-trans}

-- ---- records behind their number

record_of_host : (form : Form) (dcs host : ℕ) → host < dcs → (i : ℕ) → (r : Record) × IsRecord form dcs host host r
record_of_host form dcs host fits i = record_made form dcs host host (omega arith) fits

records_made : (form : Form) (dcs host : ℕ) → host < dcs → (n : ℕ) → (records : List Record) × AreRecords form dcs host n records
records_made form dcs host fits n = each_made (λ (_ : ℕ). IsRecord form dcs host host) (record_of_host form dcs host fits) 0 n

records_size : (form : Form) (dcs host n : ℕ) (records : List Record) → AreRecords form dcs host n records → length records ≡ n
records_size form dcs host n records each = each_length (λ (_ : ℕ). IsRecord form dcs host host) 0 n records each

pub count_fails : (form : Form) (dcs host : ℕ) (p : ReaderState) → host < dcs → (f : DecodeFault) → FailsAt (IsWord (IsBetween 0 16) (big_bytes 1)) p f
    → FailsAt (IsWord (IsSized 0 16 length (AreRecords form dcs host)) (records_bytes form dcs)) p f
count_fails form dcs host p fits f h =
    fails_size 1 0 16 length (AreRecords form dcs host) (flat_map (record_bytes form dcs)) p (records_size form dcs host) (λ n within. records_made form dcs host fits n) f h

pub each_fails : (form : Form) (dcs host : ℕ) {p q : ReaderState} {n : ℕ} → IsBetween 0 16 n → ReadPast p q (big_bytes 1 n) → (f : DecodeFault)
    → FailsAt (IsWord (AreRecords form dcs host n) (flat_map (record_bytes form dcs))) q f → FailsAt (IsWord (IsSized 0 16 length (AreRecords form dcs host)) (records_bytes form dcs)) p f
each_fails form dcs host within took f h =
    fails_items 1 0 16 length (AreRecords form dcs host) (flat_map (record_bytes form dcs)) (records_size form dcs host) (omega arith) within took f h

pub record_fails : (form : Form) (dcs host number n m : ℕ) (records : List Record) {p q : ReaderState} → dcs ≤ 8 → host < dcs → number ≡ host → AreRecords form dcs host m records → m < n
    → ReadPast p q (flat_map (record_bytes form dcs) records) → (f : DecodeFault)
    → FailsAt (IsWord (IsRecord form dcs number number) (record_bytes form dcs)) q f → FailsAt (IsWord (AreRecords form dcs host n) (flat_map (record_bytes form dcs))) p f
record_fails form dcs host number n m records {p} {q} small fits same each short took f h =
    let P : ℕ → Type 0 = λ k. FailsAt (IsWord (IsRecord form dcs k k) (record_bytes form dcs)) q f in
    fails_each (λ (_ : ℕ). IsRecord form dcs host host) (record_bytes form dcs) n m records (λ j. record_code form dcs host host small fits) (record_of_host form dcs host fits) each short took f
    (subst P same h)

pub records_more : (form : Form) (dcs host number n : ℕ) (records new : List Record) (r : Record) {p q s : ReaderState} → number ≡ host → new ≡ records ++ r ∷ [] → AreRecords form dcs host n records
    → IsRecord form dcs number number r → ReadPast p q (flat_map (record_bytes form dcs) records) → ReadPast q s (record_bytes form dcs r)
    → AreRecords form dcs host (n + 1) new × ReadPast p s (flat_map (record_bytes form dcs) new)
records_more form dcs host number n records new r {p} {q} {s} same is each is_r before now =
    let P : List Record → Type 0 = λ xs. AreRecords form dcs host (n + 1) xs × ReadPast p s (flat_map (record_bytes form dcs) xs) in
    let Q : ℕ → Type 0 = λ k. IsRecord form dcs k k r in
    subst P (sym is) (each_push (λ (_ : ℕ). IsRecord form dcs host host) 0 n records r each (subst Q same is_r), ReadPast-push (record_bytes form dcs) records r before now)

pub records_sized : (form : Form) (dcs host n : ℕ) (records : List Record) → IsBetween 0 16 n → AreRecords form dcs host n records → IsSized 0 16 length (AreRecords form dcs host) records
records_sized form dcs host n records within each =
    let e : length records ≡ n = records_size form dcs host n records each in
    let P : ℕ → Type 0 = λ m. AreRecords form dcs host m records in
    record { within = record { least = omega (arith, within.least); greatest = omega (arith, within.greatest) }; items = subst P (sym e) each }

pub records_took : (form : Form) (dcs host n : ℕ) (records : List Record) {p q r : ReaderState} → AreRecords form dcs host n records → ReadPast p q (big_bytes 1 n) → ReadPast q r (flat_map (record_bytes form dcs) records)
    → ReadPast p r (records_bytes form dcs records)
records_took form dcs host n records {p} {q} {r} each before now =
    let P : ℕ → Type 0 = λ m. ReadPast p q (big_bytes 1 m) in
    ReadPast-trans (subst P (sym (records_size form dcs host n records each)) before) now

records_code : (form : Form) (dcs host : ℕ) → dcs ≤ 8 → host < dcs → IsCode (IsSized 0 16 length (AreRecords form dcs host)) (records_bytes form dcs)
records_code form dcs host small fits =
    sized_code 1 0 16 length (AreRecords form dcs host) (flat_map (record_bytes form dcs)) (omega arith)
    (λ n. each_code (λ (_ : ℕ). IsRecord form dcs host host) (record_bytes form dcs) 0 n (λ j. record_code form dcs host host small fits))

-- ---- the table

rows_at : (dcs : ℕ) (table : List (List ℕ)) → AreRows dcs table → (k : ℕ) → k < dcs → AreEntries None dcs (row_of table k)
rows_at dcs table rows k within = each_at (λ (_ : ℕ). AreEntries None dcs) 0 dcs table rows k [] within

square_of_rows : (dcs : ℕ) (table : List (List ℕ)) → AreRows dcs table → IsSquare dcs table
square_of_rows dcs table rows = record {
  rows = each_length (λ (_ : ℕ). AreEntries None dcs) 0 dcs table rows;
  entries = λ k within. entries_size None dcs (row_of table k) (rows_at dcs table rows k within);
}

small_row : (dcs : ℕ) (row : List ℕ) → AreEntries None dcs row → (h : ℕ) → get_or row h 0 < 2 ^ 48
small_row dcs row each h = elim (cases_lt h dcs) [
  | inl within ↦ let entry = each_at (IsEntry None) 0 dcs row each h 0 within in omega (arith, entry.within.greatest)
  | inr past ↦ let size = entries_size None dcs row each in omega (arith, get_or_past row h 0 (omega arith))
]

small_of_rows : (dcs : ℕ) (table : List (List ℕ)) → AreRows dcs table → (k h : ℕ) → entry_of table k h < 2 ^ 48
small_of_rows dcs table rows k h = elim (cases_lt k dcs) [
  | inl within ↦ small_row dcs (row_of table k) (rows_at dcs table rows k within) h
  | inr past ↦
      let size = each_length (λ (_ : ℕ). AreEntries None dcs) 0 dcs table rows in
      let none : row_of table k ≡ [] = get_or_past table k [] (omega arith) in
      omega (arith, ap (λ (row : List ℕ). get_or row h 0) none)
]

row_of_small : (dcs : ℕ) (row : List ℕ) → length row ≡ dcs → ((h : ℕ) → get_or row h 0 < 2 ^ 48) → AreEntries None dcs row
row_of_small dcs row size small = each_of (IsEntry None) 0 dcs row size (λ k d within.
    let inside : k < length row = omega arith in
    record { within = record { least = omega arith; greatest = omega (arith, get_or_default row k 0 d inside, small k) } })

rows_of_square : (dcs : ℕ) (table : List (List ℕ)) → IsSquare dcs table → ((k h : ℕ) → entry_of table k h < 2 ^ 48) → AreRows dcs table
rows_of_square dcs table square small =
    each_of (λ (_ : ℕ). AreEntries None dcs) 0 dcs table square.rows (λ k d within.
    let inside : k < length table = omega (arith, square.rows) in
    let P : List ℕ → Type 0 = λ row. AreEntries None dcs row in
    subst P (get_or_default table k [] d inside) (row_of_small dcs (row_of table k) (square.entries k within) (small k)))

-- ---- the form

form_of : (n : ℕ) → IsBetween 1 2 n → (form : Form) × (form_number form ≡ n)
form_of n within = elim (cases_eq n 1) [
  | inl one ↦ (Dense, sym one)
  | inr other ↦ (Sparse, omega (arith, other, within.least, within.greatest))
]

form_there : (w : List ℕ) → IsWord (IsBetween 1 2) (big_bytes 1) w → IsWord IsForm form_bytes w
form_there w word = let form = form_of word.value word.allowed in
    record { value = form.0; allowed = tt; spelled = word.spelled ∙ ap (λ (n : ℕ). big_bytes 1 n) (sym form.1) }

form_within : (form : Form) → IsBetween 1 2 (form_number form)
form_within Dense = record { least = omega arith; greatest = omega arith }
form_within Sparse = record { least = omega arith; greatest = omega arith }

form_back : (w : List ℕ) → IsWord IsForm form_bytes w → IsWord (IsBetween 1 2) (big_bytes 1) w
form_back w word = record { value = form_number word.value; allowed = form_within word.value; spelled = word.spelled }

pub form_fails : (p : ReaderState) (f : DecodeFault) → FailsAt (IsWord (IsBetween 1 2) (big_bytes 1)) p f → FailsAt (IsWord IsForm form_bytes) p f
form_fails p f h = fails_same p form_there form_back f h

form_same : (x y : Form) → form_number x ≡ form_number y → x ≡ y
form_same Dense Dense e = refl
form_same Dense Sparse e = absurd (omega (arith, e))
form_same Sparse Dense e = absurd (omega (arith, e))
form_same Sparse Sparse e = refl

pub form_code : IsCode IsForm form_bytes
form_code = record {
  apart = λ x y in_x in_y.
      let code : IsCode (IsBetween 1 2) (big_bytes 1) = number_code 1 1 2 (omega arith) in
      elim (code.apart (form_number x) (form_number y) (form_within x) (form_within y)) [
        | inl same ↦ inl (form_same x y same)
        | inr differ ↦ inr differ
      ];
}

-- the form that was read
pub form_took : (n : ℕ) (form : Form) {p q : ReaderState} → form_number form ≡ n → ReadPast p q (big_bytes 1 n) → ReadPast p q (form_bytes form)
form_took n form {p} {q} is took = let P : ℕ → Type 0 = λ k. ReadPast p q (big_bytes 1 k) in subst P (sym is) took

-- ---- what stands behind the form as pairs in pairs

abbrev IsFromTable : Form → ℕ → ℕ → List (List ℕ) × List Record → Type 0
IsFromTable form dcs host = Both (AreRows dcs) (λ _. IsSized 0 16 length (AreRecords form dcs host))

abbrev from_table : Form → ℕ → List (List ℕ) × List Record → List ℕ
from_table form dcs = behind_one_another table_bytes (λ _. records_bytes form dcs)

abbrev IsFromDcs : Form → ℕ → ℕ → ℕ × (List (List ℕ) × List Record) → Type 0
IsFromDcs form dcs host = Both (IsBetween dcs dcs) (λ _. IsFromTable form dcs host)

abbrev from_dcs : Form → ℕ → ℕ × (List (List ℕ) × List Record) → List ℕ
from_dcs form dcs = behind_one_another (big_bytes 1) (λ _. from_table form dcs)

abbrev IsFromHost : Form → ℕ → ℕ × (ℕ × (List (List ℕ) × List Record)) → Type 0
IsFromHost form dcs = Both (IsBetween 0 (dcs - 1)) (IsFromDcs form dcs)

abbrev from_host : Form → ℕ → ℕ × (ℕ × (List (List ℕ) × List Record)) → List ℕ
from_host form dcs = behind_one_another (big_bytes 1) (λ _. from_dcs form dcs)

pub message_of_parts : (form : Form) (dcs : ℕ) (m : Message) → m.from < dcs → AreRows dcs m.table → IsSized 0 16 length (AreRecords form dcs m.from) m.records → IsMessage form dcs m
message_of_parts form dcs m from rows records =
    let each : (k : ℕ) (d : Record) → k < length m.records → IsRecord form dcs m.from m.from (get_or m.records k d) =
    λ k d within. each_at (λ (_ : ℕ). IsRecord form dcs m.from m.from) 0 (length m.records) m.records records.items k d within in
    record {
      fits = record {
        from = from;
        square = square_of_rows dcs m.table rows;
        table = small_of_rows dcs m.table rows;
        few = records.within.greatest;
        records = λ k d within. (each k d within).fits;
        senders = λ k d within. let host = (each k d within).host in omega (arith, host.least, host.greatest);
      };
      writable = λ k d within. (each k d within).writable;
      texts = λ k d within. (each k d within).texts;
    }

message_pairs : (form : Form) (dcs : ℕ) (m : Message) → IsMessage form dcs m → IsFromHost form dcs (m.from, (dcs, (m.table, m.records)))
message_pairs form dcs m is = record {
  first = record { least = omega arith; greatest = omega (arith, is.fits.from) };
  second = record {
    first = record { least = omega arith; greatest = omega arith };
    second = record {
      first = rows_of_square dcs m.table is.fits.square is.fits.table;
      second = record {
        within = record { least = omega arith; greatest = is.fits.few };
        items = each_of (λ (_ : ℕ). IsRecord form dcs m.from m.from) 0 (length m.records) m.records refl (λ k d within.
            let host = is.fits.senders k d within in
            record { fits = is.fits.records k d within; writable = is.writable k d within; texts = is.texts k d within; host = record { least = omega arith; greatest = omega arith } });
      };
    };
  };
}

message_there : (form : Form) (dcs : ℕ) → 1 ≤ dcs → (w : List ℕ) → IsWord (IsFromHost form dcs) (from_host form dcs) w → IsWord (IsMessage form dcs) (content_bytes form dcs) w
message_there form dcs some w word =
    let v = word.value in
    let a = word.allowed in
    let same : v.1.0 ≡ dcs = omega (arith, a.second.first.least, a.second.first.greatest) in
    record {
      value = record { from = v.0; table = v.1.1.0; records = v.1.1.1 };
      allowed = message_of_parts form dcs (record { from = v.0; table = v.1.1.0; records = v.1.1.1 }) (omega (arith, a.first.greatest)) a.second.second.first a.second.second.second;
      spelled = word.spelled ∙ ap (λ (n : ℕ). big_bytes 1 v.0 ++ (big_bytes 1 n ++ from_table form dcs v.1.1)) same;
    }

message_back : (form : Form) (dcs : ℕ) (w : List ℕ) → IsWord (IsMessage form dcs) (content_bytes form dcs) w → IsWord (IsFromHost form dcs) (from_host form dcs) w
message_back form dcs w word = record {
  value = (word.value.from, (dcs, (word.value.table, word.value.records)));
  allowed = message_pairs form dcs word.value word.allowed;
  spelled = word.spelled;
}

made_table : (form : Form) (dcs host : ℕ) → host < dcs → (x : List (List ℕ) × List Record) × IsFromTable form dcs host x
made_table form dcs host fits =
    let rows = rows_made dcs in
    ((rows.0, []), record { first = rows.1; second = record { within = record { least = omega arith; greatest = omega arith }; items = refl } })

made_dcs : (form : Form) (dcs host : ℕ) → host < dcs → (x : ℕ × (List (List ℕ) × List Record)) × IsFromDcs form dcs host x
made_dcs form dcs host fits = let rest = made_table form dcs host fits in ((dcs, rest.0), record { first = record { least = omega arith; greatest = omega arith }; second = rest.1 })

pub message_made : (form : Form) (dcs : ℕ) → 1 ≤ dcs → (m : Message) × IsMessage form dcs m
message_made form dcs some =
    let rest = made_dcs form dcs 0 (omega arith) in
    let word = message_there form dcs some (from_host form dcs (0, rest.0)) (record {
      value = (0, rest.0);
      allowed = record { first = record { least = omega arith; greatest = omega arith }; second = rest.1 };
      spelled = refl;
    }) in
    (word.value, word.allowed)

-- ---- what is missed

pub from_fails : (form : Form) (dcs : ℕ) (p : ReaderState) → 1 ≤ dcs → (f : DecodeFault)
    → FailsAt (IsWord (IsBetween 0 (dcs - 1)) (big_bytes 1)) p f → FailsAt (IsWord (IsMessage form dcs) (content_bytes form dcs)) p f
from_fails form dcs p some f h =
    fails_same p (message_there form dcs some) (message_back form dcs) f
    (fails_first (IsFromDcs form dcs) (big_bytes 1) (λ _. from_dcs form dcs) p (λ x in_x. made_dcs form dcs x (omega (arith, in_x.greatest))) f h)

past_from : (form : Form) (dcs : ℕ) {host : ℕ} {p q : ReaderState} → 1 ≤ dcs → dcs ≤ 8 → IsBetween 0 (dcs - 1) host → ReadPast p q (big_bytes 1 host) → (f : DecodeFault)
    → FailsAt (IsWord (IsFromDcs form dcs host) (from_dcs form dcs)) q f → FailsAt (IsWord (IsMessage form dcs) (content_bytes form dcs)) p f
past_from form dcs {host} {p} some small is_host took_host f h =
    fails_same p (message_there form dcs some) (message_back form dcs) f
    (fails_next (IsFromDcs form dcs) (λ _. from_dcs form dcs) (number_code 1 0 (dcs - 1) (omega arith)) is_host took_host f h)

pub number_fails : (form : Form) (dcs : ℕ) {host : ℕ} {p q : ReaderState} → 1 ≤ dcs → dcs ≤ 8 → IsBetween 0 (dcs - 1) host → ReadPast p q (big_bytes 1 host) → (f : DecodeFault)
    → FailsAt (IsWord (IsBetween dcs dcs) (big_bytes 1)) q f → FailsAt (IsWord (IsMessage form dcs) (content_bytes form dcs)) p f
number_fails form dcs {host} {p} {q} some small is_host took_host f h =
    past_from form dcs some small is_host took_host f
    (fails_first (λ _. IsFromTable form dcs host) (big_bytes 1) (λ _. from_table form dcs) q (λ x in_x. made_table form dcs host (omega (arith, is_host.greatest))) f h)

past_number : (form : Form) (dcs : ℕ) {host d : ℕ} {p q r : ReaderState} → 1 ≤ dcs → dcs ≤ 8 → IsBetween 0 (dcs - 1) host → ReadPast p q (big_bytes 1 host)
    → IsBetween dcs dcs d → ReadPast q r (big_bytes 1 d) → (f : DecodeFault)
    → FailsAt (IsWord (IsFromTable form dcs host) (from_table form dcs)) r f → FailsAt (IsWord (IsMessage form dcs) (content_bytes form dcs)) p f
past_number form dcs {host} some small is_host took_host is_dcs took_dcs f h =
    past_from form dcs some small is_host took_host f
    (fails_next (λ _. IsFromTable form dcs host) (λ _. from_table form dcs) (number_code 1 dcs dcs (omega arith)) is_dcs took_dcs f h)

pub table_fails : (form : Form) (dcs : ℕ) {host d : ℕ} {p q r : ReaderState} → 1 ≤ dcs → dcs ≤ 8 → IsBetween 0 (dcs - 1) host → ReadPast p q (big_bytes 1 host)
    → IsBetween dcs dcs d → ReadPast q r (big_bytes 1 d) → (f : DecodeFault)
    → FailsAt (IsWord (AreRows dcs) table_bytes) r f → FailsAt (IsWord (IsMessage form dcs) (content_bytes form dcs)) p f
table_fails form dcs {host} {r = r} some small is_host took_host is_dcs took_dcs f h =
    past_number form dcs some small is_host took_host is_dcs took_dcs f
    (fails_first (λ _. IsSized 0 16 length (AreRecords form dcs host)) table_bytes (λ _. records_bytes form dcs) r
    (λ x in_x. ([], record { within = record { least = omega arith; greatest = omega arith }; items = refl })) f h)

pub records_fails : (form : Form) (dcs : ℕ) {host d : ℕ} (table : List (List ℕ)) {p q r s : ReaderState} → 1 ≤ dcs → dcs ≤ 8 → IsBetween 0 (dcs - 1) host → ReadPast p q (big_bytes 1 host)
    → IsBetween dcs dcs d → ReadPast q r (big_bytes 1 d) → AreRows dcs table → ReadPast r s (table_bytes table) → (f : DecodeFault)
    → FailsAt (IsWord (IsSized 0 16 length (AreRecords form dcs host)) (records_bytes form dcs)) s f → FailsAt (IsWord (IsMessage form dcs) (content_bytes form dcs)) p f
records_fails form dcs {host} table some small is_host took_host is_dcs took_dcs is_table took_table f h =
    past_number form dcs some small is_host took_host is_dcs took_dcs f
    (fails_next (λ _. IsSized 0 16 length (AreRecords form dcs host)) (λ _. records_bytes form dcs) (rows_code dcs) is_table took_table f h)

-- the parts that were read
pub content_took : (form : Form) (dcs d : ℕ) (m : Message) {p q r s t : ReaderState} → ReadPast p q (big_bytes 1 m.from) → IsBetween dcs dcs d → ReadPast q r (big_bytes 1 d)
    → ReadPast r s (table_bytes m.table) → ReadPast s t (records_bytes form dcs m.records) → ReadPast p t (content_bytes form dcs m)
content_took form dcs d m {p} {q} {r} took_from is_dcs took_dcs took_table took_records =
    let Q : ℕ → Type 0 = λ k. ReadPast q r (big_bytes 1 k) in
    let same : d ≡ dcs = omega (arith, is_dcs.least, is_dcs.greatest) in
    ReadPast-trans took_from (ReadPast-trans (subst Q same took_dcs) (ReadPast-trans took_table took_records))

pub content_code : (form : Form) (dcs : ℕ) → dcs ≤ 8 → IsCode (IsMessage form dcs) (content_bytes form dcs)
content_code form dcs small =
    let table : (host : ℕ) → host < dcs → IsCode (IsFromTable form dcs host) (from_table form dcs) = λ host fits. Both_code (rows_code dcs) (λ x in_x. records_code form dcs host small fits) in
    let number : (host : ℕ) → host < dcs → IsCode (IsFromDcs form dcs host) (from_dcs form dcs) = λ host fits. Both_code (number_code 1 dcs dcs (omega arith)) (λ x in_x. table host fits) in
    record {
      apart = λ x y in_x in_y.
          let whole : IsCode (IsFromHost form dcs) (from_host form dcs) = Both_code (number_code 1 0 (dcs - 1) (omega arith)) (λ n in_n. number n (omega (arith, in_n.greatest, in_x.fits.from))) in
          elim (whole.apart (x.from, (dcs, (x.table, x.records))) (y.from, (dcs, (y.table, y.records))) (message_pairs form dcs x in_x) (message_pairs form dcs y in_y)) [
            | inl same ↦ inl (λ i. record { from = (same i).0; table = (same i).1.1.0; records = (same i).1.1.1 })
            | inr differ ↦ inr differ
          ];
    }

-- ---- form and message

abbrev pub IsFormed : ℕ → Form × Message → Type 0
IsFormed dcs = Both IsForm (λ form. IsMessage form dcs)

abbrev pub formed_bytes : ℕ → Form × Message → List ℕ
formed_bytes dcs = behind_one_another form_bytes (λ form. content_bytes form dcs)

pub formed_code : (dcs : ℕ) → dcs ≤ 8 → IsCode (IsFormed dcs) (formed_bytes dcs)
formed_code dcs small = Both_code form_code (λ form is. content_code form dcs small)

pub form_first : (dcs : ℕ) (p : ReaderState) → 1 ≤ dcs → (f : DecodeFault) → FailsAt (IsWord IsForm form_bytes) p f → FailsAt (IsWord (IsFormed dcs) (formed_bytes dcs)) p f
form_first dcs p some f h = fails_first (λ form. IsMessage form dcs) form_bytes (λ form. content_bytes form dcs) p (λ form is. message_made form dcs some) f h

pub content_next : (dcs : ℕ) (form : Form) {p q : ReaderState} → ReadPast p q (form_bytes form) → (f : DecodeFault)
    → FailsAt (IsWord (IsMessage form dcs) (content_bytes form dcs)) q f → FailsAt (IsWord (IsFormed dcs) (formed_bytes dcs)) p f
content_next dcs form took f h = fails_next (λ form. IsMessage form dcs) (λ form. content_bytes form dcs) form_code tt took f h
