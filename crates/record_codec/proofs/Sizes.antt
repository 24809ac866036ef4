-- How many bytes spellings have.
use Rattle.std.proofs.Common.{◌≡◌, ℕ, suc, ◌+◌, ◌*◌, ◌<◌, List, [], ◌∷◌, ◌++◌, length, get_or, refl, ap, sym, ◌∙◌, arith}
use Rattle.std.proofs.lemmas.List.{length-append}
use Rattle.std.specs.List.{flat_map}
use Rattle.std.proofs.Math.Nat.{suc-mul}
use Rattle.byteorder.specs.Endian.{big_bytes}
use Rattle.byteorder.specs.Numbers.{length-bytes_high_first}
use Rattle.record_codec.specs.declared.form.Form.{Form}
use Rattle.record_codec.specs.declared.form.Form.TheVariants.{Dense, Sparse}
use Rattle.record_codec.specs.declared.message.Message.{Message}
use Rattle.record_codec.specs.declared.reader.Entry.{Entry}
use Rattle.causal_deps.specs.Counts.{IsSquare}
use Rattle.record_codec.specs.Wire.{content_bytes, counts_bytes, dep_bytes, entry_bytes, form_number, message_bytes, record_bytes, records_bytes, sparse_bytes, table_bytes, told_entries}

counts_length : (counts : List ℕ) → length (counts_bytes counts) ≡ 8 * length counts
counts_length [] = refl
counts_length (n ∷ ns) = omega (arith, length-append (big_bytes 8 n) (counts_bytes ns), length-bytes_high_first 8 n, counts_length ns)

entry_length : (e : Entry) → length (entry_bytes e) ≡ 9
entry_length e = refl

entries_length : (es : List Entry) → length (flat_map entry_bytes es) ≡ 9 * length es
entries_length [] = refl
entries_length (e ∷ es) = omega (arith, length-append (entry_bytes e) (flat_map entry_bytes es), entry_length e, entries_length es)

sparse_length : (own told : ℕ) (dep : List ℕ) → told ≡ length (told_entries own 0 dep) → 1 + 9 * told ≡ length (sparse_bytes own dep)
sparse_length own told dep is =
    omega (arith, is, length-append (big_bytes 1 (length (told_entries own 0 dep))) (flat_map entry_bytes (told_entries own 0 dep)), length-bytes_high_first 1 (length (told_entries own 0 dep)), entries_length (told_entries own 0 dep))

pub dense_size : (form : Form) (host size : ℕ) (dep : List ℕ) → form ≡ Dense → size ≡ length dep → 8 * size ≡ length (dep_bytes form host dep)
dense_size form host size dep is count =
    ap (λ (n : ℕ). 8 * n) count ∙ sym (counts_length dep) ∙ ap (λ (f : Form). length (dep_bytes f host dep)) (sym is)

pub sparse_size : (form : Form) (host host' told : ℕ) (dep : List ℕ) → form ≡ Sparse → host' ≡ host → told ≡ length (told_entries host' 0 dep) → 1 + 9 * told ≡ length (dep_bytes form host dep)
sparse_size form host host' told dep is same count =
    sparse_length host' told dep count ∙ ap (λ (h : ℕ). length (sparse_bytes h dep)) same ∙ ap (λ (f : Form). length (dep_bytes f host dep)) (sym is)

rows_length : (n : ℕ) (rows : List (List ℕ)) → ((k : ℕ) → k < length rows → length (get_or rows k []) ≡ n) → length (table_bytes rows) ≡ 8 * (length rows * n)
rows_length n [] each = omega arith
rows_length n (row ∷ rows) each =
    let first : length row ≡ n = each 0 (omega arith) in
    let rest : length (table_bytes rows) ≡ 8 * (length rows * n) = rows_length n rows (λ k within. each (suc k) (omega arith)) in
    let more : suc (length rows) * n ≡ n + length rows * n = omega (arith, suc-mul (length rows) n) in
    omega (arith, length-append (counts_bytes row) (table_bytes rows), counts_length row, first, rest, more)

pub table_length : (dcs : ℕ) (table : List (List ℕ)) → IsSquare dcs table → length (table_bytes table) ≡ 8 * (dcs * dcs)
table_length dcs table square =
    rows_length dcs table (λ k within. square.entries k (omega (arith, square.rows))) ∙ ap (λ (n : ℕ). 8 * (n * dcs)) square.rows

pub message_length : (form : Form) (dcs dcs' entries size : ℕ) (m : Message) → dcs' ≡ dcs → entries ≡ dcs' * dcs' → IsSquare dcs m.table → size ≡ length (flat_map (record_bytes form dcs') m.records)
    → 4 + 8 * entries + size ≡ length (message_bytes form dcs m)
message_length form dcs dcs' entries size m same is_entries square is_size =
    let e : entries ≡ dcs * dcs = is_entries ∙ ap (λ (n : ℕ). n * n) same in
    let s : size ≡ length (flat_map (record_bytes form dcs) m.records) = is_size ∙ ap (λ (n : ℕ). length (flat_map (record_bytes form n) m.records)) same in
    omega (
      arith,
      e,
      s,
      table_length dcs m.table square,
      length-append (big_bytes 1 (form_number form)) (content_bytes form dcs m),
      length-bytes_high_first 1 (form_number form),
      length-append (big_bytes 1 m.from) (big_bytes 1 dcs ++ (table_bytes m.table ++ records_bytes form dcs m.records)),
      length-bytes_high_first 1 m.from,
      length-append (big_bytes 1 dcs) (table_bytes m.table ++ records_bytes form dcs m.records),
      length-bytes_high_first 1 dcs,
      length-append (table_bytes m.table) (records_bytes form dcs m.records),
      length-append (big_bytes 1 (length m.records)) (flat_map (record_bytes form dcs) m.records),
      length-bytes_high_first 1 (length m.records),
    )
