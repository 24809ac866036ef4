-- The fields of a record and a message as parts: which values each may have.
use Rattle.std.specs.Prelude.{◌≡◌, ℕ, ◌+◌, ◌-◌, ◌<◌, ◌≤◌, ◌==◌, if◌then◌else◌, min, Option, Some, None, List, length, All}
use Rattle.std.specs.List.{flat_map}
use Rattle.byteorder.specs.Endian.{big_bytes}
use Rattle.cz_base.specs.declared.limits.TheConstants.{COMMANDS, NUMBERS_END, SESSIONS}
use Rattle.cz_base.specs.Text.{IsName, IsBody}
use Rattle.causal_deps.specs.declared.record.Kind.{Kind}
use Rattle.causal_deps.specs.declared.record.Record.{Record}
use Rattle.record_codec.specs.declared.message.Message.{Message}
use Rattle.record_codec.specs.declared.reader.Entry.{Entry}
use Rattle.record_codec.specs.declared.record.Head.{Head}
use Rattle.record_codec.specs.Parts.{IsBetween, AreEach}
use Rattle.record_codec.specs.declared.form.Form.{Form}
use Rattle.record_codec.specs.Wire.{entry_bytes, form_number, head_bytes, kind_number, longest_body, most_body, told_entries, FitsRecord, FitsMessage, HasTexts, IsWritable}

-- so many names
abbrev pub AreNames : ℕ → List (List ℕ) → Type 0
AreNames n names = AreEach (λ _. IsName) 0 n names

-- the least and the greatest number that entry i may be, where one entry may be fixed
abbrev pub least_entry : Option Entry → ℕ → ℕ
least_entry None i = 0
least_entry (Some own) i = if i == own.host then own.count else 0

abbrev pub greatest_entry : Option Entry → ℕ → ℕ
greatest_entry None i = NUMBERS_END - 1
greatest_entry (Some own) i = if i == own.host then own.count else NUMBERS_END - 1

abbrev pub FitsOwn : Option Entry → Type 0
FitsOwn None = Unit {0}
FitsOwn (Some own) = own.count < NUMBERS_END

-- the number may stand at entry i
pub record IsEntry (own : Option Entry) (i n : ℕ) : Type 0 where
  pub within : IsBetween (least_entry own i) (greatest_entry own i) n

-- so many entries
abbrev pub AreEntries : Option Entry → ℕ → List ℕ → Type 0
AreEntries own dcs counts = AreEach (IsEntry own) 0 dcs counts

-- as many rows of entries as there are datacentres
abbrev pub AreRows : ℕ → List (List ℕ) → Type 0
AreRows dcs table = AreEach (λ _. AreEntries None dcs) 0 dcs table

-- another datacentre than the own one, from datacentre low on, above which there are so many more of these
pub record IsOther (own dcs low more host : ℕ) : Type 0 where
  pub least : low ≤ host
  pub other : ¬ (host ≡ own)
  pub below : host < own → host + more + 2 ≤ dcs
  pub above : own < host → host + more + 1 ≤ dcs

-- the next entry that is told, where the datacentres from low on are left and so many entries follow
pub record IsToldNext (own dcs low more : ℕ) (entry : Entry) : Type 0 where
  pub host : IsOther own dcs low more entry.host
  pub count : IsBetween 1 (NUMBERS_END - 1) entry.count

-- dependencies of which so many are told
pub record AreTold (own : Entry) (dcs n : ℕ) (dep : List ℕ) : Type 0 where
  pub entries : AreEntries (Some own) dcs dep
  pub size : length (told_entries own.host 0 dep) ≡ n

abbrev pub told_bytes : ℕ → List ℕ → List ℕ
told_bytes own dep = flat_map entry_bytes (told_entries own 0 dep)

-- a body of at most so many bytes
pub record IsShortBody (most : ℕ) (bytes : List ℕ) : Type 0 where
  pub few : length bytes ≤ most
  pub body : IsBody bytes

-- any form
abbrev pub IsForm : Form → Type 0
IsForm form = Unit {0}

abbrev pub form_bytes : Form → List ℕ
form_bytes form = big_bytes 1 (form_number form)

-- the most bytes of the body of a record of a kind in a form
abbrev pub most_in : Form → Kind → ℕ
most_in form kind = min (longest_body form) (most_body kind)

-- any kind
abbrev pub IsKind : Kind → Type 0
IsKind kind = Unit {0}

abbrev pub kind_bytes : Kind → List ℕ
kind_bytes kind = big_bytes 1 (kind_number kind)

-- the numbers before the dependencies are in their ranges
pub record HasHeadRanges (low high : ℕ) (head : Head) : Type 0 where
  pub host : IsBetween low high head.host
  pub toid : IsBetween 1 (NUMBERS_END - 1) head.toid
  pub session : IsBetween 0 (SESSIONS - 1) head.session
  pub index : IsBetween 1 COMMANDS head.index

abbrev pub head_word : ℕ → Head → List ℕ
head_word dcs head = head_bytes dcs head.host head.toid head.session head.index head.kind

-- a valid record for the form whose host is in the range
pub record IsRecord (form : Form) (dcs low high : ℕ) (r : Record) : Type 0 where
  pub fits : FitsRecord dcs r
  pub writable : IsWritable form r
  pub texts : HasTexts r
  pub host : IsBetween low high r.host

-- so many valid records of one host
abbrev pub AreRecords : Form → ℕ → ℕ → ℕ → List Record → Type 0
AreRecords form dcs host n records = AreEach (λ _. IsRecord form dcs host host) 0 n records

-- a valid message for the form
pub record IsMessage (form : Form) (dcs : ℕ) (m : Message) : Type 0 where
  pub fits : FitsMessage dcs m
  pub writable : All (IsWritable form) m.records
  pub texts : All HasTexts m.records
