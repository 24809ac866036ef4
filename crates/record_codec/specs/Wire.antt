-- The two wire forms: which bytes spell which record or message. Numbers stand with the highest byte first.
use Rattle.std.specs.Prelude.{◌≡◌, ℕ, suc, ◌-◌, ◌<◌, ◌≤◌, ◌==◌, ◌||◌, if◌then◌else◌, List, [], ◌∷◌, ◌++◌, length, slice_index, All}
use Rattle.std.specs.List.{flat_map}
use Rattle.byteorder.specs.Endian.{big_bytes}
use Rattle.cz_base.specs.declared.limits.TheConstants.{BODY_BYTES, COMMANDS, DENSE_BODY_BYTES, MESSAGE_RECORDS, NUMBERS_END, SESSIONS, TAGS}
use Rattle.cz_base.specs.Text.{IsName, IsBody}
use Rattle.causal_deps.specs.Counts.{IsSquare, entry_of}
use Rattle.causal_deps.specs.declared.record.Kind.{Kind}
use Rattle.causal_deps.specs.declared.record.Kind.TheVariants.{Append, Put, Del}
use Rattle.causal_deps.specs.declared.record.Record.{Record}
use Rattle.record_codec.specs.declared.form.Form.{Form}
use Rattle.record_codec.specs.declared.form.Form.TheVariants.{Dense, Sparse}
use Rattle.record_codec.specs.declared.message.Message.{Message}
use Rattle.record_codec.specs.declared.reader.Entry.{Entry}

-- the byte that stands for a form
abbrev pub form_number : Form → ℕ
form_number Dense = 1
form_number Sparse = 2

-- the most bytes that a body has in a form
abbrev pub longest_body : Form → ℕ
longest_body Dense = DENSE_BODY_BYTES
longest_body Sparse = BODY_BYTES

-- the byte that stands for a kind
abbrev pub kind_number : Kind → ℕ
kind_number Append = 1
kind_number Put = 2
kind_number Del = 3

-- the fewest tags that a record of a kind has
abbrev pub fewest_tags : Kind → ℕ
fewest_tags Append = 0
fewest_tags Put = 1
fewest_tags Del = 1

-- the most tags that a record of a kind has
abbrev pub most_tags : Kind → ℕ
most_tags Append = TAGS
most_tags Put = 1
most_tags Del = 1

-- the most bytes that the body of a record of a kind has
abbrev pub most_body : Kind → ℕ
most_body Append = BODY_BYTES
most_body Put = BODY_BYTES
most_body Del = 0

-- each count in eight bytes
abbrev pub counts_bytes : List ℕ → List ℕ
counts_bytes counts = flat_map (big_bytes 8) counts

-- the entries that the sparse form tells, where the first of the counts is datacentre i's: all but the zeros and the own one
abbrev pub told_entries : ℕ → ℕ → List ℕ → List Entry
told_entries own i [] = []
told_entries own i (n ∷ ns) = if (i == own) || (n == 0) then told_entries own (suc i) ns else record { host = i; count = n } ∷ told_entries own (suc i) ns

-- whose it is in one byte, and the number in eight
abbrev pub entry_bytes : Entry → List ℕ
entry_bytes entry = big_bytes 1 entry.host ++ big_bytes 8 entry.count

-- how many are told in one byte, and these
abbrev pub sparse_bytes : ℕ → List ℕ → List ℕ
sparse_bytes own dep = big_bytes 1 (length (told_entries own 0 dep)) ++ flat_map entry_bytes (told_entries own 0 dep)

-- the dependencies of a record of the host
abbrev pub dep_bytes : Form → ℕ → List ℕ → List ℕ
dep_bytes Dense own dep = counts_bytes dep
dep_bytes Sparse own dep = sparse_bytes own dep

-- row after row
abbrev pub table_bytes : List (List ℕ) → List ℕ
table_bytes table = flat_map counts_bytes table

-- the length in one byte, and the name
abbrev pub name_bytes : List ℕ → List ℕ
name_bytes name = big_bytes 1 (length name) ++ name

-- how many there are in one byte, and the names
abbrev pub names_bytes : List (List ℕ) → List ℕ
names_bytes names = big_bytes 1 (length names) ++ flat_map name_bytes names

-- the length in two bytes, and the body
abbrev pub body_bytes : List ℕ → List ℕ
body_bytes body = big_bytes 2 (length body) ++ body

-- what says whose record it is, and which
abbrev pub head_bytes : (dcs host toid session index : ℕ) → Kind → List ℕ
head_bytes dcs host toid session index kind =
    big_bytes 1 dcs ++ (big_bytes 1 host ++ (big_bytes 8 toid ++ (big_bytes 2 session ++ (big_bytes 4 index ++ big_bytes 1 (kind_number kind)))))

-- the bytes of a record in a form, for so many datacentres
abbrev pub record_bytes : Form → ℕ → Record → List ℕ
record_bytes form dcs r =
    head_bytes dcs r.host r.toid r.session r.index r.kind ++ (dep_bytes form r.host r.dep ++ (names_bytes r.tags ++ body_bytes r.body))

-- how many there are in one byte, and the records
abbrev pub records_bytes : Form → ℕ → List Record → List ℕ
records_bytes form dcs records = big_bytes 1 (length records) ++ flat_map (record_bytes form dcs) records

-- what stands behind the form
abbrev pub content_bytes : Form → ℕ → Message → List ℕ
content_bytes form dcs m =
    big_bytes 1 m.from ++ (big_bytes 1 dcs ++ (table_bytes m.table ++ records_bytes form dcs m.records))

-- the bytes of a message in a form, for so many datacentres
abbrev pub message_bytes : Form → ℕ → Message → List ℕ
message_bytes form dcs m = big_bytes 1 (form_number form) ++ content_bytes form dcs m

-- the numbers of the record are in their ranges, for so many datacentres
pub record FitsRecord (dcs : ℕ) (r : Record) : Type 0 where
  pub host : r.host < dcs
  pub toid_first : 1 ≤ r.toid
  pub toid : r.toid < NUMBERS_END
  pub session : r.session < SESSIONS
  pub index_first : 1 ≤ r.index
  pub index : r.index ≤ COMMANDS
  pub entries : length r.dep ≡ dcs
  pub dep : All (λ n. n < NUMBERS_END) r.dep
  pub own : slice_index r.dep r.host ≡ r.toid - 1
  pub tags_first : fewest_tags r.kind ≤ length r.tags
  pub tags : length r.tags ≤ most_tags r.kind
  pub body : length r.body ≤ most_body r.kind

-- the numbers of the message and of its records are in their ranges
pub record FitsMessage (dcs : ℕ) (m : Message) : Type 0 where
  pub from : m.from < dcs
  pub square : IsSquare dcs m.table
  pub table : (k h : ℕ) → entry_of m.table k h < NUMBERS_END
  pub few : length m.records ≤ MESSAGE_RECORDS
  pub records : All (λ r. FitsRecord dcs r) m.records
  pub senders : All (λ (r : Record). r.host ≡ m.from) m.records

-- the tags are names and the body is a body, as the types of Rust keep it
pub record HasTexts (r : Record) : Type 0 where
  pub tags : All IsName r.tags
  pub body : IsBody r.body

-- the body is not too long for the form
pub record IsWritable (form : Form) (r : Record) : Type 0 where
  pub body : length r.body ≤ longest_body form

-- the bytes spell the record in the form
pub record SpellsRecord (form : Form) (dcs : ℕ) (bytes : List ℕ) (r : Record) : Type 0 where
  pub fits : FitsRecord dcs r
  pub writable : IsWritable form r
  pub texts : HasTexts r
  pub spelled : bytes ≡ record_bytes form dcs r

-- the bytes spell the message in the form
pub record SpellsIn (form : Form) (dcs : ℕ) (bytes : List ℕ) (m : Message) : Type 0 where
  pub fits : FitsMessage dcs m
  pub writable : All (IsWritable form) m.records
  pub texts : All HasTexts m.records
  pub spelled : bytes ≡ message_bytes form dcs m

-- the bytes spell the message in either form
pub record SpellsMessage (dcs : ℕ) (bytes : List ℕ) (m : Message) : Type 0 where
  pub form : Form
  pub inside : SpellsIn form dcs bytes m

-- the bytes spell some record in the form
abbrev pub IsRecordText : Form → ℕ → List ℕ → Type 0
IsRecordText form dcs bytes = (r : Record) × SpellsRecord form dcs bytes r

-- the bytes spell some message in either form
abbrev pub IsMessageText : ℕ → List ℕ → Type 0
IsMessageText dcs bytes = (m : Message) × SpellsMessage dcs bytes m
