-- All of the bytes as one record or one message.
use Rattle.std.proofs.Common.{◌≡◌, ◌≢◌, ℕ, ◌-◌, ◌≤◌, List, [], ◌++◌, length, Result, Ok, Err, refl, ap, sym, ◌∙◌, subst, inl, inr, arith}
use Rattle.std.specs.Result.{IfErr, IfOk, MatchResult}
use Rattle.std.proofs.lemmas.List.{append-nil, length-append, nil_from_length}
use Rattle.std.proofs.lemmas.Result.{IfOk-weaker}
use Rattle.causal_deps.specs.declared.record.Record.{Record}
use Rattle.record_codec.specs.declared.fault.DecodeFault.{DecodeFault}
use Rattle.record_codec.specs.declared.fault.DecodeFault.TheVariants.{Malformed, NoMemory}
use Rattle.record_codec.specs.declared.form.Form.{Form}
use Rattle.record_codec.specs.declared.message.Message.{Message}
use Rattle.record_codec.specs.Fields.{form_bytes, IsForm, IsMessage, IsRecord}
use Rattle.record_codec.specs.Parts.{shared, IsWord, IsCode}
use Rattle.record_codec.specs.Reading.{ReaderState, FailsAt, ReadPast}
use Rattle.record_codec.specs.Starts.{IsRefusedBytes}
use Rattle.record_codec.specs.Wire.{FitsMessage, FitsRecord, IsMessageText, IsRecordText, IsWritable, SpellsMessage, SpellsRecord, content_bytes, message_bytes, record_bytes}
use Rattle.record_codec.proofs.Shared.{shared-front}
use Rattle.record_codec.proofs.Starts.{only_spelled, refused_of_miss, refused_of_more, refused_same}
use Rattle.record_codec.proofs.Records.{record_code}
use Rattle.record_codec.proofs.Messages.{IsFormed, content_next, form_first, formed_bytes, formed_code}
use Rattle.record_codec.proofs.Places.{ReadPast-trans}

-- no word is a proper front of another
code_law : {X : Type 0} (A : X → Type 0) (s : X → List ℕ) (x y : X) (more : List ℕ) → IsCode A s → A x → A y → s x ++ more ≡ s y → (x ≡ y) × (more ≡ [])
code_law {X} A s x y more code in_x in_y is = elim (code.apart x y in_x in_y) [
  | inl same ↦ (same, nil_from_length more (omega (arith, ap length is, length-append (s x) more, ap (λ (z : X). length (s z)) same)))
  | inr differ ↦
      let e : shared (s x) (s y) ≡ shared (s x ++ []) (s x ++ more) = ap (λ (w : List ℕ). shared (s x) w) (sym is) ∙ ap (λ (w : List ℕ). shared w (s x ++ more)) (sym (append-nil (s x))) in
      absurd (omega (arith, e, shared-front (s x) [] more, differ.left))
]

-- ---- records

text_of_record : (form : Form) (dcs : ℕ) (w : List ℕ) → IsWord (IsRecord form dcs 0 (dcs - 1)) (record_bytes form dcs) w → IsRecordText form dcs w
text_of_record form dcs w word = (word.value, record { fits = word.allowed.fits; writable = word.allowed.writable; texts = word.allowed.texts; spelled = word.spelled })

valid_record : (form : Form) (dcs : ℕ) (w : List ℕ) (r : Record) → SpellsRecord form dcs w r → IsRecord form dcs 0 (dcs - 1) r
valid_record form dcs w r h = record { fits = h.fits; writable = h.writable; texts = h.texts; host = record { least = omega arith; greatest = omega (arith, h.fits.host) } }

record_of_text : (form : Form) (dcs : ℕ) (w : List ℕ) → IsRecordText form dcs w → IsWord (IsRecord form dcs 0 (dcs - 1)) (record_bytes form dcs) w
record_of_text form dcs w text = record { value = text.0; allowed = valid_record form dcs w text.0 text.1; spelled = text.1.spelled }

pub record_refused : (form : Form) (dcs : ℕ) (bytes : List ℕ) (p : ReaderState) → 1 ≤ dcs → p ≡ record { left = bytes; at = 0 } → (f : DecodeFault)
    → FailsAt (IsWord (IsRecord form dcs 0 (dcs - 1)) (record_bytes form dcs)) p f → IsRefusedBytes (IsRecordText form dcs) bytes f
record_refused form dcs bytes p some start f h =
    let P : ReaderState → Type 0 = λ q. FailsAt (IsWord (IsRecord form dcs 0 (dcs - 1)) (record_bytes form dcs)) q f in
    refused_same bytes (text_of_record form dcs) (record_of_text form dcs) f (refused_of_miss (IsWord (IsRecord form dcs 0 (dcs - 1)) (record_bytes form dcs)) bytes f (subst P start h))

pub record_more : (form : Form) (dcs : ℕ) (bytes : List ℕ) (p q : ReaderState) (r : Record) → 1 ≤ dcs → dcs ≤ 8 → p ≡ record { left = bytes; at = 0 } → IsRecord form dcs 0 (dcs - 1) r
    → ReadPast p q (record_bytes form dcs r) → (f : DecodeFault) → (f ≡ Malformed q.at) × (q.left ≢ []) → IsRefusedBytes (IsRecordText form dcs) bytes f
record_more form dcs bytes p q r some small start is took f h =
    let P : ReaderState → Type 0 = λ z. ReadPast z q (record_bytes form dcs r) in
    refused_same bytes (text_of_record form dcs) (record_of_text form dcs) f
    (refused_of_more (IsRecord form dcs 0 (dcs - 1)) (record_bytes form dcs) r bytes q (record_code form dcs 0 (dcs - 1) small (omega arith)) is (subst P start took) f h)

pub record_only : (form : Form) (dcs : ℕ) (bytes : List ℕ) (result : Result Record DecodeFault) → 1 ≤ dcs → dcs ≤ 8 → IfOk result (λ r. SpellsRecord form dcs bytes r)
    → IfErr result (IsRefusedBytes (IsRecordText form dcs) bytes) → (r : Record) → SpellsRecord form dcs bytes r → MatchResult result (λ found. found ≡ r) (λ fault. fault ≡ NoMemory)
record_only form dcs bytes result some small ok err r is =
    only_spelled (IsRecordText form dcs) (IsRecord form dcs 0 (dcs - 1)) (record_bytes form dcs) bytes result (record_code form dcs 0 (dcs - 1) small (omega arith))
    (λ x in_x. (x, record { fits = in_x.fits; writable = in_x.writable; texts = in_x.texts; spelled = refl }))
    (IfOk-weaker result (λ x. SpellsRecord form dcs bytes x) (λ x. IsRecord form dcs 0 (dcs - 1) x × (bytes ≡ record_bytes form dcs x)) (λ x h. (valid_record form dcs bytes x h, h.spelled)) ok)
    err r (valid_record form dcs bytes r is) is.spelled

pub record_fits : (form : Form) (dcs : ℕ) (bytes : List ℕ) (result : Result Record DecodeFault) → IfOk result (λ r. SpellsRecord form dcs bytes r)
    → IfOk result (λ r. FitsRecord (length r.dep) r × IsWritable form r)
record_fits form dcs bytes result ok = IfOk-weaker result (λ r. SpellsRecord form dcs bytes r) (λ r. FitsRecord (length r.dep) r × IsWritable form r) (λ r h.
    let P : ℕ → Type 0 = λ n. FitsRecord n r in (subst P (sym h.fits.entries) h.fits, h.writable)) ok

pub record_law : (form : Form) (dcs : ℕ) (a b more : List ℕ) (r s : Record) → dcs ≤ 8 → SpellsRecord form dcs a r → SpellsRecord form dcs b s → a ++ more ≡ b → (r ≡ s) × (more ≡ [])
record_law form dcs a b more r s small is_r is_s e =
    code_law (IsRecord form dcs 0 (dcs - 1)) (record_bytes form dcs) r s more (record_code form dcs 0 (dcs - 1) small (omega (arith, is_r.fits.host)))
    (valid_record form dcs a r is_r) (valid_record form dcs b s is_s) (ap (λ (w : List ℕ). w ++ more) (sym is_r.spelled) ∙ e ∙ is_s.spelled)

-- ---- messages, each with its form

spells_of : (dcs : ℕ) (w : List ℕ) (form : Form) (m : Message) → IsMessage form dcs m → w ≡ message_bytes form dcs m → SpellsMessage dcs w m
spells_of dcs w form m is spelled = record { form = form; inside = record { fits = is.fits; writable = is.writable; texts = is.texts; spelled = spelled } }

formed_of : (dcs : ℕ) (w : List ℕ) (m : Message) (h : SpellsMessage dcs w m) → IsFormed dcs (h.form, m)
formed_of dcs w m h = record { first = tt; second = record { fits = h.inside.fits; writable = h.inside.writable; texts = h.inside.texts } }

text_of_message : (dcs : ℕ) (w : List ℕ) → IsWord (IsFormed dcs) (formed_bytes dcs) w → IsMessageText dcs w
text_of_message dcs w word = (word.value.1, spells_of dcs w word.value.0 word.value.1 word.allowed.second word.spelled)

message_of_text : (dcs : ℕ) (w : List ℕ) → IsMessageText dcs w → IsWord (IsFormed dcs) (formed_bytes dcs) w
message_of_text dcs w text = record { value = (text.1.form, text.0); allowed = formed_of dcs w text.0 text.1; spelled = text.1.inside.spelled }

message_refused : (dcs : ℕ) (bytes : List ℕ) (p : ReaderState) → 1 ≤ dcs → p ≡ record { left = bytes; at = 0 } → (f : DecodeFault)
    → FailsAt (IsWord (IsFormed dcs) (formed_bytes dcs)) p f → IsRefusedBytes (IsMessageText dcs) bytes f
message_refused dcs bytes p some start f h =
    let P : ReaderState → Type 0 = λ q. FailsAt (IsWord (IsFormed dcs) (formed_bytes dcs)) q f in
    refused_same bytes (text_of_message dcs) (message_of_text dcs) f (refused_of_miss (IsWord (IsFormed dcs) (formed_bytes dcs)) bytes f (subst P start h))

-- the form is missed
pub form_refused : (dcs : ℕ) (bytes : List ℕ) (p : ReaderState) → 1 ≤ dcs → p ≡ record { left = bytes; at = 0 } → (f : DecodeFault)
    → FailsAt (IsWord IsForm form_bytes) p f → IsRefusedBytes (IsMessageText dcs) bytes f
form_refused dcs bytes p some start f h = message_refused dcs bytes p some start f (form_first dcs p some f h)

-- what stands behind the form is missed
pub content_refused : (dcs : ℕ) (form : Form) (bytes : List ℕ) (p q : ReaderState) → 1 ≤ dcs → p ≡ record { left = bytes; at = 0 } → ReadPast p q (form_bytes form) → (f : DecodeFault)
    → FailsAt (IsWord (IsMessage form dcs) (content_bytes form dcs)) q f → IsRefusedBytes (IsMessageText dcs) bytes f
content_refused dcs form bytes p q some start took f h = message_refused dcs bytes p some start f (content_next dcs form took f h)

-- all was read, and more is left
pub message_more : (dcs : ℕ) (form : Form) (bytes : List ℕ) (p q r : ReaderState) (m : Message) → 1 ≤ dcs → dcs ≤ 8 → p ≡ record { left = bytes; at = 0 } → ReadPast p q (form_bytes form)
    → IsMessage form dcs m → ReadPast q r (content_bytes form dcs m) → (f : DecodeFault) → (f ≡ Malformed r.at) × (r.left ≢ []) → IsRefusedBytes (IsMessageText dcs) bytes f
message_more dcs form bytes p q r m some small start took_form is took f h =
    let P : ReaderState → Type 0 = λ z. ReadPast z r (formed_bytes dcs (form, m)) in
    refused_same bytes (text_of_message dcs) (message_of_text dcs) f
    (refused_of_more (IsFormed dcs) (formed_bytes dcs) (form, m) bytes r (formed_code dcs small) (record { first = tt; second = is }) (subst P start (ReadPast-trans took_form took)) f h)

-- all was read, and nothing is left
pub message_read : (dcs : ℕ) (form : Form) (bytes : List ℕ) (p q r : ReaderState) (m : Message) → p ≡ record { left = bytes; at = 0 } → ReadPast p q (form_bytes form)
    → IsMessage form dcs m → ReadPast q r (content_bytes form dcs m) → r.left ≡ [] → SpellsMessage dcs bytes m
message_read dcs form bytes p q r m start took_form is took none =
    let P : ReaderState → Type 0 = λ z. ReadPast z r (formed_bytes dcs (form, m)) in
    let all = subst P start (ReadPast-trans took_form took) in
    spells_of dcs bytes form m is (all.bytes ∙ ap (λ (w : List ℕ). formed_bytes dcs (form, m) ++ w) none ∙ append-nil (formed_bytes dcs (form, m)))

-- two spellings of which one begins the other
pub message_law : (dcs : ℕ) (a b more : List ℕ) (m n : Message) → dcs ≤ 8 → SpellsMessage dcs a m → SpellsMessage dcs b n → a ++ more ≡ b → (m ≡ n) × (more ≡ [])
message_law dcs a b more m n small is_m is_n e =
    let law = code_law (IsFormed dcs) (formed_bytes dcs) (is_m.form, m) (is_n.form, n) more (formed_code dcs small)
    (formed_of dcs a m is_m) (formed_of dcs b n is_n) (ap (λ (w : List ℕ). w ++ more) (sym is_m.inside.spelled) ∙ e ∙ is_n.inside.spelled) in
    (ap (λ (v : Form × Message). v.1) law.0, law.1)

pub message_only : (dcs : ℕ) (bytes : List ℕ) (result : Result Message DecodeFault) → dcs ≤ 8 → IfOk result (λ m. SpellsMessage dcs bytes m) → IfErr result (IsRefusedBytes (IsMessageText dcs) bytes)
    → (m : Message) → SpellsMessage dcs bytes m → MatchResult result (λ found. found ≡ m) (λ fault. fault ≡ NoMemory)
message_only dcs bytes (Ok found) small ok err m is = (message_law dcs bytes bytes [] found m small ok is (append-nil bytes)).0
message_only dcs bytes (Err (Malformed at)) small ok err m is = absurd (err.bad (m, is))
message_only dcs bytes (Err NoMemory) small ok err m is = refl

pub message_fits : (dcs : ℕ) (bytes : List ℕ) (result : Result Message DecodeFault) → IfOk result (λ m. SpellsMessage dcs bytes m) → IfOk result (λ m. FitsMessage (length m.table) m)
message_fits dcs bytes result ok = IfOk-weaker result (λ m. SpellsMessage dcs bytes m) (λ m. FitsMessage (length m.table) m) (λ m h.
    let P : ℕ → Type 0 = λ n. FitsMessage n m in subst P (sym h.inside.fits.square.rows) h.inside.fits) ok
