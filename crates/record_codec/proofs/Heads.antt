-- The head of a record: six numbers, one after the other.
use Rattle.std.proofs.Common.{◌≡◌, ℕ, ◌-◌, ◌<◌, ◌≤◌, ◌^◌, List, ◌++◌, refl, ap, sym, ◌∙◌, inl, inr, arith}
use Rattle.std.proofs.lemmas.Bool.{cases_eq}
use Rattle.byteorder.specs.Endian.{big_bytes}
use Rattle.causal_deps.specs.declared.record.Kind.{Kind}
use Rattle.causal_deps.specs.declared.record.Kind.TheVariants.{Append, Put, Del}
use Rattle.record_codec.specs.declared.fault.DecodeFault.{DecodeFault}
use Rattle.record_codec.specs.declared.record.Head.{Head}
use Rattle.record_codec.specs.Fields.{HasHeadRanges, IsKind, head_word, kind_bytes}
use Rattle.record_codec.specs.Parts.{IsWord, IsCode, IsBetween, Both, behind_one_another}
use Rattle.record_codec.specs.Reading.{ReaderState, ReadPast, FailsAt}
use Rattle.record_codec.specs.Wire.{kind_number}
use Rattle.record_codec.proofs.Numbers.{number_code}
use Rattle.record_codec.proofs.Composing.{Both_code}
use Rattle.record_codec.proofs.Places.{fails_same, fails_first, fails_next}

-- ---- the kind

kind_of : (n : ℕ) → IsBetween 1 3 n → (kind : Kind) × (kind_number kind ≡ n)
kind_of n within = elim (cases_eq n 1) [
  | inl one ↦ (Append, sym one)
  | inr other ↦ elim (cases_eq n 2) [
    | inl two ↦ (Put, sym two)
    | inr others ↦ (Del, omega (arith, within.least, within.greatest))
  ]
]

kind_there : (w : List ℕ) → IsWord (IsBetween 1 3) (big_bytes 1) w → IsWord IsKind kind_bytes w
kind_there w word = let k = kind_of word.value word.allowed in
    record { value = k.0; allowed = tt; spelled = word.spelled ∙ ap (λ (n : ℕ). big_bytes 1 n) (sym k.1) }

kind_within : (kind : Kind) → IsBetween 1 3 (kind_number kind)
kind_within Append = record { least = omega arith; greatest = omega arith }
kind_within Put = record { least = omega arith; greatest = omega arith }
kind_within Del = record { least = omega arith; greatest = omega arith }

kind_back : (w : List ℕ) → IsWord IsKind kind_bytes w → IsWord (IsBetween 1 3) (big_bytes 1) w
kind_back w word = record { value = kind_number word.value; allowed = kind_within word.value; spelled = word.spelled }

pub kind_fails : (p : ReaderState) (f : DecodeFault) → FailsAt (IsWord (IsBetween 1 3) (big_bytes 1)) p f → FailsAt (IsWord IsKind kind_bytes) p f
kind_fails p f h = fails_same p kind_there kind_back f h

kind_same : (x y : Kind) → kind_number x ≡ kind_number y → x ≡ y
kind_same Append Append e = refl
kind_same Append Put e = absurd (omega (arith, e))
kind_same Append Del e = absurd (omega (arith, e))
kind_same Put Append e = absurd (omega (arith, e))
kind_same Put Put e = refl
kind_same Put Del e = absurd (omega (arith, e))
kind_same Del Append e = absurd (omega (arith, e))
kind_same Del Put e = absurd (omega (arith, e))
kind_same Del Del e = refl

pub kind_code : IsCode IsKind kind_bytes
kind_code = record {
  apart = λ x y in_x in_y.
      let code : IsCode (IsBetween 1 3) (big_bytes 1) = number_code 1 1 3 (omega arith) in
      elim (code.apart (kind_number x) (kind_number y) (kind_within x) (kind_within y)) [
        | inl same ↦ inl (kind_same x y same)
        | inr differ ↦ inr differ
      ];
}

-- ---- the head as pairs in pairs

abbrev IsFrom5 : ℕ × Kind → Type 0
IsFrom5 = Both (IsBetween 1 16384) (λ _. IsKind)

abbrev from5 : ℕ × Kind → List ℕ
from5 = behind_one_another (big_bytes 4) (λ _. kind_bytes)

abbrev IsFrom4 : ℕ × (ℕ × Kind) → Type 0
IsFrom4 = Both (IsBetween 0 63) (λ _. IsFrom5)

abbrev from4 : ℕ × (ℕ × Kind) → List ℕ
from4 = behind_one_another (big_bytes 2) (λ _. from5)

abbrev IsFrom3 : ℕ × (ℕ × (ℕ × Kind)) → Type 0
IsFrom3 = Both (IsBetween 1 (2 ^ 48 - 1)) (λ _. IsFrom4)

abbrev from3 : ℕ × (ℕ × (ℕ × Kind)) → List ℕ
from3 = behind_one_another (big_bytes 8) (λ _. from4)

abbrev IsFrom2 : ℕ → ℕ → ℕ × (ℕ × (ℕ × (ℕ × Kind))) → Type 0
IsFrom2 low high = Both (IsBetween low high) (λ _. IsFrom3)

abbrev from2 : ℕ × (ℕ × (ℕ × (ℕ × Kind))) → List ℕ
from2 = behind_one_another (big_bytes 1) (λ _. from3)

abbrev IsFrom1 : ℕ → ℕ → ℕ → ℕ × (ℕ × (ℕ × (ℕ × (ℕ × Kind)))) → Type 0
IsFrom1 dcs low high = Both (IsBetween dcs dcs) (λ _. IsFrom2 low high)

abbrev from1 : ℕ × (ℕ × (ℕ × (ℕ × (ℕ × Kind)))) → List ℕ
from1 = behind_one_another (big_bytes 1) (λ _. from2)

head_there : (dcs low high : ℕ) (w : List ℕ) → IsWord (IsFrom1 dcs low high) from1 w → IsWord (HasHeadRanges low high) (head_word dcs) w
head_there dcs low high w word =
    let v = word.value in
    let a = word.allowed in
    let same : v.0 ≡ dcs = omega (arith, a.first.least, a.first.greatest) in
    record {
      value = record { host = v.1.0; toid = v.1.1.0; session = v.1.1.1.0; index = v.1.1.1.1.0; kind = v.1.1.1.1.1 };
      allowed = record { host = a.second.first; toid = a.second.second.first; session = a.second.second.second.first; index = a.second.second.second.second.first };
      spelled = word.spelled ∙ ap (λ (n : ℕ). big_bytes 1 n ++ from2 v.1) same;
    }

head_pairs : (dcs low high : ℕ) (head : Head) → HasHeadRanges low high head → IsFrom1 dcs low high (dcs, (head.host, (head.toid, (head.session, (head.index, head.kind)))))
head_pairs dcs low high head is = record {
  first = record { least = omega arith; greatest = omega arith };
  second = record { first = is.host; second = record { first = is.toid; second = record { first = is.session; second = record { first = is.index; second = tt } } } };
}

head_back : (dcs low high : ℕ) (w : List ℕ) → IsWord (HasHeadRanges low high) (head_word dcs) w → IsWord (IsFrom1 dcs low high) from1 w
head_back dcs low high w word = record {
  value = (dcs, (word.value.host, (word.value.toid, (word.value.session, (word.value.index, word.value.kind)))));
  allowed = head_pairs dcs low high word.value word.allowed;
  spelled = word.spelled;
}

abbrev range_made : (low high : ℕ) → low ≤ high → (n : ℕ) × IsBetween low high n
range_made low high order = (low, record { least = omega arith; greatest = order })

made5 : (x : ℕ × Kind) × IsFrom5 x
made5 = ((1, Append), record { first = record { least = omega arith; greatest = omega arith }; second = tt })

made4 : (x : ℕ × (ℕ × Kind)) × IsFrom4 x
made4 = ((0, made5.0), record { first = record { least = omega arith; greatest = omega arith }; second = made5.1 })

made3 : (x : ℕ × (ℕ × (ℕ × Kind))) × IsFrom3 x
made3 = ((1, made4.0), record { first = record { least = omega arith; greatest = omega arith }; second = made4.1 })

made2 : (low high : ℕ) → low ≤ high → (x : ℕ × (ℕ × (ℕ × (ℕ × Kind)))) × IsFrom2 low high x
made2 low high order = ((low, made3.0), record { first = record { least = omega arith; greatest = order }; second = made3.1 })

pub head_made : (low high : ℕ) → low ≤ high → (head : Head) × HasHeadRanges low high head
head_made low high order = (
  record { host = low; toid = 1; session = 0; index = 1; kind = Append },
  record { host = (range_made low high order).1; toid = (range_made 1 (2 ^ 48 - 1) (omega arith)).1; session = (range_made 0 63 (omega arith)).1; index = (range_made 1 16384 (omega arith)).1 },
)

-- ---- what is missed

pub dcs_fails : (dcs low high : ℕ) (p : ReaderState) → low ≤ high → (f : DecodeFault) → FailsAt (IsWord (IsBetween dcs dcs) (big_bytes 1)) p f → FailsAt (IsWord (HasHeadRanges low high) (head_word dcs)) p f
dcs_fails dcs low high p order f h =
    fails_same p (head_there dcs low high) (head_back dcs low high) f
    (fails_first (λ _. IsFrom2 low high) (big_bytes 1) (λ _. from2) p (λ x in_x. made2 low high order) f h)

past_dcs : {dcs : ℕ} (low high : ℕ) {n : ℕ} {p q : ReaderState} → dcs < 256 → IsBetween dcs dcs n → ReadPast p q (big_bytes 1 n) → (f : DecodeFault)
    → FailsAt (IsWord (IsFrom2 low high) from2) q f → FailsAt (IsWord (HasHeadRanges low high) (head_word dcs)) p f
past_dcs {dcs} low high {n} {p} fits is took f h =
    fails_same p (head_there dcs low high) (head_back dcs low high) f
    (fails_next (λ _. IsFrom2 low high) (λ _. from2) (number_code 1 dcs dcs (omega arith)) is took f h)

past_host : {low high n : ℕ} {p q : ReaderState} → high < 256 → IsBetween low high n → ReadPast p q (big_bytes 1 n) → (f : DecodeFault)
    → FailsAt (IsWord IsFrom3 from3) q f → FailsAt (IsWord (IsFrom2 low high) from2) p f
past_host {low} {high} fits is took f h = fails_next (λ _. IsFrom3) (λ _. from3) (number_code 1 low high (omega arith)) is took f h

past_toid : {n : ℕ} {p q : ReaderState} → IsBetween 1 (2 ^ 48 - 1) n → ReadPast p q (big_bytes 8 n) → (f : DecodeFault)
    → FailsAt (IsWord IsFrom4 from4) q f → FailsAt (IsWord IsFrom3 from3) p f
past_toid is took f h = fails_next (λ _. IsFrom4) (λ _. from4) (number_code 8 1 (2 ^ 48 - 1) (omega arith)) is took f h

past_session : {n : ℕ} {p q : ReaderState} → IsBetween 0 63 n → ReadPast p q (big_bytes 2 n) → (f : DecodeFault)
    → FailsAt (IsWord IsFrom5 from5) q f → FailsAt (IsWord IsFrom4 from4) p f
past_session is took f h = fails_next (λ _. IsFrom5) (λ _. from5) (number_code 2 0 63 (omega arith)) is took f h

past_index : {n : ℕ} {p q : ReaderState} → IsBetween 1 16384 n → ReadPast p q (big_bytes 4 n) → (f : DecodeFault)
    → FailsAt (IsWord IsKind kind_bytes) q f → FailsAt (IsWord IsFrom5 from5) p f
past_index is took f h = fails_next (λ _. IsKind) (λ _. kind_bytes) (number_code 4 1 16384 (omega arith)) is took f h

pub host_fails : {dcs : ℕ} (low high : ℕ) {d : ℕ} {p q : ReaderState} → dcs < 256 → IsBetween dcs dcs d → ReadPast p q (big_bytes 1 d) → (f : DecodeFault)
    → FailsAt (IsWord (IsBetween low high) (big_bytes 1)) q f → FailsAt (IsWord (HasHeadRanges low high) (head_word dcs)) p f
host_fails {dcs} low high {d} {p} {q} fits is took f h =
    past_dcs low high fits is took f (fails_first (λ _. IsFrom3) (big_bytes 1) (λ _. from3) q (λ x in_x. made3) f h)

pub toid_fails : {dcs : ℕ} (low high : ℕ) {d n : ℕ} {p q r : ReaderState} → dcs < 256 → high < 256 → IsBetween dcs dcs d → ReadPast p q (big_bytes 1 d) → IsBetween low high n → ReadPast q r (big_bytes 1 n)
    → (f : DecodeFault) → FailsAt (IsWord (IsBetween 1 (2 ^ 48 - 1)) (big_bytes 8)) r f → FailsAt (IsWord (HasHeadRanges low high) (head_word dcs)) p f
toid_fails low high {r = r} fits hosts is took is_host host f h =
    past_dcs low high fits is took f (past_host hosts is_host host f (fails_first (λ _. IsFrom4) (big_bytes 8) (λ _. from4) r (λ x in_x. made4) f h))

pub session_fails : {dcs : ℕ} (low high : ℕ) {d n t : ℕ} {p q r s : ReaderState} → dcs < 256 → high < 256 → IsBetween dcs dcs d → ReadPast p q (big_bytes 1 d) → IsBetween low high n → ReadPast q r (big_bytes 1 n)
    → IsBetween 1 (2 ^ 48 - 1) t → ReadPast r s (big_bytes 8 t)
    → (f : DecodeFault) → FailsAt (IsWord (IsBetween 0 63) (big_bytes 2)) s f → FailsAt (IsWord (HasHeadRanges low high) (head_word dcs)) p f
session_fails low high {s = s} fits hosts is took is_host host is_toid toid f h =
    past_dcs low high fits is took f (past_host hosts is_host host f (past_toid is_toid toid f (fails_first (λ _. IsFrom5) (big_bytes 2) (λ _. from5) s (λ x in_x. made5) f h)))

pub index_fails : {dcs : ℕ} (low high : ℕ) {d n t k : ℕ} {p q r s u : ReaderState} → dcs < 256 → high < 256 → IsBetween dcs dcs d → ReadPast p q (big_bytes 1 d) → IsBetween low high n → ReadPast q r (big_bytes 1 n)
    → IsBetween 1 (2 ^ 48 - 1) t → ReadPast r s (big_bytes 8 t) → IsBetween 0 63 k → ReadPast s u (big_bytes 2 k)
    → (f : DecodeFault) → FailsAt (IsWord (IsBetween 1 16384) (big_bytes 4)) u f → FailsAt (IsWord (HasHeadRanges low high) (head_word dcs)) p f
index_fails low high {u = u} fits hosts is took is_host host is_toid toid is_session session f h =
    past_dcs low high fits is took f (past_host hosts is_host host f (past_toid is_toid toid f (past_session is_session session f
    (fails_first (λ _. IsKind) (big_bytes 4) (λ _. kind_bytes) u (λ x in_x. (Append, tt)) f h))))

pub last_fails : {dcs : ℕ} (low high : ℕ) {d n t k i : ℕ} {p q r s u v : ReaderState} → dcs < 256 → high < 256 → IsBetween dcs dcs d → ReadPast p q (big_bytes 1 d) → IsBetween low high n → ReadPast q r (big_bytes 1 n)
    → IsBetween 1 (2 ^ 48 - 1) t → ReadPast r s (big_bytes 8 t) → IsBetween 0 63 k → ReadPast s u (big_bytes 2 k) → IsBetween 1 16384 i → ReadPast u v (big_bytes 4 i)
    → (f : DecodeFault) → FailsAt (IsWord IsKind kind_bytes) v f → FailsAt (IsWord (HasHeadRanges low high) (head_word dcs)) p f
last_fails low high fits hosts is took is_host host is_toid toid is_session session is_index index f h =
    past_dcs low high fits is took f (past_host hosts is_host host f (past_toid is_toid toid f (past_session is_session session f (past_index is_index index f h))))

pub head_code : (dcs low high : ℕ) → dcs < 256 → high < 256 → IsCode (HasHeadRanges low high) (head_word dcs)
head_code dcs low high fits hosts =
    let code5 : IsCode IsFrom5 from5 = Both_code (number_code 4 1 16384 (omega arith)) (λ x in_x. kind_code) in
    let code4 : IsCode IsFrom4 from4 = Both_code (number_code 2 0 63 (omega arith)) (λ x in_x. code5) in
    let code3 : IsCode IsFrom3 from3 = Both_code (number_code 8 1 (2 ^ 48 - 1) (omega arith)) (λ x in_x. code4) in
    let code2 : IsCode (IsFrom2 low high) from2 = Both_code (number_code 1 low high (omega arith)) (λ x in_x. code3) in
    let code1 : IsCode (IsFrom1 dcs low high) from1 = Both_code (number_code 1 dcs dcs (omega arith)) (λ x in_x. code2) in
    record {
      apart = λ x y in_x in_y. elim (code1.apart (dcs, (x.host, (x.toid, (x.session, (x.index, x.kind))))) (dcs, (y.host, (y.toid, (y.session, (y.index, y.kind)))))
          (head_pairs dcs low high x in_x) (head_pairs dcs low high y in_y)) [
            | inl same ↦ inl (λ i. record { host = (same i).1.0; toid = (same i).1.1.0; session = (same i).1.1.1.0; index = (same i).1.1.1.1.0; kind = (same i).1.1.1.1.1 })
            | inr differ ↦ inr differ
          ];
    }
