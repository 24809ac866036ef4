-- Entries that are told, one after the other by rising datacentre: that they can be gone on with, that their words differ, and what is missed.
use Rattle.std.proofs.Common.{◌≡◌, ◌↔◌, ℕ, zero, suc, ◌+◌, ◌-◌, ◌<◌, ◌≤◌, ◌^◌, ◌⊎◌, List, [], ◌∷◌, ◌++◌, length, refl, ap, ap₂, sym, ◌∙◌, subst, inl, inr, arith, append_assoc}
use Rattle.std.proofs.lemmas.Bool.{cases_eq, cases_lt}
use Rattle.std.proofs.lemmas.List.{length-append}
use Rattle.std.specs.List.{flat_map}
use Rattle.byteorder.specs.Endian.{big_bytes}
use Rattle.record_codec.specs.declared.fault.DecodeFault.{DecodeFault}
use Rattle.record_codec.specs.declared.fault.DecodeFault.TheVariants.{Malformed, NoMemory}
use Rattle.record_codec.specs.declared.reader.Entry.{Entry}
use Rattle.record_codec.specs.Fields.{IsOther, IsToldNext}
use Rattle.byteorder.specs.Numbers.{length-bytes_high_first}
use Rattle.record_codec.specs.Parts.{shared, Differ, Misses, IsWord, IsCode, Both, behind_one_another, IsBetween}
use Rattle.record_codec.specs.Reading.{ReaderState, ReadPast, FailsAt}
use Rattle.record_codec.specs.Wire.{entry_bytes}
use Rattle.record_codec.proofs.Numbers.{number_code}
use Rattle.record_codec.proofs.Composing.{Misses-same, first_missed, next_missed, Both_code}
use Rattle.record_codec.proofs.Places.{fails_same, fails_first, fails_next}
use Rattle.record_codec.proofs.Shared.{shared-append_right, Differ-append, Differ-front}

-- ---- one entry

pub other_within : (own dcs low more host : ℕ) → IsOther own dcs low more host → host + more + 1 ≤ dcs
other_within own dcs low more host is = elim (cases_lt host own) [
  | inl before ↦ let h = is.below before in omega arith
  | inr from ↦ elim (cases_eq host own) [
    | inl same ↦ absurd (is.other same)
    | inr other ↦ let past : own < host = omega (arith, other) in is.above past
  ]
]

pub other_code : (own dcs low more : ℕ) → dcs ≤ 8 → IsCode (IsOther own dcs low more) (big_bytes 1)
other_code own dcs low more small =
    let code : IsCode (IsBetween 0 255) (big_bytes 1) = number_code 1 0 255 (omega arith) in
    let within : (host : ℕ) → IsOther own dcs low more host → IsBetween 0 255 host = λ host is.
    let h = other_within own dcs low more host is in record { least = omega arith; greatest = omega arith } in
    record { apart = λ x y in_x in_y. code.apart x y (within x in_x) (within y in_y) }

abbrev IsPair : (own dcs low more : ℕ) → ℕ × ℕ → Type 0
IsPair own dcs low more = Both (IsOther own dcs low more) (λ _. IsBetween 1 (2 ^ 48 - 1))

abbrev from_pair : ℕ × ℕ → List ℕ
from_pair = behind_one_another (big_bytes 1) (λ _. big_bytes 8)

next_there : (own dcs low more : ℕ) (w : List ℕ) → IsWord (IsPair own dcs low more) from_pair w → IsWord (IsToldNext own dcs low more) entry_bytes w
next_there own dcs low more w word = record {
  value = record { host = word.value.0; count = word.value.1 };
  allowed = record { host = word.allowed.first; count = word.allowed.second };
  spelled = word.spelled;
}

next_back : (own dcs low more : ℕ) (w : List ℕ) → IsWord (IsToldNext own dcs low more) entry_bytes w → IsWord (IsPair own dcs low more) from_pair w
next_back own dcs low more w word = record {
  value = (word.value.host, word.value.count);
  allowed = record { first = word.allowed.host; second = word.allowed.count };
  spelled = word.spelled;
}

pub next_code : (own dcs low more : ℕ) → dcs ≤ 8 → IsCode (IsToldNext own dcs low more) entry_bytes
next_code own dcs low more small =
    let code : IsCode (IsPair own dcs low more) from_pair = Both_code (other_code own dcs low more small) (λ x in_x. number_code 8 1 (2 ^ 48 - 1) (omega arith)) in
    record {
      apart = λ x y in_x in_y. elim (code.apart (x.host, x.count) (y.host, y.count) (record { first = in_x.host; second = in_x.count }) (record { first = in_y.host; second = in_y.count })) [
        | inl same ↦ inl (λ i. record { host = (same i).0; count = (same i).1 })
        | inr differ ↦ inr differ
      ];
    }

pub host_fails : (own dcs low more : ℕ) (p : ReaderState) (f : DecodeFault) → FailsAt (IsWord (IsOther own dcs low more) (big_bytes 1)) p f → FailsAt (IsWord (IsToldNext own dcs low more) entry_bytes) p f
host_fails own dcs low more p f h =
    fails_same p (next_there own dcs low more) (next_back own dcs low more) f
    (fails_first (λ _. IsBetween 1 (2 ^ 48 - 1)) (big_bytes 1) (λ _. big_bytes 8) p (λ x in_x. (1, record { least = omega arith; greatest = omega arith })) f h)

pub count_fails : {own dcs low more host : ℕ} {p q : ReaderState} → dcs ≤ 8 → IsOther own dcs low more host → ReadPast p q (big_bytes 1 host) → (f : DecodeFault)
    → FailsAt (IsWord (IsBetween 1 (2 ^ 48 - 1)) (big_bytes 8)) q f → FailsAt (IsWord (IsToldNext own dcs low more) entry_bytes) p f
count_fails {own} {dcs} {low} {more} {host} {p} small is took f h =
    fails_same p (next_there own dcs low more) (next_back own dcs low more) f
    (fails_next (λ _. IsBetween 1 (2 ^ 48 - 1)) (λ _. big_bytes 8) (other_code own dcs low more small) is took f h)

-- ---- room for so many entries from a datacentre on

pub record HasRoom (own dcs low n : ℕ) : Type 0 where
  pub below : low ≤ own → low + n + 1 ≤ dcs
  pub above : own < low → low + n ≤ dcs

pub room_after : (own dcs low more host : ℕ) → IsOther own dcs low more host → HasRoom own dcs (suc host) more
room_after own dcs low more host is = record {
  below = λ h. let b = is.below (omega arith) in omega arith;
  above = λ h. let w = other_within own dcs low more host is in omega arith;
}

-- the least datacentre from there on
pub other_made : (own dcs low more : ℕ) → HasRoom own dcs low (suc more) → (host : ℕ) × IsOther own dcs low more host
other_made own dcs low more room = elim (cases_eq low own) [
  | inl same ↦ (
    suc low,
    record {
      least = omega arith;
      other = λ e. omega (arith, e, same);
      below = λ h. absurd (omega (arith, h, same));
      above = λ h. let b = room.below (omega (arith, same)) in omega arith;
    },
  )
  | inr other ↦ (
    low,
    record {
      least = omega arith;
      other = other;
      below = λ h. let b = room.below (omega arith) in omega arith;
      above = λ h. let b = room.above h in omega arith;
    },
  )
]

-- ---- entries one after the other

abbrev pub AreRising : (own dcs low n : ℕ) → List Entry → Type 0
AreRising own dcs low n [] = n ≡ 0
AreRising own dcs low zero (e ∷ es) = ⊥
AreRising own dcs low (suc n) (e ∷ es) = IsToldNext own dcs low n e × AreRising own dcs (suc e.host) n es

pub rising_length : (own dcs low n : ℕ) (es : List Entry) → AreRising own dcs low n es → length es ≡ n
rising_length own dcs low n [] rising = sym rising
rising_length own dcs low zero (e ∷ es) rising = absurd rising
rising_length own dcs low (suc n) (e ∷ es) rising = ap suc (rising_length own dcs (suc e.host) n es rising.1)

pub rising_made : (own dcs low n : ℕ) → HasRoom own dcs low n → (es : List Entry) × AreRising own dcs low n es
rising_made own dcs low zero room = ([], refl)
rising_made own dcs low (suc n) room =
    let host = other_made own dcs low n room in
    let rest = rising_made own dcs (suc host.0) n (room_after own dcs low n host.0 host.1) in
    (record { host = host.0; count = 1 } ∷ rest.0, (record { host = host.1; count = record { least = omega arith; greatest = omega arith } }, rest.1))

-- from an earlier datacentre on
pub rising_lower : (own dcs low n : ℕ) (es : List Entry) → AreRising own dcs (suc low) n es → AreRising own dcs low n es
rising_lower own dcs low n [] rising = rising
rising_lower own dcs low zero (e ∷ es) rising = absurd rising
rising_lower own dcs low (suc n) (e ∷ es) rising =
    let first = rising.0 in
    let host = first.host in
    (record { host = record { least = omega (arith, host.least); other = host.other; below = host.below; above = host.above }; count = first.count }, rising.1)

-- from a later datacentre on, where the first entry is not of this one
pub rising_higher : (own dcs low n : ℕ) (e : Entry) (es : List Entry) → (e.host ≡ low → ⊥) → AreRising own dcs low n (e ∷ es) → AreRising own dcs (suc low) n (e ∷ es)
rising_higher own dcs low zero e es other rising = absurd rising
rising_higher own dcs low (suc n) e es other rising =
    let first = rising.0 in
    let host = first.host in
    (record { host = record { least = omega (arith, host.least, other); other = host.other; below = host.below; above = host.above }; count = first.count }, rising.1)

abbrev IsFromNext : (own dcs low n : ℕ) → Entry × List Entry → Type 0
IsFromNext own dcs low n = Both (IsToldNext own dcs low n) (λ e. AreRising own dcs (suc e.host) n)

abbrev from_next : Entry × List Entry → List ℕ
from_next = behind_one_another entry_bytes (λ _. flat_map entry_bytes)

rising_there : (own dcs low n : ℕ) (w : List ℕ) → IsWord (IsFromNext own dcs low n) from_next w → IsWord (AreRising own dcs low (suc n)) (flat_map entry_bytes) w
rising_there own dcs low n w word = record {
  value = word.value.0 ∷ word.value.1;
  allowed = (word.allowed.first, word.allowed.second);
  spelled = word.spelled;
}

rising_pair : (own dcs low n : ℕ) (w : List ℕ) (es : List Entry) → AreRising own dcs low (suc n) es → w ≡ flat_map entry_bytes es → IsWord (IsFromNext own dcs low n) from_next w
rising_pair own dcs low n w [] rising is = absurd (omega (arith, rising))
rising_pair own dcs low n w (e ∷ es) rising is = record { value = (e, es); allowed = record { first = rising.0; second = rising.1 }; spelled = is }

rising_back : (own dcs low n : ℕ) (w : List ℕ) → IsWord (AreRising own dcs low (suc n)) (flat_map entry_bytes) w → IsWord (IsFromNext own dcs low n) from_next w
rising_back own dcs low n w word = rising_pair own dcs low n w word.value word.allowed word.spelled

-- the entries begin so many, which go on from the datacentre with so many more
abbrev pub Lead : (own dcs low n : ℕ) → List Entry → (next left : ℕ) → Type 0
Lead own dcs low n [] next left = (next ≡ low) × (left ≡ n)
Lead own dcs low zero (e ∷ es) next left = ⊥
Lead own dcs low (suc n) (e ∷ es) next left = IsToldNext own dcs low n e × Lead own dcs (suc e.host) n es next left

pub lead_room : (own dcs low n : ℕ) (es : List Entry) (next left : ℕ) → HasRoom own dcs low n → Lead own dcs low n es next left → HasRoom own dcs next left
lead_room own dcs low n [] next left room lead =
    let P : ℕ → Type 0 = λ k. HasRoom own dcs k n in
    let Q : ℕ → Type 0 = λ k. HasRoom own dcs next k in
    subst Q (sym lead.1) (subst P (sym lead.0) room)
lead_room own dcs low zero (e ∷ es) next left room lead = absurd lead
lead_room own dcs low (suc n) (e ∷ es) next left room lead = lead_room own dcs (suc e.host) n es next left (room_after own dcs low n e.host lead.0.host) lead.1

pub lead_all : (own dcs low n : ℕ) (es : List Entry) (next : ℕ) → Lead own dcs low n es next 0 → AreRising own dcs low n es
lead_all own dcs low n [] next lead = sym lead.1
lead_all own dcs low zero (e ∷ es) next lead = absurd lead
lead_all own dcs low (suc n) (e ∷ es) next lead = (lead.0, lead_all own dcs (suc e.host) n es next lead.1)

pub lead_push : (own dcs low n : ℕ) (es : List Entry) (next left : ℕ) (x : Entry) → Lead own dcs low n es next (suc left) → IsToldNext own dcs next left x
    → Lead own dcs low n (es ++ x ∷ []) (suc x.host) left
lead_push own dcs low zero [] next left x lead is = absurd (omega (arith, lead.1))
lead_push own dcs low (suc n) [] next left x lead is =
    let same : left ≡ n = omega (arith, lead.1) in
    let P : ℕ → Type 0 = λ k. IsToldNext own dcs k left x in
    let Q : ℕ → Type 0 = λ k. IsToldNext own dcs low k x in
    (subst Q same (subst P lead.0 is), (refl, same))
lead_push own dcs low zero (e ∷ es) next left x lead is = absurd lead
lead_push own dcs low (suc n) (e ∷ es) next left x lead is = (lead.0, lead_push own dcs (suc e.host) n es next left x lead.1 is)

-- the entry after these is missed
pub rising_missed : (own dcs low n : ℕ) (es : List Entry) (next left : ℕ) (bytes rest : List ℕ) (at whole : ℕ) → dcs ≤ 8
    → Lead own dcs low n es next (suc left) → bytes ≡ flat_map entry_bytes es ++ rest → Misses (IsWord (IsToldNext own dcs next left) entry_bytes) rest at
    → whole ≡ length (flat_map entry_bytes es) + at → Misses (IsWord (AreRising own dcs low n) (flat_map entry_bytes)) bytes whole
rising_missed own dcs low zero [] next left bytes rest at whole small lead is h sum = absurd (omega (arith, lead.1))
rising_missed own dcs low (suc n) [] next left bytes rest at whole small lead is h sum =
    let same : left ≡ n = omega (arith, lead.1) in
    let P : ℕ → Type 0 = λ k. Misses (IsWord (IsToldNext own dcs k left) entry_bytes) rest at in
    let Q : ℕ → Type 0 = λ k. Misses (IsWord (IsToldNext own dcs low k) entry_bytes) rest at in
    let R : List ℕ → Type 0 = λ b. Misses (IsWord (IsToldNext own dcs low n) entry_bytes) b at in
    let here : Misses (IsWord (IsToldNext own dcs low n) entry_bytes) bytes at = subst R (sym is) (subst Q same (subst P lead.0 h)) in
    let both : Misses (IsWord (IsFromNext own dcs low n) from_next) bytes at =
    first_missed {B = λ e. AreRising own dcs (suc e.host) n} (λ _. flat_map entry_bytes) (λ e in_e. rising_made own dcs (suc e.host) n (room_after own dcs low n e.host in_e.host)) here in
    let S : ℕ → Type 0 = λ k. Misses (IsWord (AreRising own dcs low (suc n)) (flat_map entry_bytes)) bytes k in
    subst S {x = at} {y = whole} (omega (arith, sum)) (Misses-same (rising_there own dcs low n) (rising_back own dcs low n) both)
rising_missed own dcs low zero (e ∷ es) next left bytes rest at whole small lead is h sum = absurd lead
rising_missed own dcs low (suc n) (e ∷ es) next left bytes rest at whole small lead is h sum =
    let tail : Misses (IsWord (AreRising own dcs (suc e.host) n) (flat_map entry_bytes)) (flat_map entry_bytes es ++ rest) (length (flat_map entry_bytes es) + at) =
    rising_missed own dcs (suc e.host) n es next left (flat_map entry_bytes es ++ rest) rest at (length (flat_map entry_bytes es) + at) small lead.1 refl h refl in
    let whole' : whole ≡ length (entry_bytes e) + (length (flat_map entry_bytes es) + at) = omega (arith, sum, length-append (entry_bytes e) (flat_map entry_bytes es)) in
    let both : Misses (IsWord (IsFromNext own dcs low n) from_next) bytes whole =
    next_missed {B = λ x. AreRising own dcs (suc x.host) n} (λ _. flat_map entry_bytes) (next_code own dcs low n small) lead.0 (is ∙ append_assoc (entry_bytes e) (flat_map entry_bytes es) rest) tail whole' in
    Misses-same (rising_there own dcs low n) (rising_back own dcs low n) both

pub rising_fails : (own dcs n : ℕ) (es : List Entry) (next left : ℕ) {p q : ReaderState} → dcs ≤ 8 → Lead own dcs 0 n es next (suc left) → ReadPast p q (flat_map entry_bytes es) → (f : DecodeFault)
    → FailsAt (IsWord (IsToldNext own dcs next left) entry_bytes) q f → FailsAt (IsWord (AreRising own dcs 0 n) (flat_map entry_bytes)) p f
rising_fails own dcs n es next left {p} {q} small lead took (Malformed at) h = record {
  off = length (flat_map entry_bytes es) + h.off;
  misses = rising_missed own dcs 0 n es next left p.left q.left h.off (length (flat_map entry_bytes es) + h.off) small lead took.bytes h.misses refl;
  is = omega (arith, h.is, took.at);
}
rising_fails own dcs n es next left small lead took NoMemory h = tt

pub rising_apart : (own dcs low n : ℕ) (xs ys : List Entry) → dcs ≤ 8 → AreRising own dcs low n xs → AreRising own dcs low n ys
    → (xs ≡ ys) ⊎ Differ (flat_map entry_bytes xs) (flat_map entry_bytes ys)
rising_apart own dcs low n [] [] small in_xs in_ys = inl refl
rising_apart own dcs low zero [] (y ∷ ys) small in_xs in_ys = absurd in_ys
rising_apart own dcs low (suc n) [] (y ∷ ys) small in_xs in_ys = absurd (omega (arith, in_xs))
rising_apart own dcs low zero (x ∷ xs) ys small in_xs in_ys = absurd in_xs
rising_apart own dcs low (suc n) (x ∷ xs) [] small in_xs in_ys = absurd (omega (arith, in_ys))
rising_apart own dcs low (suc n) (x ∷ xs) (y ∷ ys) small in_xs in_ys = elim ((next_code own dcs low n small).apart x y in_xs.0 in_ys.0) [
  | inl same ↦
      let P : Entry → Type 0 = λ e. AreRising own dcs (suc e.host) n ys in
      elim (rising_apart own dcs (suc x.host) n xs ys small in_xs.1 (subst P (sym same) in_ys.1)) [
        | inl equal ↦ inl (ap₂ (λ (z : Entry) (zs : List Entry). z ∷ zs) same equal)
        | inr differ ↦
            let Q : Entry → Type 0 = λ e. Differ (entry_bytes x ++ flat_map entry_bytes xs) (entry_bytes e ++ flat_map entry_bytes ys) in
            inr (subst Q same (Differ-front (entry_bytes x) (flat_map entry_bytes xs) (flat_map entry_bytes ys) differ))
      ]
  | inr differ ↦ inr (Differ-append (entry_bytes x) (entry_bytes y) (flat_map entry_bytes xs) (flat_map entry_bytes ys) differ)
]

-- ---- the range of a datacentre's number, and the own one in it

abbrev IsLastOther : (own dcs more last : ℕ) → Type 0
IsLastOther own dcs more last =
    ((h : ℕ) → h < own → (h ≤ last) ↔ (h + more + 2 ≤ dcs)) × ((h : ℕ) → own < h → (h ≤ last) ↔ (h + more + 1 ≤ dcs))

pub last_least : (own dcs low more last : ℕ) → IsLastOther own dcs more last → (host : ℕ) → IsOther own dcs low more host → host ≤ last
last_least own dcs low more last bounds host is = elim (cases_lt host own) [
  | inl before ↦ (bounds.0 host before).1 (is.below before)
  | inr from ↦ elim (cases_eq host own) [
    | inl same ↦ absurd (is.other same)
    | inr other ↦ let past : own < host = omega (arith, other) in (bounds.1 host past).1 (is.above past)
  ]
]

pub low_le_last : (own dcs low more last : ℕ) → IsLastOther own dcs more last → (host : ℕ) × IsOther own dcs low more host → low ≤ last
low_le_last own dcs low more last bounds room = omega (arith, last_least own dcs low more last bounds room.0 room.1, room.1.least)

pub other_of : (own dcs low more last host : ℕ) → IsLastOther own dcs more last → IsBetween low last host → (host ≡ own → ⊥) → IsOther own dcs low more host
other_of own dcs low more last host bounds within other = record {
  least = within.least;
  other = other;
  below = λ h. (bounds.0 host h).0 within.greatest;
  above = λ h. (bounds.1 host h).0 within.greatest;
}

one_byte : (n : ℕ) → length (big_bytes 1 n) ≡ 1
one_byte n = length-bytes_high_first 1 n

-- the byte is in no range, so it is no other datacentre
pub range_fails : (own dcs low more last : ℕ) (p : ReaderState) → IsLastOther own dcs more last → (host : ℕ) × IsOther own dcs low more host → (f : DecodeFault)
    → FailsAt (IsWord (IsBetween low last) (big_bytes 1)) p f → FailsAt (IsWord (IsOther own dcs low more) (big_bytes 1)) p f
range_fails own dcs low more last p bounds room (Malformed at) h =
    let there : (w : List ℕ) → IsWord (IsOther own dcs low more) (big_bytes 1) w → IsWord (IsBetween low last) (big_bytes 1) w = λ w word. record {
      value = word.value;
      allowed = record { least = word.allowed.least; greatest = last_least own dcs low more last bounds word.value word.allowed };
      spelled = word.spelled;
    } in
    let word : IsWord (IsOther own dcs low more) (big_bytes 1) (big_bytes 1 room.0) = record { value = room.0; allowed = room.1; spelled = refl } in
    let none : h.off ≡ 0 = omega (arith, h.misses.reached, h.misses.none h.misses.word h.misses.is_word, ap (λ (w : List ℕ). length w) h.misses.is_word.spelled, one_byte h.misses.is_word.value) in
    record {
      off = h.off;
      misses = record {
        word = big_bytes 1 room.0;
        is_word = word;
        reached = omega (arith, none, h.misses.most (big_bytes 1 room.0) (there (big_bytes 1 room.0) word));
        most = λ w other. h.misses.most w (there w other);
        none = λ w other. h.misses.none w (there w other);
      };
      is = h.is;
    }
range_fails own dcs low more last p bounds room NoMemory h = tt

none_shared : (own dcs low more : ℕ) (left rest : List ℕ) → own < dcs → dcs ≤ 8 → left ≡ big_bytes 1 own ++ rest → (w : List ℕ) → IsWord (IsOther own dcs low more) (big_bytes 1) w → shared w left ≡ 0
none_shared own dcs low more left rest inside small is w word =
    let code : IsCode (IsBetween 0 255) (big_bytes 1) = number_code 1 0 255 (omega arith) in
    let within = other_within own dcs low more word.value word.allowed in
    let apart = code.apart word.value own (record { least = omega arith; greatest = omega arith }) (record { least = omega arith; greatest = omega arith }) in
    ap (λ (v : List ℕ). shared v left) word.spelled ∙ ap (λ (b : List ℕ). shared (big_bytes 1 word.value) b) is ∙ elim apart [
      | inl same ↦ absurd (word.allowed.other same)
      | inr differ ↦
          omega (arith, differ.right, one_byte own, shared-append_right (big_bytes 1 word.value) (big_bytes 1 own) rest differ.right)
    ]

-- the byte is the own number
pub own_fails : (own dcs low more host : ℕ) (p q : ReaderState) → own < dcs → dcs ≤ 8 → (other : ℕ) × IsOther own dcs low more other → host ≡ own → ReadPast p q (big_bytes 1 host) → (f : DecodeFault)
    → f ≡ Malformed (p.at + 0) → FailsAt (IsWord (IsOther own dcs low more) (big_bytes 1)) p f
own_fails own dcs low more host p q inside small room same took f is =
    let P : DecodeFault → Type 0 = λ g. FailsAt (IsWord (IsOther own dcs low more) (big_bytes 1)) p g in
    let left : p.left ≡ big_bytes 1 own ++ q.left = took.bytes ∙ ap (λ (n : ℕ). big_bytes 1 n ++ q.left) same in
    let none : (w : List ℕ) → IsWord (IsOther own dcs low more) (big_bytes 1) w → shared w p.left ≡ 0 = none_shared own dcs low more p.left q.left inside small left in
    let word : IsWord (IsOther own dcs low more) (big_bytes 1) (big_bytes 1 room.0) = record { value = room.0; allowed = room.1; spelled = refl } in
    subst P (sym is) (record {
      off = 0;
      misses = record {
        word = big_bytes 1 room.0;
        is_word = word;
        reached = none (big_bytes 1 room.0) word;
        most = λ w other. omega (arith, none w other);
        none = λ w other. omega (arith, none w other, ap (λ (v : List ℕ). length v) other.spelled, one_byte other.value);
      };
      is = refl;
    })
