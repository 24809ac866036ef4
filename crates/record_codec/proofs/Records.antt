-- A record in a form: its head, its dependencies, its tags and its body, one after the other.
use Rattle.std.proofs.Common.{◌≡◌, ℕ, ◌+◌, ◌-◌, ◌<◌, ◌≤◌, ◌^◌, Some, List, [], length, get_or, refl, ap, sym, ◌∙◌, subst, inl, inr, arith}
use Rattle.std.proofs.lemmas.List.{get_or_default}
use Rattle.cz_base.specs.Text.{IsName}
use Rattle.causal_deps.specs.declared.record.Kind.{Kind}
use Rattle.causal_deps.specs.declared.record.Kind.TheVariants.{Append, Put, Del}
use Rattle.causal_deps.specs.declared.record.Record.{Record}
use Rattle.record_codec.specs.declared.fault.DecodeFault.{DecodeFault}
use Rattle.record_codec.specs.declared.form.Form.{Form}
use Rattle.record_codec.specs.declared.form.Form.TheVariants.{Dense, Sparse}
use Rattle.record_codec.specs.declared.reader.Entry.{Entry}
use Rattle.record_codec.specs.declared.record.Head.{Head}
use Rattle.record_codec.specs.Fields.{AreEntries, AreNames, FitsOwn, IsEntry, HasHeadRanges, IsRecord, IsShortBody, head_word, most_in}
use Rattle.record_codec.specs.Parts.{IsWord, IsCode, IsSized, Both, behind_one_another}
use Rattle.record_codec.specs.Reading.{ReaderState, ReadPast, FailsAt}
use Rattle.record_codec.specs.Wire.{body_bytes, dep_bytes, fewest_tags, longest_body, most_tags, names_bytes, record_bytes}
use Rattle.record_codec.proofs.Composing.{Both_code}
use Rattle.record_codec.proofs.Several.{each_at, each_length, each_of}
use Rattle.record_codec.proofs.Fields.{body_code, entries_code, entries_made, entry_of_own, least_le_greatest, names_code, names_made, own_entry}
use Rattle.record_codec.proofs.Heads.{head_code, head_made}
use Rattle.record_codec.proofs.Places.{fails_same, fails_first, fails_next, ReadPast-trans}
use Rattle.record_codec.proofs.Told.{sparse_code}

-- ---- the entries of a record's dependencies

abbrev own_of : Head → Entry
own_of head = record { host = head.host; count = head.toid - 1 }

-- ---- the parts of a valid record

pub record HasParts (form : Form) (dcs low high : ℕ) (own : Entry) (r : Record) : Type 0 where
  pub head : HasHeadRanges low high (record { host = r.host; toid = r.toid; session = r.session; index = r.index; kind = r.kind })
  pub own_host : own.host ≡ r.host
  pub own_count : own.count ≡ r.toid - 1
  pub dep : AreEntries (Some own) dcs r.dep
  pub tags : IsSized (fewest_tags r.kind) (most_tags r.kind) length AreNames r.tags
  pub body : IsShortBody (most_in form r.kind) r.body

pub record_of_parts : {form : Form} {dcs low high : ℕ} {own : Entry} {r : Record} → high < dcs → HasParts form dcs low high own r → IsRecord form dcs low high r
record_of_parts {form} {dcs} {low} {high} {own} {r} fits h =
    let inside : r.host < dcs = omega (arith, h.head.host.greatest) in
    let each : (k : ℕ) (d : ℕ) → k < dcs → IsEntry (Some own) k (get_or r.dep k d) = λ k d within.
    let P : ℕ → Type 0 = λ j. IsEntry (Some own) j (get_or r.dep k d) in subst P {x = 0 + k} {y = k} (omega arith) (each_at (IsEntry (Some own)) 0 dcs r.dep h.dep k d within) in
    let size : length r.dep ≡ dcs = each_length (IsEntry (Some own)) 0 dcs r.dep h.dep in
    let small : own.count < 2 ^ 48 = omega (arith, h.own_count, h.head.toid.greatest) in
    let Q : ℕ → Type 0 = λ j. IsEntry (Some own) j (get_or r.dep r.host 0) in
    let at_own : IsEntry (Some own) own.host (get_or r.dep r.host 0) = subst Q (sym h.own_host) (each r.host 0 inside) in
    let own_is : get_or r.dep r.host 0 ≡ own.count = own_entry own (get_or r.dep r.host 0) at_own in
    record {
      fits = record {
        host = inside;
        toid_first = h.head.toid.least;
        toid = omega (arith, h.head.toid.greatest);
        session = omega (arith, h.head.session.greatest);
        index_first = h.head.index.least;
        index = h.head.index.greatest;
        entries = size;
        dep = λ k d within. let entry = each k d (omega arith) in let top = (least_le_greatest (Some own) k small).1 in omega (arith, entry.within.greatest, top);
        own = own_is ∙ h.own_count;
        tags_first = h.tags.within.least;
        tags = h.tags.within.greatest;
        body = omega (arith, h.body.few);
      };
      writable = record { body = omega (arith, h.body.few) };
      texts = record {
        tags = λ k d within. each_at (λ (_ : ℕ). IsName) 0 (length r.tags) r.tags h.tags.items k d within;
        body = h.body.body;
      };
      host = h.head.host;
    }

pub parts_of_record : {form : Form} {dcs low high : ℕ} {r : Record} → IsRecord form dcs low high r → HasParts form dcs low high (record { host = r.host; count = r.toid - 1 }) r
parts_of_record {form} {dcs} {low} {high} {r} h =
    let own : Entry = record { host = r.host; count = r.toid - 1 } in
    record {
      head = record {
        host = h.host;
        toid = record { least = h.fits.toid_first; greatest = omega (arith, h.fits.toid) };
        session = record { least = omega arith; greatest = omega (arith, h.fits.session) };
        index = record { least = h.fits.index_first; greatest = h.fits.index };
      };
      own_host = refl;
      own_count = refl;
      dep = each_of (IsEntry (Some (record { host = r.host; count = r.toid - 1 }))) 0 dcs r.dep h.fits.entries (λ k d within.
          let inside : k < length r.dep = omega (arith, h.fits.entries) in
          let P : ℕ → Type 0 = λ j. IsEntry (Some (record { host = r.host; count = r.toid - 1 })) j (get_or r.dep k d) in
          subst P {x = k} {y = 0 + k} (omega arith)
          (entry_of_own (record { host = r.host; count = r.toid - 1 }) k (get_or r.dep k d)
          (λ here. get_or_default r.dep k d 0 inside ∙ ap (λ (j : ℕ). get_or r.dep j 0) here ∙ h.fits.own) (h.fits.dep k d inside)));
      tags = record {
        within = record { least = h.fits.tags_first; greatest = h.fits.tags };
        items = each_of (λ (_ : ℕ). IsName) 0 (length r.tags) r.tags refl (λ k d within. h.texts.tags k d within);
      };
      body = record { few = omega (arith, h.fits.body, h.writable.body); body = h.texts.body };
    }

-- ---- the dependencies

dep_code : (form : Form) (own : Entry) (dcs : ℕ) → FitsOwn (Some own) → own.host < dcs → dcs ≤ 8 → IsCode (AreEntries (Some own) dcs) (dep_bytes form own.host)
dep_code Dense own dcs fits inside small = entries_code (Some own) dcs fits
dep_code Sparse own dcs fits inside small = sparse_code own dcs fits inside small

-- ---- a record as pairs in pairs

abbrev IsFromTags : Form → Kind → List (List ℕ) × List ℕ → Type 0
IsFromTags form kind = Both (IsSized (fewest_tags kind) (most_tags kind) length AreNames) (λ _. IsShortBody (most_in form kind))

abbrev from_tags : List (List ℕ) × List ℕ → List ℕ
from_tags = behind_one_another names_bytes (λ _. body_bytes)

abbrev IsFromDep : Form → ℕ → Head → List ℕ × (List (List ℕ) × List ℕ) → Type 0
IsFromDep form dcs head = Both (AreEntries (Some (own_of head)) dcs) (λ _. IsFromTags form head.kind)

abbrev from_dep : Form → Head → List ℕ × (List (List ℕ) × List ℕ) → List ℕ
from_dep form head = behind_one_another (dep_bytes form head.host) (λ _. from_tags)

abbrev IsFromHead : Form → ℕ → ℕ → ℕ → Head × (List ℕ × (List (List ℕ) × List ℕ)) → Type 0
IsFromHead form dcs low high = Both (HasHeadRanges low high) (IsFromDep form dcs)

abbrev from_head : Form → ℕ → Head × (List ℕ × (List (List ℕ) × List ℕ)) → List ℕ
from_head form dcs = behind_one_another (head_word dcs) (from_dep form)

record_there : (form : Form) (dcs low high : ℕ) → high < dcs → (w : List ℕ) → IsWord (IsFromHead form dcs low high) (from_head form dcs) w → IsWord (IsRecord form dcs low high) (record_bytes form dcs) w
record_there form dcs low high fits w word =
    let v = word.value in
    let a = word.allowed in
    record {
      value = record { host = v.0.host; toid = v.0.toid; session = v.0.session; index = v.0.index; kind = v.0.kind; tags = v.1.1.0; body = v.1.1.1; dep = v.1.0 };
      allowed = record_of_parts {own = own_of v.0} fits (record {
        head = a.first;
        own_host = refl;
        own_count = refl;
        dep = a.second.first;
        tags = a.second.second.first;
        body = a.second.second.second;
      });
      spelled = word.spelled;
    }

abbrev head_of : Record → Head
head_of r = record { host = r.host; toid = r.toid; session = r.session; index = r.index; kind = r.kind }

record_pairs : (form : Form) (dcs low high : ℕ) (r : Record) → IsRecord form dcs low high r → IsFromHead form dcs low high (head_of r, (r.dep, (r.tags, r.body)))
record_pairs form dcs low high r is = let h = parts_of_record is in record {
  first = h.head;
  second = record { first = h.dep; second = record { first = h.tags; second = h.body } };
}

record_back : (form : Form) (dcs low high : ℕ) (w : List ℕ) → IsWord (IsRecord form dcs low high) (record_bytes form dcs) w → IsWord (IsFromHead form dcs low high) (from_head form dcs) w
record_back form dcs low high w word = record {
  value = (head_of word.value, (word.value.dep, (word.value.tags, word.value.body)));
  allowed = record_pairs form dcs low high word.value word.allowed;
  spelled = word.spelled;
}

fewest_le_most : (kind : Kind) → (fewest_tags kind ≤ most_tags kind) × (most_tags kind < 256)
fewest_le_most Append = (omega arith, omega arith)
fewest_le_most Put = (omega arith, omega arith)
fewest_le_most Del = (omega arith, omega arith)

longest_small : (form : Form) → longest_body form ≤ 4096
longest_small Dense = omega arith
longest_small Sparse = omega arith

most_small : (form : Form) (kind : Kind) → most_in form kind ≤ 4096
most_small form kind = omega (arith, longest_small form)

body_made : (most : ℕ) → (body : List ℕ) × IsShortBody most body
body_made most = ([], record { few = omega arith; body = record { short = omega arith; allowed = refl } })

tags_made : (kind : Kind) → (names : List (List ℕ)) × IsSized (fewest_tags kind) (most_tags kind) length AreNames names
tags_made kind =
    let names = names_made (fewest_tags kind) in
    let size : length names.0 ≡ fewest_tags kind = each_length (λ (_ : ℕ). IsName) 0 (fewest_tags kind) names.0 names.1 in
    let P : ℕ → Type 0 = λ n. AreNames n names.0 in
    (names.0, record { within = record { least = omega arith; greatest = omega (arith, (fewest_le_most kind).0) }; items = subst P (sym size) names.1 })

from_tags_made : (form : Form) (kind : Kind) → (x : List (List ℕ) × List ℕ) × IsFromTags form kind x
from_tags_made form kind = let names = tags_made kind in let body = body_made (most_in form kind) in ((names.0, body.0), record { first = names.1; second = body.1 })

own_fits : (low high : ℕ) (head : Head) → HasHeadRanges low high head → FitsOwn (Some (own_of head))
own_fits low high head is = omega (arith, is.toid.greatest)

from_dep_made : (form : Form) (dcs low high : ℕ) (head : Head) → HasHeadRanges low high head → (x : List ℕ × (List (List ℕ) × List ℕ)) × IsFromDep form dcs head x
from_dep_made form dcs low high head is =
    let counts = entries_made (Some (own_of head)) dcs (own_fits low high head is) in
    let rest = from_tags_made form head.kind in
    ((counts.0, rest.0), record { first = counts.1; second = rest.1 })

pub record_made : (form : Form) (dcs low high : ℕ) → low ≤ high → high < dcs → (r : Record) × IsRecord form dcs low high r
record_made form dcs low high order fits =
    let head = head_made low high order in
    let rest = from_dep_made form dcs low high head.0 head.1 in
    let word = record_there form dcs low high fits (from_head form dcs (head.0, rest.0)) (record { value = (head.0, rest.0); allowed = record { first = head.1; second = rest.1 }; spelled = refl }) in
    (word.value, word.allowed)

-- ---- what is missed

pub head_fails : (form : Form) (dcs low high : ℕ) (p : ReaderState) → high < dcs → (f : DecodeFault) → FailsAt (IsWord (HasHeadRanges low high) (head_word dcs)) p f
    → FailsAt (IsWord (IsRecord form dcs low high) (record_bytes form dcs)) p f
head_fails form dcs low high p fits f h =
    fails_same p (record_there form dcs low high fits) (record_back form dcs low high) f
    (fails_first (IsFromDep form dcs) (head_word dcs) (from_dep form) p (from_dep_made form dcs low high) f h)

past_head : (form : Form) (dcs low high : ℕ) (head : Head) {p q : ReaderState} → dcs < 256 → high < dcs → HasHeadRanges low high head → ReadPast p q (head_word dcs head) → (f : DecodeFault)
    → FailsAt (IsWord (IsFromDep form dcs head) (from_dep form head)) q f → FailsAt (IsWord (IsRecord form dcs low high) (record_bytes form dcs)) p f
past_head form dcs low high head {p} small fits is took f h =
    fails_same p (record_there form dcs low high fits) (record_back form dcs low high) f
    (fails_next (IsFromDep form dcs) (from_dep form) (head_code dcs low high small (omega arith)) is took f h)

same_own : (own : Entry) (head : Head) → own.host ≡ head.host → own.count ≡ head.toid - 1 → own ≡ own_of head
same_own own head host count = λ i. record { host = host i; count = count i }

pub dep_fails : (form : Form) (dcs low high : ℕ) (own : Entry) (head : Head) {p q : ReaderState} → dcs < 256 → high < dcs → own.host ≡ head.host → own.count ≡ head.toid - 1
    → HasHeadRanges low high head → ReadPast p q (head_word dcs head) → (f : DecodeFault)
    → FailsAt (IsWord (AreEntries (Some own) dcs) (dep_bytes form own.host)) q f → FailsAt (IsWord (IsRecord form dcs low high) (record_bytes form dcs)) p f
dep_fails form dcs low high own head {p} {q} small fits host count is took f h =
    let P : Entry → Type 0 = λ o. FailsAt (IsWord (AreEntries (Some o) dcs) (dep_bytes form o.host)) q f in
    past_head form dcs low high head small fits is took f
    (fails_first (λ _. IsFromTags form head.kind) (dep_bytes form head.host) (λ _. from_tags) q (λ x in_x. from_tags_made form head.kind) f (subst P (same_own own head host count) h))

past_dep : (form : Form) (dcs low high : ℕ) (own : Entry) (head : Head) (dep : List ℕ) {p q r : ReaderState} → dcs ≤ 8 → high < dcs → own.host ≡ head.host → own.count ≡ head.toid - 1
    → HasHeadRanges low high head → ReadPast p q (head_word dcs head) → AreEntries (Some own) dcs dep → ReadPast q r (dep_bytes form own.host dep) → (f : DecodeFault)
    → FailsAt (IsWord (IsFromTags form head.kind) from_tags) r f → FailsAt (IsWord (IsRecord form dcs low high) (record_bytes form dcs)) p f
past_dep form dcs low high own head dep {p} {q} {r} small fits host count is took is_dep took_dep f h =
    let P : Entry → Type 0 = λ o. AreEntries (Some o) dcs dep in
    let Q : Entry → Type 0 = λ o. ReadPast q r (dep_bytes form o.host dep) in
    past_head form dcs low high head (omega arith) fits is took f
    (fails_next (λ _. IsFromTags form head.kind) (λ _. from_tags) (dep_code form (own_of head) dcs (own_fits low high head is) (omega (arith, is.host.greatest)) small)
    (subst P (same_own own head host count) is_dep) (subst Q (same_own own head host count) took_dep) f h)

pub tags_fails : (form : Form) (dcs low high least most : ℕ) (own : Entry) (head : Head) (dep : List ℕ) {p q r : ReaderState} → dcs ≤ 8 → high < dcs → own.host ≡ head.host → own.count ≡ head.toid - 1
    → HasHeadRanges low high head → ReadPast p q (head_word dcs head) → AreEntries (Some own) dcs dep → ReadPast q r (dep_bytes form own.host dep)
    → least ≡ fewest_tags head.kind → most ≡ most_tags head.kind → (f : DecodeFault)
    → FailsAt (IsWord (IsSized least most length AreNames) names_bytes) r f → FailsAt (IsWord (IsRecord form dcs low high) (record_bytes form dcs)) p f
tags_fails form dcs low high least most own head dep {p} {q} {r} small fits host count is took is_dep took_dep is_least is_most f h =
    let P : ℕ → Type 0 = λ n. FailsAt (IsWord (IsSized n most length AreNames) names_bytes) r f in
    let Q : ℕ → Type 0 = λ n. FailsAt (IsWord (IsSized (fewest_tags head.kind) n length AreNames) names_bytes) r f in
    past_dep form dcs low high own head dep small fits host count is took is_dep took_dep f
    (fails_first (λ _. IsShortBody (most_in form head.kind)) names_bytes (λ _. body_bytes) r (λ x in_x. body_made (most_in form head.kind)) f (subst Q is_most (subst P is_least h)))

pub body_fails : (form : Form) (dcs low high least most limit : ℕ) (own : Entry) (head : Head) (dep : List ℕ) (tags : List (List ℕ)) {p q r s : ReaderState} → dcs ≤ 8 → high < dcs → own.host ≡ head.host → own.count ≡ head.toid - 1
    → HasHeadRanges low high head → ReadPast p q (head_word dcs head) → AreEntries (Some own) dcs dep → ReadPast q r (dep_bytes form own.host dep)
    → least ≡ fewest_tags head.kind → most ≡ most_tags head.kind → IsSized least most length AreNames tags → ReadPast r s (names_bytes tags) → limit ≡ most_in form head.kind → (f : DecodeFault)
    → FailsAt (IsWord (IsShortBody limit) body_bytes) s f → FailsAt (IsWord (IsRecord form dcs low high) (record_bytes form dcs)) p f
body_fails form dcs low high least most limit own head dep tags {p} {q} {r} {s} small fits host count is took is_dep took_dep is_least is_most is_tags took_tags is_limit f h =
    let B : ℕ → Type 0 = λ n. FailsAt (IsWord (IsShortBody n) body_bytes) s f in
    let P : ℕ → Type 0 = λ n. IsSized n most length AreNames tags in
    let Q : ℕ → Type 0 = λ n. IsSized (fewest_tags head.kind) n length AreNames tags in
    past_dep form dcs low high own head dep small fits host count is took is_dep took_dep f
    (fails_next (λ _. IsShortBody (most_in form head.kind)) (λ _. body_bytes) (names_code (fewest_tags head.kind) (most_tags head.kind) (fewest_le_most head.kind).1)
    (subst Q is_most (subst P is_least is_tags)) took_tags f (subst B is_limit h))

-- the parts that were read
pub record_took : (form : Form) (dcs own : ℕ) (r : Record) {p q s t u : ReaderState} → own ≡ r.host → ReadPast p q (head_word dcs (head_of r)) → ReadPast q s (dep_bytes form own r.dep)
    → ReadPast s t (names_bytes r.tags) → ReadPast t u (body_bytes r.body) → ReadPast p u (record_bytes form dcs r)
record_took form dcs own r {p} {q} {s} host took took_dep took_tags took_body =
    let P : ℕ → Type 0 = λ n. ReadPast q s (dep_bytes form n r.dep) in
    ReadPast-trans took (ReadPast-trans (subst P host took_dep) (ReadPast-trans took_tags took_body))

pub record_code : (form : Form) (dcs low high : ℕ) → dcs ≤ 8 → high < dcs → IsCode (IsRecord form dcs low high) (record_bytes form dcs)
record_code form dcs low high small fits =
    let tags : (kind : Kind) → IsCode (IsFromTags form kind) from_tags = λ kind.
    Both_code (names_code (fewest_tags kind) (most_tags kind) (fewest_le_most kind).1) (λ x in_x. body_code (most_in form kind) (most_small form kind)) in
    let dep : (head : Head) → HasHeadRanges low high head → IsCode (IsFromDep form dcs head) (from_dep form head) = λ head is.
    Both_code (dep_code form (own_of head) dcs (own_fits low high head is) (omega (arith, is.host.greatest)) small) (λ x in_x. tags head.kind) in
    let whole : IsCode (IsFromHead form dcs low high) (from_head form dcs) = Both_code (head_code dcs low high (omega arith) (omega arith)) dep in
    record {
      apart = λ x y in_x in_y. elim (whole.apart (head_of x, (x.dep, (x.tags, x.body))) (head_of y, (y.dep, (y.tags, y.body))) (record_pairs form dcs low high x in_x) (record_pairs form dcs low high y in_y)) [
        | inl same ↦ inl (λ i. record { host = (same i).0.host; toid = (same i).0.toid; session = (same i).0.session; index = (same i).0.index; kind = (same i).0.kind; tags = (same i).1.1.0; body = (same i).1.1.1; dep = (same i).1.0 })
        | inr differ ↦ inr differ
      ];
    }

-- a body within a bound that is given in other words
pub body_as : (most limit : ℕ) (body : List ℕ) → most ≡ limit → IsShortBody most body → IsShortBody limit body
body_as most limit body is_limit is = record { few = omega (arith, is.few); body = is.body }

-- tags in a range that is given in other words
pub tags_as : (least most low high : ℕ) (tags : List (List ℕ)) → least ≡ low → most ≡ high → IsSized least most length AreNames tags → IsSized low high length AreNames tags
tags_as least most low high tags is_least is_most is = record {
  within = record { least = omega (arith, is.within.least); greatest = omega (arith, is.within.greatest) };
  items = is.items;
}
