-- What filters have, by any measure of items, and what holds of each item, where they take and pass records.
use Rattle.std.proofs.Common.{◌≡◌, ◌⊎◌, ℕ, ◌+◌, ◌<◌, ◌≤◌, Bool, true, false, cond, not, List, [], ◌∷◌, ◌++◌, length, map, filter, get_or, set, refl, ap, sym, ◌∙◌, subst, inl, inr, arith, Option, Contains}
use Rattle.std.specs.List.{All, sum_by, flat_map}
use Rattle.std.proofs.lemmas.Bool.{cond-true, or_cases}
use Rattle.std.proofs.lemmas.List.{length-map, get_or-map}
use Rattle.std.proofs.lemmas.List.Elements.{All-nil, All-cons, All-head, All-tail, All-append, All-push, All-filter, All-map, All-set, Contains-get_or, Contains-append_left, Contains-append_right}
use Rattle.std.proofs.lemmas.List.Sums.{sum_by-cons, sum_by-append, sum_by_push, sum_by-set}
use Rattle.causal_deps.specs.declared.record.Record.{Record}
use Rattle.causal_deps.specs.declared.record.Draft.{Draft}
use Rattle.causal_deps.specs.declared.record.Item.{Item}
use Rattle.causal_deps.specs.declared.record.Item.TheVariants.{Local, External}
use Rattle.causal_deps.proofs.Lists.{Contains-here}
use Rattle.toid_filter.specs.declared.champions.Share.{Share}
use Rattle.toid_filter.specs.declared.filter.Verdict.{Verdict}
use Rattle.toid_filter.specs.declared.filter.Verdict.TheVariants.{Passed, Held, Dropped}
use Rattle.toid_filter.specs.Champions.{champion}
use Rattle.toid_filter.specs.Filters.{FilterState, Announcement, no_filter, filter_at, is_passed, is_held, is_known, is_free, times_passed, times_held, is_due, due, released, stands_before, before_name, from_name, with_held, with_record, with_item, IsTaken, FitsFilter, IsTidy, IsSteady, AreSound}
use Rattle.toid_filter.specs.Sums.{is_named, items_of, in_held, in_out, passed, added_by, LosesNothing}
use Rattle.toid_filter.proofs.Tests.{name_from}
use Rattle.toid_filter.proofs.FilterLemmas.{held_parts, tidy_with, taken_steady, steady_out}
use Rattle.toid_filter.proofs.LawsLemmas.{release_passes, count_some, sound_set, take_sound}

pub sum_by-split : (g : Record → ℕ) (test : Record → Bool) (rs : List Record) → sum_by g (filter test rs) + sum_by g (filter (λ r. not (test r)) rs) ≡ sum_by g rs
sum_by-split g test [] = refl
sum_by-split g test (r ∷ rs) =
    let rest = sum_by-split g test rs in
    split_at (test r) rest
  where
    split_at : (b : Bool) → sum_by g (filter test rs) + sum_by g (filter (λ x. not (test x)) rs) ≡ sum_by g rs
        → sum_by g (cond b (r ∷ filter test rs) (filter test rs)) + sum_by g (cond (not b) (r ∷ filter (λ x. not (test x)) rs) (filter (λ x. not (test x)) rs)) ≡ sum_by g (r ∷ rs)
    split_at true rest = omega (arith, rest, sum_by-cons g r rs, sum_by-cons g r (filter test rs))
    split_at false rest = omega (arith, rest, sum_by-cons g r rs, sum_by-cons g r (filter (λ x. not (test x)) rs))

pub sum_by-map_external : (g : Item → ℕ) (rs : List Record) → sum_by g (map External rs) ≡ sum_by (λ r. g (External r)) rs
sum_by-map_external g [] = refl
sum_by-map_external g (r ∷ rs) = omega (arith, sum_by-map_external g rs, sum_by-cons g (External r) (map External rs), sum_by-cons (λ x. g (External x)) r rs)

-- A filter took in what is added: its number, map and mark are as before; by every measure it lost nothing and made nothing; of each
-- name it passed as many records on as it passed numbers more; and each item that it has is one of P.
pub record HasTaken (x : FilterState) (added : (Item → ℕ) → ℕ) (P : Item → Type 0) (y : FilterState) : Type 0 where
  pub number : y.number ≡ x.number
  pub map : y.map ≡ x.map
  pub accepted : y.accepted ≡ x.accepted
  pub sums : (g : Item → ℕ) → sum_by (λ r. g (External r)) y.held + sum_by g y.out ≡ sum_by (λ r. g (External r)) x.held + sum_by g x.out + added g
  pub passing : (h t : ℕ) → sum_by (is_named h t) y.out + times_passed h t x ≡ sum_by (is_named h t) x.out + times_passed h t y
  pub held : All (λ r. P (External r)) y.held
  pub out : All P y.out

-- what is due passes
pub released_takes : (x : FilterState) (added : (Item → ℕ) → ℕ) (P : Item → Type 0) (f : FilterState) → IsTidy f → HasTaken x added P f → HasTaken x added P (released f)
released_takes x added P f tidy h = record {
  number = h.number;
  map = h.map;
  accepted = h.accepted;
  sums = λ g. omega (arith, h.sums g, sum_by-split (λ r. g (External r)) (is_due f) f.held, sum_by-append g f.out (map External (due f)), sum_by-map_external g (due f));
  passing = λ g t. omega (arith, h.passing g t, (release_passes f tidy).counts g t, sum_by-append (is_named g t) f.out (map External (due f)), sum_by-map_external (is_named g t) (due f));
  held = All-filter (λ r. not (is_due f r)) (λ (r : Record). P (External r)) f.held h.held;
  out = All-append P f.out (map External (due f)) h.out (All-map P External (due f) (All-filter (is_due f) (λ (r : Record). P (External r)) f.held h.held));
}

-- a record is held
pub held_takes : (f : FilterState) (r : Record) (P : Item → Type 0) → All (λ y. P (External y)) f.held → All P f.out → P (External r) → HasTaken f (λ g. g (External r)) P (with_held f r)
held_takes f r P held out here = record {
  number = refl;
  map = refl;
  accepted = refl;
  sums = λ g. omega (
    arith,
    sum_by-append (λ y. g (External y)) (before_name r.host r.toid f.held) (r ∷ from_name r.host r.toid f.held),
    sum_by-cons (λ y. g (External y)) r (from_name r.host r.toid f.held),
    sum_by-split (λ y. g (External y)) (stands_before r.host r.toid) f.held,
  );
  passing = λ h t. refl;
  held = All-append (λ (y : Record). P (External y)) (before_name r.host r.toid f.held) (r ∷ from_name r.host r.toid f.held)
      (All-filter (stands_before r.host r.toid) (λ (y : Record). P (External y)) f.held held)
      (All-cons (λ (y : Record). P (External y)) r (from_name r.host r.toid f.held) here (All-filter (λ q. not (stands_before r.host r.toid q)) (λ (y : Record). P (External y)) f.held held));
  out = out;
}

-- nothing is taken
pub nothing_taken : (f : FilterState) (P : Item → Type 0) → All (λ y. P (External y)) f.held → All P f.out → HasTaken f (λ _. 0) P f
nothing_taken f P held out = record { number = refl; map = refl; accepted = refl; sums = λ g. omega arith; passing = λ h t. refl; held = held; out = out }

-- a record is taken, by its verdict
pub verdict_takes : (f : FilterState) (r : Record) (v : Verdict) (g : FilterState) (P : Item → Type 0) → IsSteady f → FitsFilter f r → IsTaken f r v g → All (λ y. P (External y)) f.held → All P f.out → P (External r) → HasTaken f (added_by v r) P g
verdict_takes f r Dropped g P steady fits took held out here = subst (HasTaken f (λ _. 0) P) (sym took.1) (nothing_taken f P held out)
verdict_takes f r Held g P steady fits took held out here = subst (HasTaken f (λ m. m (External r)) P) (sym took.2) (held_takes f r P held out here)
verdict_takes f r Passed g P steady fits took held out here = subst (HasTaken f (λ m. m (External r)) P) (sym took.2)
    (released_takes f (λ m. m (External r)) P (with_held f r) (tidy_with f r steady.tidy fits took.0) (held_takes f r P held out here))

-- a draft goes on
pub draft_takes : (f : FilterState) (draft : Draft) (P : Item → Type 0) → All (λ y. P (External y)) f.held → All P f.out → P (Local draft) → HasTaken f (λ g. g (Local draft)) P (with_item f (Local draft))
draft_takes f draft P held out here = record {
  number = refl;
  map = refl;
  accepted = refl;
  sums = λ g. omega (arith, sum_by_push g f.out (Local draft));
  passing = λ h t. omega (arith, sum_by_push (is_named h t) f.out (Local draft));
  held = held;
  out = All-push P f.out (Local draft) out here;
}

-- what a filter knows it passed or holds
pub known_counts : (f : FilterState) (h t : ℕ) → is_known f h t ≡ true → 1 ≤ times_passed h t f + times_held h t f
known_counts f h t known = elim (or_cases (is_passed f h t) (is_held f h t) known) [
  | inl is ↦ let one : times_passed h t f ≡ 1 = cond-true (is_passed f h t) 1 0 is in omega (arith, one)
  | inr is ↦ let found = held_parts f h t is in omega (arith, count_some h t f.held found.0 found.1 (name_from h t found.0 found.2 found.3))
]

-- what is held or passed on is among what a filter has
pub held_among : (f : FilterState) (more : List Item) → All (λ r. Contains (items_of f ++ more) (External r)) f.held
held_among f more = λ k d within. Contains-append_left (items_of f) more (External (get_or f.held k d)) (Contains-append_left (map External f.held) f.out (External (get_or f.held k d))
    (k, omega (arith, length-map f.held External), get_or-map External f.held k d (External (get_or f.held k d)) within))

pub out_among : (f : FilterState) (more : List Item) → All (Contains (items_of f ++ more)) f.out
out_among f more = λ k d within. Contains-append_left (items_of f) more (get_or f.out k d) (Contains-append_right (map External f.held) f.out (get_or f.out k d) (Contains-get_or f.out k d within))

pub all_items : (P : Item → Type 0) (g : FilterState) (given : List Record) → All (λ r. P (External r)) g.held → All P g.out → All (λ r. P (External r)) given → All P (items_of g ++ map External given)
all_items P g given held out gone = All-append P (items_of g) (map External given) (All-append P (map External g.held) g.out (All-map P External g.held held) out) (All-map P External given gone)

-- taking a record loses nothing
pub take_loses_nothing : (f : FilterState) (r : Record) (v : Verdict) (g : FilterState) → IsSteady f → FitsFilter f r → IsTaken f r v g → LosesNothing f (added_by v r) [] (items_of f ++ External r ∷ []) g
take_loses_nothing f r v g steady fits took =
    let known : List Item = items_of f ++ External r ∷ [] in
    let here : Contains known (External r) = Contains-append_right (items_of f) (External r ∷ []) (External r) (Contains-here (External r) []) in
    let all = verdict_takes f r v g (Contains known) steady fits took (held_among f (External r ∷ [])) (out_among f (External r ∷ [])) here in record {
      sums = λ m. omega (arith, all.sums m);
      passing = all.passing;
      each = all_items (Contains known) g [] all.held all.out (All-nil (λ (y : Record). Contains known (External y)));
    }

-- nor does a draft
pub draft_loses_nothing : (f : FilterState) (draft : Draft) → LosesNothing f (λ m. m (Local draft)) [] (items_of f ++ Local draft ∷ []) (with_item f (Local draft))
draft_loses_nothing f draft =
    let known : List Item = items_of f ++ Local draft ∷ [] in
    let here : Contains known (Local draft) = Contains-append_right (items_of f) (Local draft ∷ []) (Local draft) (Contains-here (Local draft) []) in
    let all = draft_takes f draft (Contains known) (held_among f (Local draft ∷ [])) (out_among f (Local draft ∷ [])) here in record {
      sums = λ m. omega (arith, all.sums m);
      passing = all.passing;
      each = all_items (Contains known) (with_item f (Local draft)) [] all.held all.out (All-nil (λ (y : Record). Contains known (External y)));
    }

-- One filter among all took something in.
module _ (fs : List FilterState) (i : ℕ) (low : i < length fs) (added : (Item → ℕ) → ℕ) (P : Item → Type 0) (y : FilterState) (taken : HasTaken (filter_at fs i) added P y) where
  pub all_sums : (g : Item → ℕ) → in_held g (set fs i y) + in_out g (set fs i y) ≡ in_held g fs + in_out g fs + added g
  all_sums g = omega (arith, taken.sums g, sum_by-set (λ (x : FilterState). sum_by (λ r. g (External r)) x.held) fs i y no_filter low, sum_by-set (λ (x : FilterState). sum_by g x.out) fs i y no_filter low)

  pub all_passing : (h t : ℕ) → in_out (is_named h t) (set fs i y) + passed h t fs ≡ in_out (is_named h t) fs + passed h t (set fs i y)
  all_passing h t = omega (arith, taken.passing h t, sum_by-set (λ (x : FilterState). sum_by (is_named h t) x.out) fs i y no_filter low, sum_by-set (times_passed h t) fs i y no_filter low)

  pub all_held : All (λ f. All (λ r. P (External r)) f.held) fs → All (λ f. All (λ r. P (External r)) f.held) (set fs i y)
  all_held all = All-set (λ (f : FilterState). All (λ r. P (External r)) f.held) fs i y taken.held all

  pub all_out : All (λ f. All P f.out) fs → All (λ f. All P f.out) (set fs i y)
  all_out all = All-set (λ (f : FilterState). All P f.out) fs i y taken.out all

-- A filter that gave some records away and lost nothing.
pub record HasKept (x : FilterState) (given : List Record) (P : Item → Type 0) (y : FilterState) : Type 0 where
  pub sums : (g : Item → ℕ) → sum_by (λ r. g (External r)) y.held + sum_by g y.out + sum_by (λ r. g (External r)) given ≡ sum_by (λ r. g (External r)) x.held + sum_by g x.out
  pub passing : (h t : ℕ) → sum_by (is_named h t) y.out + times_passed h t x ≡ sum_by (is_named h t) x.out + times_passed h t y
  pub held : All (λ r. P (External r)) y.held
  pub out : All P y.out

-- All filters, each changed so.
module _ (P : Item → Type 0) (k : FilterState → FilterState) (gives : FilterState → List Record) where
  abbrev pub AllKeep : List FilterState → Type 0
  AllKeep fs = All (λ f. HasKept f (gives f) P (k f)) fs

  pub kept_sums : (fs : List FilterState) (g : Item → ℕ) → AllKeep fs → in_held g (map k fs) + in_out g (map k fs) + sum_by (λ r. g (External r)) (flat_map gives fs) ≡ in_held g fs + in_out g fs
  kept_sums [] g all = refl
  kept_sums (f ∷ fs) g all =
      let here = All-head (λ (x : FilterState). HasKept x (gives x) P (k x)) f fs all in
      let rest = kept_sums fs g (All-tail (λ (x : FilterState). HasKept x (gives x) P (k x)) f fs all) in
      omega (
        arith,
        here.sums g,
        rest,
        sum_by-append (λ r. g (External r)) (gives f) (flat_map gives fs),
        sum_by-cons (λ (x : FilterState). sum_by (λ r. g (External r)) x.held) f fs,
        sum_by-cons (λ (x : FilterState). sum_by g x.out) f fs,
        sum_by-cons (λ (x : FilterState). sum_by (λ r. g (External r)) x.held) (k f) (map k fs),
        sum_by-cons (λ (x : FilterState). sum_by g x.out) (k f) (map k fs),
      )

  pub kept_passing : (fs : List FilterState) (h t : ℕ) → AllKeep fs → in_out (is_named h t) (map k fs) + passed h t fs ≡ in_out (is_named h t) fs + passed h t (map k fs)
  kept_passing [] h t all = refl
  kept_passing (f ∷ fs) h t all =
      let here = All-head (λ (x : FilterState). HasKept x (gives x) P (k x)) f fs all in
      let rest = kept_passing fs h t (All-tail (λ (x : FilterState). HasKept x (gives x) P (k x)) f fs all) in
      omega (
        arith,
        here.passing h t,
        rest,
        sum_by-cons (λ (x : FilterState). sum_by (is_named h t) x.out) f fs,
        sum_by-cons (times_passed h t) f fs,
        sum_by-cons (λ (x : FilterState). sum_by (is_named h t) x.out) (k f) (map k fs),
        sum_by-cons (times_passed h t) (k f) (map k fs),
      )

  pub kept_held : (fs : List FilterState) → AllKeep fs → All (λ f. All (λ r. P (External r)) f.held) (map k fs) × All (λ f. All P f.out) (map k fs)
  kept_held fs all = (
    All-map (λ (f : FilterState). All (λ r. P (External r)) f.held) k fs (λ i f low. (all i f low).held),
    All-map (λ (f : FilterState). All P f.out) k fs (λ i f low. (all i f low).out),
  )

-- Every record has a verdict.
pub record_verdict : (f : FilterState) (r : Record) → (v : Verdict) × IsTaken f r v (with_record f r)
record_verdict f r = elim (is_known f r.host r.toid) as (λ b. is_known f r.host r.toid ≡ b → (v : Verdict) × IsTaken f r v (cond b f (cond (is_free f r) (released (with_held f r)) (with_held f r)))) [
  | true ↦ λ known. (Dropped, (known, refl))
  | false ↦ λ new. elim (is_free f r) as (λ b. is_free f r ≡ b → (v : Verdict) × IsTaken f r v (cond b (released (with_held f r)) (with_held f r))) [
    | true ↦ λ free. (Passed, (new, free, refl))
    | false ↦ λ unfree. (Held, (new, unfree, refl))
  ] refl
] refl

-- a record is known and changes nothing, or the filter has it then
pub record_takes : (f : FilterState) (r : Record) (P : Item → Type 0) → IsSteady f → FitsFilter f r → All (λ y. P (External y)) f.held → All P f.out → P (External r)
    → ((is_known f r.host r.toid ≡ true) × (with_record f r ≡ f)) ⊎ (IsSteady (with_record f r) × HasTaken f (λ g. g (External r)) P (with_record f r))
record_takes f r P steady fits held out here = by_verdict (record_verdict f r).0 (record_verdict f r).1
  where
    by_verdict : (v : Verdict) → IsTaken f r v (with_record f r) → ((is_known f r.host r.toid ≡ true) × (with_record f r ≡ f)) ⊎ (IsSteady (with_record f r) × HasTaken f (λ g. g (External r)) P (with_record f r))
    by_verdict Dropped took = inl took
    by_verdict Held took = inr (taken_steady f r Held (with_record f r) steady fits took, verdict_takes f r Held (with_record f r) P steady fits took held out here)
    by_verdict Passed took = inr (taken_steady f r Passed (with_record f r) steady fits took, verdict_takes f r Passed (with_record f r) P steady fits took held out here)

-- All filters stay sound when one of them is given an item, or hands out what it passed on.
module _ (m : List (List Share)) (a : Option Announcement) (fs : List FilterState) (sound : AreSound m a fs) where
  pub out_sound : (i : ℕ) → i < length fs → (items : List Item) → AreSound m a (set fs i (record (filter_at fs i) { out = items }))
  out_sound i low items = sound_set m a fs i (record (filter_at fs i) { out = items }) (steady_out (filter_at fs i) items (sound.each i no_filter low)) (sound.numbers i low) (sound.one_map i no_filter low) refl low sound

  pub draft_sound : (i : ℕ) → i < length fs → (draft : Draft) → AreSound m a (set fs i (with_item (filter_at fs i) (Local draft)))
  draft_sound i low draft = out_sound i low ((filter_at fs i).out ++ Local draft ∷ [])

  -- a record fits its champion
  pub champion_fits : (r : Record) → r.host < length m → 1 ≤ r.toid → FitsFilter (filter_at fs (champion m r.host r.toid)) r
  champion_fits r host first =
      let low : champion m r.host r.toid < length fs = sound.there r.host r.toid in
      let one_map = sound.one_map (champion m r.host r.toid) no_filter low in record {
        host = omega (arith, host, ap (length {A = List Share}) one_map);
        first = first;
        own = ap (λ x. champion x r.host r.toid) one_map ∙ sym (sound.numbers (champion m r.host r.toid) low);
      }

  pub record_sound : (r : Record) → r.host < length m → 1 ≤ r.toid → AreSound m a (set fs (champion m r.host r.toid) (with_item (filter_at fs (champion m r.host r.toid)) (External r)))
  record_sound r host first =
      let verdict = record_verdict (filter_at fs (champion m r.host r.toid)) r in
      take_sound m a fs r verdict.0 (with_record (filter_at fs (champion m r.host r.toid)) r) sound (champion_fits r host first) verdict.1
