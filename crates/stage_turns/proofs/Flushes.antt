-- Items go from a batcher to the filters, one after another.
use Rattle.std.proofs.Common.{◌≡◌, ℕ, ◌<◌, true, false, List, [], ◌∷◌, ◌++◌, length, map, fold, get_or, set, refl, ap, ap₂, sym, ◌∙◌, subst, inl, inr, arith, cond, append_assoc, append-nil}
use Rattle.std.specs.List.{All}
use Rattle.std.proofs.lemmas.List.{get_or-set_same, get_or-set_other, length-set}
use Rattle.std.proofs.lemmas.List.Elements.{All-get_or, All-head, All-tail, All-cons}
use Rattle.std.proofs.lemmas.Bool.{cases_eq}
use Rattle.causal_deps.specs.declared.record.Record.{Record}
use Rattle.causal_deps.specs.declared.record.Item.{Item}
use Rattle.causal_deps.specs.declared.record.Item.TheVariants.{Local, External}
use Rattle.abstract_log.specs.declared.script.FlushItem.{FlushItem}
use Rattle.abstract_log.specs.declared.script.Way.{Way}
use Rattle.abstract_log.specs.declared.script.Way.TheVariants.{Passed as PassedWay, Held as HeldWay, Dropped as DroppedWay}
use Rattle.abstract_log.specs.declared.script.Outcome.TheVariants.{Flushed}
use Rattle.toid_filter.specs.declared.champions.Share.{Share}
use Rattle.toid_filter.specs.declared.filter.Verdict.{Verdict}
use Rattle.toid_filter.specs.declared.filter.Verdict.TheVariants.{Passed, Held, Dropped}
use Rattle.toid_filter.specs.Champions.{champion}
use Rattle.toid_filter.specs.Filters.{FilterState, IsTaken, filter_at, no_filter, with_item, with_held, released, is_known, is_free}
use Rattle.batcher.specs.Batchers.{filter_for, parcel_of, HasNumber}
use Rattle.batcher.specs.declared.Parcel.{Parcel}
use Rattle.stage_world.specs.Turns.{taken_by, flush_item, flush_items, unless_empty, way_of}
use Rattle.stage_world.proofs.ListLemmas.{All-set_at}
use Rattle.stage_turns.specs.Flushing.{AreServing, IsOfHosts, MayFlush, MayTake, taken_from, told_of}

-- the way that a verdict is
abbrev pub way_by : Verdict → Way
way_by Passed = PassedWay
way_by Held = HeldWay
way_by Dropped = DroppedWay

pub way_taken : (f g : FilterState) (r : Record) (v : Verdict) → IsTaken f r v g → way_by v ≡ way_of f (External r)
way_taken f g r Dropped (known, _) = rw known refl
way_taken f g r Held (known, free, _) = rw (known, free) refl
way_taken f g r Passed (known, free, _) = rw (known, free) refl

-- a filter keeps its number and its map
pub number_kept : (f : FilterState) (item : Item) → (with_item f item).number ≡ f.number
number_kept f (Local draft) = refl
number_kept f (External r) = elim (is_known f r.host r.toid) as (λ b. (cond b f (cond (is_free f r) (released (with_held f r)) (with_held f r))).number ≡ f.number) [
  | true ↦ refl
  | false ↦ elim (is_free f r) as (λ b. (cond b (released (with_held f r)) (with_held f r)).number ≡ f.number) [ true ↦ refl | false ↦ refl ]
]

pub map_kept : (f : FilterState) (item : Item) → (with_item f item).map ≡ f.map
map_kept f (Local draft) = refl
map_kept f (External r) = elim (is_known f r.host r.toid) as (λ b. (cond b f (cond (is_free f r) (released (with_held f r)) (with_held f r))).map ≡ f.map) [
  | true ↦ refl
  | false ↦ elim (is_free f r) as (λ b. (cond b (released (with_held f r)) (with_held f r)).map ≡ f.map) [ true ↦ refl | false ↦ refl ]
]

-- a parcel for so many filters
pub record IsParcelFor (shares : List (List Share)) (n : ℕ) (p : Parcel) : Type 0 where
  pub filter : p.filter ≡ filter_for shares n p.item
  pub item : IsOfHosts (length shares) p.item

-- what became of the items of parcels that went to their filters one after another
abbrev pub told_by : List FilterState → List Parcel → List FlushItem
told_by fs [] = []
told_by fs (p ∷ ps) = told_of fs p ∷ told_by (taken_from fs p) ps

pub parcel_there : (shares : List (List Share)) (fs : List FilterState) (i : ℕ) (item : Item) → AreServing shares fs → i ≡ filter_for shares (length fs) item → i < length fs
parcel_there shares fs i (Local draft) serving is =
    let some : 0 < length fs = omega (arith, serving.there 0 0) in
    omega (arith, is, some)
parcel_there shares fs i (External r) serving is = omega (arith, is, serving.there r.host r.toid)

pub parcel_may : (shares : List (List Share)) (fs : List FilterState) (i : ℕ) (item : Item) → AreServing shares fs → i ≡ filter_for shares (length fs) item → IsOfHosts (length shares) item
    → MayTake (filter_at fs i) item
parcel_may shares fs i (Local draft) serving is of_hosts = tt
parcel_may shares fs i (External r) serving is of_hosts =
    let within : i < length fs = parcel_there shares fs i (External r) serving is in
    let one : (filter_at fs i).map ≡ shares = All-get_or (λ (f : FilterState). f.map ≡ shares) fs i no_filter within serving.one_map in
    record {
      host = omega (arith, of_hosts.0, ap (λ (m : List (List Share)). length m) one);
      first = of_hosts.1;
      own = ap (λ m. champion m r.host r.toid) one ∙ sym is ∙ sym (serving.numbers i within);
    }

pub serving_taken : (shares : List (List Share)) (fs : List FilterState) (p : Parcel) → AreServing shares fs → AreServing shares (taken_from fs p)
serving_taken shares fs p serving =
    let f : FilterState = with_item (filter_at fs p.filter) p.item in
    let size : length (set fs p.filter f) ≡ length fs = length-set fs p.filter f in
    record {
      one_map = All-set_at (λ (g : FilterState). g.map ≡ shares) fs p.filter f no_filter (λ _ here. map_kept (filter_at fs p.filter) p.item ∙ here) serving.one_map;
      numbers = λ i within. elim (cases_eq i p.filter) [
        | inl same ↦
            let inside : p.filter < length fs = omega (arith, within, size, same) in
            let here : filter_at (set fs p.filter f) i ≡ f = ap (filter_at (set fs p.filter f)) same ∙ get_or-set_same fs p.filter f no_filter inside in
            ap (λ (g : FilterState). g.number) here ∙ number_kept (filter_at fs p.filter) p.item ∙ serving.numbers p.filter inside ∙ sym same
        | inr other ↦
            let there : filter_at (set fs p.filter f) i ≡ filter_at fs i = get_or-set_other fs p.filter i f no_filter other in
            ap (λ (g : FilterState). g.number) there ∙ serving.numbers i (omega (arith, within, size))
      ];
      there = λ h t. omega (arith, serving.there h t, size);
      few = omega (arith, serving.few, size);
    }

-- Some parcels went to the filters `now`, which were `old`, and those that are left still may.
pub record AreGoing (shares : List (List Share)) (old : List FilterState) (all : List Parcel) (now : List FilterState) (told : List FlushItem) (rest : List Parcel) : Type 0 where
  pub serving : AreServing shares now
  pub parcels : All (IsParcelFor shares (length now)) rest
  pub filters : fold taken_from now rest ≡ fold taken_from old all
  pub ways : told ++ told_by now rest ≡ told_by old all

pub first_may : (shares : List (List Share)) (old : List FilterState) (all : List Parcel) (now : List FilterState) (told : List FlushItem) (rest : List Parcel) (p : Parcel) (ps : List Parcel)
    → rest ≡ p ∷ ps → AreGoing shares old all now told rest → (p.filter < length now) × MayTake (filter_at now p.filter) p.item
first_may shares old all now told rest p ps is going =
    let first : IsParcelFor shares (length now) p = All-head (IsParcelFor shares (length now)) p ps (subst (All (IsParcelFor shares (length now))) is going.parcels) in
    (parcel_there shares now p.filter p.item going.serving first.filter, parcel_may shares now p.filter p.item going.serving first.filter first.item)

pub one_gone : (shares : List (List Share)) (old : List FilterState) (all : List Parcel) (now : List FilterState) (told : List FlushItem) (rest : List Parcel) (p : Parcel) (ps : List Parcel)
    (next : List FilterState) (more : List FlushItem) → rest ≡ p ∷ ps → next ≡ taken_from now p → more ≡ told ++ told_of now p ∷ [] → AreGoing shares old all now told rest
    → AreGoing shares old all next more ps
one_gone shares old all now told rest p ps next more is went says going =
    let size : length next ≡ length now = ap (λ (gs : List FilterState). length gs) went ∙ length-set now p.filter (with_item (filter_at now p.filter) p.item) in
    let left : All (IsParcelFor shares (length now)) ps = All-tail (IsParcelFor shares (length now)) p ps (subst (All (IsParcelFor shares (length now))) is going.parcels) in
    record {
      serving = subst (AreServing shares) (sym went) (serving_taken shares now p going.serving);
      parcels = subst (λ n. All (IsParcelFor shares n) ps) (sym size) left;
      filters = ap (λ gs. fold taken_from gs ps) went ∙ ap (fold taken_from now) (sym is) ∙ going.filters;
      ways = ap₂ (λ (xs : List FlushItem) (gs : List FilterState). xs ++ told_by gs ps) says went
          ∙ append_assoc told (told_of now p ∷ []) (told_by (taken_from now p) ps) ∙ ap (λ (xs : List Parcel). told ++ told_by now xs) (sym is) ∙ going.ways;
    }

pub all_may_go : (shares : List (List Share)) (fs : List FilterState) (items : List Item) → MayFlush shares fs items → AreGoing shares fs (map (parcel_of shares (length fs)) items) fs [] (map (parcel_of shares (length fs)) items)
all_may_go shares fs items may = record {
  serving = may.serving;
  parcels = parcels_for items may.of_hosts;
  filters = refl;
  ways = refl;
}
  where
    parcels_for : (xs : List Item) → All (IsOfHosts (length shares)) xs → All (IsParcelFor shares (length fs)) (map (parcel_of shares (length fs)) xs)
    parcels_for [] all = λ k d within. absurd (omega (arith, within))
    parcels_for (x ∷ xs) all =
        All-cons (IsParcelFor shares (length fs)) (parcel_of shares (length fs) x) (map (parcel_of shares (length fs)) xs)
        (record { filter = refl; item = All-head (IsOfHosts (length shares)) x xs all }) (parcels_for xs (All-tail (IsOfHosts (length shares)) x xs all))

-- the parcels of items take the filters as the items do, and tell the same
module _ (shares : List (List Share)) (n : ℕ) where
  step : (fs : List FilterState) (item : Item) → length fs ≡ n → taken_from fs (parcel_of shares n item) ≡ taken_by shares fs item
  step fs item size = ap (λ k. set fs (filter_for shares k item) (with_item (filter_at fs (filter_for shares k item)) item)) (sym size)

  after : (fs : List FilterState) (item : Item) → length fs ≡ n → length (taken_by shares fs item) ≡ n
  after fs item size = length-set fs (filter_for shares (length fs) item) (with_item (filter_at fs (filter_for shares (length fs) item)) item) ∙ size

  pub parcels_fold : (fs : List FilterState) (items : List Item) → length fs ≡ n → fold taken_from fs (map (parcel_of shares n) items) ≡ fold (taken_by shares) fs items
  parcels_fold fs [] size = refl
  parcels_fold fs (item ∷ items) size =
      ap (λ gs. fold taken_from gs (map (parcel_of shares n) items)) (step fs item size) ∙ parcels_fold (taken_by shares fs item) items (after fs item size)

  pub parcels_told : (fs : List FilterState) (items : List Item) → length fs ≡ n → told_by fs (map (parcel_of shares n) items) ≡ flush_items shares fs items
  parcels_told fs [] size = refl
  parcels_told fs (item ∷ items) size =
      let told : told_of fs (parcel_of shares n item) ≡ flush_item shares fs item =
      ap (λ k. told_of fs (record { filter = filter_for shares k item; item = item })) (sym size) in
      let others : told_by (taken_from fs (parcel_of shares n item)) (map (parcel_of shares n) items) ≡ flush_items shares (taken_by shares fs item) items =
      ap (λ gs. told_by gs (map (parcel_of shares n) items)) (step fs item size) ∙ parcels_told (taken_by shares fs item) items (after fs item size) in
      ap₂ (λ (x : FlushItem) xs. x ∷ xs) told others

-- where no item is left, the flush is done
pub record IsFlushed (shares : List (List Share)) (old : List FilterState) (items : List Item) (now : List FilterState) (told : List FlushItem) : Type 0 where
  pub filters : now ≡ fold (taken_by shares) old items
  pub outcome : unless_empty told (Flushed told) ≡ unless_empty items (Flushed (flush_items shares old items))

unless_told : (shares : List (List Share)) (fs : List FilterState) (items : List Item) → unless_empty (flush_items shares fs items) (Flushed (flush_items shares fs items)) ≡ unless_empty items (Flushed (flush_items shares fs items))
unless_told shares fs [] = refl
unless_told shares fs (item ∷ items) = refl

pub all_gone : (shares : List (List Share)) (old : List FilterState) (items : List Item) (n : ℕ) (all : List Parcel) (now : List FilterState) (told : List FlushItem) (rest : List Parcel)
    → n ≡ length old → all ≡ map (parcel_of shares n) items → length rest ≡ 0 → AreGoing shares old all now told rest → IsFlushed shares old items now told
all_gone shares old items n all now told (p ∷ ps) size is' none going = absurd (omega (arith, none))
all_gone shares old items n all now told [] size is' none' going =
    let is : all ≡ map (parcel_of shares (length old)) items = is' ∙ ap (λ k. map (parcel_of shares k) items) size in
    let filters : now ≡ fold taken_from old all = going.filters in
    let ways : told ≡ told_by old all = sym (append-nil told) ∙ going.ways in
    let says : told ≡ flush_items shares old items = ways ∙ ap (told_by old) is ∙ parcels_told shares (length old) old items refl in
    record {
      filters = filters ∙ ap (fold taken_from old) is ∙ parcels_fold shares (length old) old items refl;
      outcome = ap (λ xs. unless_empty xs (Flushed xs)) says ∙ unless_told shares old items;
    }

pub have_numbers : (shares : List (List Share)) (fs : List FilterState) (items : List Item) → MayFlush shares fs items → All HasNumber items
have_numbers shares fs items may = by_item items may.of_hosts
  where
    numbered : (x : Item) → IsOfHosts (length shares) x → HasNumber x
    numbered (Local draft) is = tt
    numbered (External r) is = is.1

    by_item : (xs : List Item) → All (IsOfHosts (length shares)) xs → All HasNumber xs
    by_item xs all = λ k d within. numbered (get_or xs k d) (all k d within)

pub may_start : (shares : List (List Share)) (fs : List FilterState) (items : List Item) (n : ℕ) (told : List FlushItem) (rest : List Parcel) → MayFlush shares fs items
    → n ≡ length fs → told ≡ [] → rest ≡ map (parcel_of shares n) items → AreGoing shares fs rest fs told rest
may_start shares fs items n told rest may size none is =
    let all : rest ≡ map (parcel_of shares (length fs)) items = is ∙ ap (λ k. map (parcel_of shares k) items) size in
    subst (λ ps. AreGoing shares fs ps fs told ps) (sym all) (subst (λ xs. AreGoing shares fs (map (parcel_of shares (length fs)) items) fs xs (map (parcel_of shares (length fs)) items)) (sym none) (all_may_go shares fs items may))
