-- What the collection floor rises to, which entries may go, and how they go.
use Rattle.std.proofs.Common.{◌≡◌, ℕ, zero, suc, ◌<◌, ◌≤◌, max, Bool, true, false, cond, ltb, leb, eqb, not, ◌&&◌, ◌||◌, List, [], ◌∷◌, length, map, get_or, take, length-take, Option, Some, None, slice_get, is_some, IsSome, refl, ap, ap₂, sym, ◌∙◌, subst, inl, inr, arith}
use Rattle.std.specs.List.{All, AllPairs, find, fold, list_all}
use Rattle.std.specs.Option.{option_and_then, unwrap_or}
use Rattle.std.proofs.lemmas.Bool.{cases_lt, cases_eq, cond-true, cond-false, cond_both, le-leb, lt-leb, lt-ltb, le-ltb, leb-true, ne_eqb, eq-eqb, and_parts}
use Rattle.std.proofs.lemmas.List.{get_or_default, get_or-map, get_or-take, length-map}
use Rattle.std.proofs.lemmas.List.Elements.{All-nil, All-cons, All-head, All-tail, All-filter, Contains-get_or}
use Rattle.std.proofs.lemmas.List.Kept.{AllPairs-filter}
use Rattle.causal_deps.specs.declared.record.Kind.{Kind}
use Rattle.causal_deps.specs.declared.record.Kind.TheVariants.{Append, Put, Del}
use Rattle.causal_deps.specs.Kinds.{is_put, is_update}
use Rattle.causal_deps.specs.declared.answers.Newest.{Newest}
use Rattle.causal_deps.specs.declared.record.Place.{Place}
use Rattle.causal_deps.specs.declared.record.Record.{Record}
use Rattle.awareness_table.specs.Awareness.{is_known_everywhere}
use Rattle.flstore_rounds.specs.Heads.{head}
use Rattle.log_gc.specs.Floors.{may_be_let_go, replaced, unless_put}
use Rattle.maintainer.specs.declared.slot.Slot.{Slot}
use Rattle.maintainer.specs.Maintainers.{AreRising, MaintainerState, collected, value_at}
use Rattle.maintainer.proofs.CountLemmas.{entry_counts, entry_shown}
use Rattle.maintainer.proofs.StateLemmas.{collected_value}
use Rattle.tag_indexer.specs.declared.post.Post.{Post}
use Rattle.tag_indexer.specs.Indexers.{IndexerState, newest_lid, newest_position}
use Rattle.tag_indexer.specs.Rows.{home, is_row_of, is_tagged, newest_row}
use Rattle.stage_world.specs.MoreTurns.{place_of_entry}
use Rattle.stage_world.specs.Stages.{no_indexer}
use Rattle.stage_turns.specs.Changing.{has_some}
use Rattle.stage_turns.specs.Collecting.{AreHomes, IsKeyed, home_among, lid_at, lid_of_place, may_go, newest_for, newest_of, to_go}

-- a newest row is at or below s
newest_low : (rows : List Post) (key : List ℕ) (s : ℕ) → newest_row rows key s ≤ s
newest_low rows key s = from rows 0 (omega arith)
  where
    from : (xs : List Post) (best : ℕ) → best ≤ s → fold (λ b post. cond (is_update post.kind && is_row_of key s post) (max b post.place.lid) b) best xs ≤ s
    from [] best low = low
    from (x ∷ xs) best low = cond_both (is_update x.kind && is_row_of key s x) (max best x.place.lid) best (λ b. fold (λ c post. cond (is_update post.kind && is_row_of key s post) (max c post.place.lid) c) b xs ≤ s)
        (λ is. let row : is_row_of key s x ≡ true = (and_parts (is_update x.kind) (is_row_of key s x) is).1 in
        let here : x.place.lid ≤ s = leb-true x.place.lid s (and_parts (leb x.place.lid s) (is_tagged key x) row).0 in
        from xs (max best x.place.lid) (omega arith))
        (λ _. from xs best low)

-- what an indexer answers at the floor tells whether a later update is there
told_later : (i : IndexerState) (key : List ℕ) (floor lid : ℕ) → replaced floor lid (newest_position i key floor) ≡ (leb floor (head i.pair) && ltb lid (newest_row i.rows key floor))
told_later i key floor lid = elim (cases_lt (head i.pair) floor) [
  | inl behind ↦ rw (lt-ltb (head i.pair) floor behind, lt-leb floor (head i.pair) behind) refl
  | inr covered ↦ rw (le-ltb (head i.pair) floor covered, le-leb floor (head i.pair) covered) (elim (cases_eq (newest_row i.rows key floor) 0) [
    | inl none ↦ rw none (sym (le-ltb lid 0 (omega arith)))
    | inr some ↦ rw (ne_eqb (newest_row i.rows key floor) 0 some, le-leb (newest_row i.rows key floor) floor (newest_low i.rows key floor)) (and_true (ltb lid (newest_row i.rows key floor)))
  ])
]
  where
    and_true : (b : Bool) → (b && true) ≡ b
    and_true true = refl
    and_true false = refl

-- where the last update of a put's key is, as its home tells it
pub newest_told : (is : List IndexerState) (r : Record) (s : ℕ) (key : List ℕ) (home_is : IndexerState) (told : Newest) (result : Option ℕ) → r.kind ≡ Put → slice_get r.tags 0 ≡ Some key → home_is ≡ home_among is key
    → newest_lid told ≡ newest_position home_is key s → result ≡ newest_lid told → result ≡ newest_of is r s
newest_told is r s key home_is told result put first home_at position lid =
    lid ∙ position ∙ ap (λ (i : IndexerState). newest_position i key s) home_at
    ∙ sym (ap (λ (k : Kind). newest_for is k r.tags s) put ∙ ap (λ o. option_and_then (λ name. newest_position (home_among is name) name s) o) first)

-- a put with one tag may go exactly where its home says so
put_replaced : (is : List IndexerState) (floor lid : ℕ) (tags : List (List ℕ)) → length tags ≡ 1
    → replaced floor lid (newest_for is Put tags floor) ≡ list_all (λ key. leb floor (head (home_among is key).pair) && ltb lid (newest_row (home_among is key).rows key floor)) tags
put_replaced is floor lid [] one = absurd (omega (arith, one))
put_replaced is floor lid (key ∷ []) one = told_later (home_among is key) key floor lid ∙ sym (all_one (leb floor (head (home_among is key).pair) && ltb lid (newest_row (home_among is key).rows key floor)))
  where
    all_one : (b : Bool) → (b && true) ≡ b
    all_one true = refl
    all_one false = refl
put_replaced is floor lid (key ∷ other ∷ tags) one = absurd (omega (arith, one))

kind_replaced : (is : List IndexerState) (floor lid : ℕ) (kind : Kind) (tags : List (List ℕ)) → (is_put kind ≡ true → length tags ≡ 1)
    → unless_put kind (replaced floor lid (newest_for is kind tags floor))
    ≡ (not (is_put kind) || list_all (λ key. leb floor (head (home_among is key).pair) && ltb lid (newest_row (home_among is key).rows key floor)) tags)
kind_replaced is floor lid Append tags one = refl
kind_replaced is floor lid Put tags one = put_replaced is floor lid tags (one refl)
kind_replaced is floor lid Del tags one = refl

-- the test of the collection floor, with what the home of its key says, is that of the stages
pub may_go_is : (is : List IndexerState) (floor : ℕ) (table : List (List ℕ)) (dcs : ℕ) (e : Slot Record) (newer : Option ℕ) → IsKeyed dcs e.value → newer ≡ newest_of is e.value floor
    → may_be_let_go floor table e.lid e.value newer ≡ may_go floor table is e
may_go_is is floor table dcs e newer keyed told =
    ap (λ o. may_be_let_go floor table e.lid e.value o) told
    ∙ ap (λ b. leb e.lid floor && (is_known_everywhere table e.value.host e.value.toid && b)) (kind_replaced is floor e.lid e.value.kind e.value.tags keyed.key)

pub above_stays : (is : List IndexerState) (floor : ℕ) (table : List (List ℕ)) (e : Slot Record) → floor < e.lid → false ≡ may_go floor table is e
above_stays is floor table e high = ap (λ b. b && (is_known_everywhere table e.value.host e.value.toid && (not (is_put e.value.kind)
    || list_all (λ key. leb floor (head (home_among is key).pair) && ltb e.lid (newest_row (home_among is key).rows key floor)) e.value.tags))) (sym (lt-leb e.lid floor high))

-- the first element that passes a test
first_found : {X : Type 0} (test : X → Bool) (xs : List X) (n : ℕ) (d : X) → n < length xs → test (get_or xs n d) ≡ true → ((i : ℕ) → i < n → test (get_or xs i d) ≡ false) → find test xs ≡ Some (get_or xs n d)
first_found test [] n d within passes before = absurd (omega arith)
first_found test (x ∷ xs) zero d within passes before = cond-true (test x) (Some x) (find test xs) passes
first_found test (x ∷ xs) (suc n) d within passes before =
    cond-false (test x) (Some x) (find test xs) (before 0 (omega arith)) ∙ first_found test xs n d (omega arith) passes (λ i low. before (suc i) (omega arith))

-- indexers that stand by number are found by number
pub home_is : (is : List IndexerState) (tag : List ℕ) (at : ℕ) (x : IndexerState) → AreHomes is → at ≡ home tag (length is) → at < length is → x ≡ get_or is at x
    → (x ≡ home_among is tag) × (home tag x.indexers ≡ x.number)
home_is is tag at x homes here within stands =
    let there : x ≡ get_or is at no_indexer = stands ∙ get_or_default is at x no_indexer within in
    let passes : eqb (get_or is at no_indexer).number (home tag (length is)) ≡ true = eq-eqb (get_or is at no_indexer).number (home tag (length is)) ((homes.each at within).0 ∙ here) in
    let found : find (λ (i : IndexerState). eqb i.number (home tag (length is))) is ≡ Some (get_or is at no_indexer) = first_found (λ (i : IndexerState). eqb i.number (home tag (length is))) is at no_indexer within passes
    (λ i low. ne_eqb (get_or is i no_indexer).number (home tag (length is)) (λ same. absurd (omega (arith, low, (homes.each i (omega arith)).0, same, here)))) in (
      there ∙ sym (ap (λ o. unwrap_or o no_indexer) found),
      ap (λ (i : IndexerState). home tag i.indexers) there ∙ ap (home tag) (homes.each at within).1 ∙ sym here ∙ sym (homes.each at within).0 ∙ ap (λ (i : IndexerState). i.number) (sym there),
    )

-- how they go

-- a value stays where others are let go
value_stays : (m : MaintainerState Record) (p : ℕ) (ps : List ℕ) → All (λ q. q ≡ p → ⊥) ps → value_at p (fold collected m ps).entries ≡ value_at p m.entries
value_stays m p [] others = refl
value_stays m p (q ∷ qs) others =
    value_stays (collected m q) p qs (All-tail (λ (x : ℕ). x ≡ p → ⊥) q qs others)
    ∙ collected_value m q p ∙ cond-false (eqb q p) None (value_at p m.entries) (ne_eqb q p (All-head (λ (x : ℕ). x ≡ p → ⊥) q qs others))

pub still_there : (m now : MaintainerState Record) (zs ps : List ℕ) (i : ℕ) → zs ≡ ps → i < length zs → AllPairs (λ a b. a < b) ps → All (λ q. IsSome (value_at q m.entries)) ps
    → now ≡ fold collected m (take i ps) → IsSome (value_at (get_or zs i 0) now.entries)
still_there m now zs ps i read inside rising there at =
    let within : i < length ps = omega (arith, ap length read) in
    let p : ℕ = get_or ps i 0 in
    let others : All (λ q. q ≡ p → ⊥) (take i ps) = λ k d short same.
    let early : k < i = omega (arith, length-take i ps) in
    absurd (omega (arith, same, get_or-take i ps k d early, rising k i d early within, get_or_default ps i d 0 within)) in
    let same : value_at p now.entries ≡ value_at p m.entries = ap (λ (n : MaintainerState Record). value_at p n.entries) at ∙ value_stays m p (take i ps) others in
    subst (λ qs. IsSome (value_at (get_or qs i 0) now.entries)) (sym read) (subst IsSome (sym same) (there i 0 within))

-- the positions of entries that may go

pub places_lids : (es : List (Slot Record)) → map lid_of_place (map place_of_entry es) ≡ map lid_at es
places_lids [] = refl
places_lids (e ∷ es) = ap (λ ps. e.lid ∷ ps) (places_lids es)

lids_rising : (es : List (Slot Record)) → AllPairs (λ (a b : Slot Record). a.lid < b.lid) es → AllPairs (λ a b. a < b) (map lid_at es)
lids_rising [] rising = λ i j d lt inside. absurd (omega arith)
lids_rising (x ∷ xs) rising = λ i j d lt inside.
    let within : j < length (x ∷ xs) = omega (arith, length-map (x ∷ xs) lid_at) in
    omega (arith, rising i j x lt within, get_or-map lid_at (x ∷ xs) i x d (omega arith), get_or-map lid_at (x ∷ xs) j x d within)

lids_there : (es gone : List (Slot Record)) → All (λ e. IsSome (value_at e.lid es)) gone → All (λ p. IsSome (value_at p es)) (map lid_at gone)
lids_there es [] all = All-nil (λ p. IsSome (value_at p es))
lids_there es (e ∷ gone) all = All-cons (λ p. IsSome (value_at p es)) e.lid (map lid_at gone) (All-head (λ (x : Slot Record). IsSome (value_at x.lid es)) e gone all) (lids_there es gone (All-tail (λ (x : Slot Record). IsSome (value_at x.lid es)) e gone all))

entry_shows : (es : List (Slot Record)) → All (λ e. IsSome (value_at e.lid es)) es
entry_shows es k d within =
    let e : Slot Record = get_or es k d in
    ap is_some (entry_shown e.lid es (entry_counts e es (Contains-get_or es k d within))).3

-- These places and positions are those of the entries that may go: each stands there, and they rise.
pub record AreGoing (gone es : List (Slot Record)) (places : List Place) (ps : List ℕ) : Type 0 where
  pub names : places ≡ map place_of_entry gone
  pub lids : ps ≡ map lid_at gone
  pub there : All (λ p. IsSome (value_at p es)) ps
  pub rising : AllPairs (λ a b. a < b) ps

pub are_going : (floor : ℕ) (table : List (List ℕ)) (is read_is : List IndexerState) (es read_es : List (Slot Record)) (places : List Place) (ps : List ℕ) → read_is ≡ is → read_es ≡ es → AreRising es
    → places ≡ map place_of_entry (to_go floor table read_is read_es) → ps ≡ map lid_of_place places → AreGoing (to_go floor table is es) es places ps
are_going floor table is read_is es read_es places ps same_is same_es rising are also =
    let gone : List (Slot Record) = to_go floor table is es in
    let named : places ≡ map place_of_entry gone = are ∙ ap₂ (λ xs ys. map place_of_entry (to_go floor table xs ys)) same_is same_es in
    let these : ps ≡ map lid_at gone = also ∙ ap (map lid_of_place) named ∙ places_lids gone in
    let pairs : AllPairs (λ (a b : Slot Record). a.lid < b.lid) es = λ i j d lt inside. rising.below i j d lt inside in
    record {
      names = named;
      lids = these;
      there = subst (All (λ p. IsSome (value_at p es))) (sym these) (lids_there es gone (All-filter (may_go floor table is) (λ (e : Slot Record). IsSome (value_at e.lid es)) es (entry_shows es)));
      rising = subst (AllPairs (λ a b. a < b)) (sym these) (lids_rising gone (AllPairs-filter (λ (a b : Slot Record). a.lid < b.lid) (may_go floor table is) es pairs));
    }

-- some are to go exactly where there are places
pub has_some_map : {X Y : Type 0} (f : X → Y) (xs : List X) (ys : List Y) → ys ≡ map f xs → has_some ys ≡ has_some xs
has_some_map f [] ys are = ap has_some are
has_some_map f (x ∷ xs) ys are = ap has_some are
