-- What the listed positions answer is what the rows have.
use Rattle.std.proofs.Common.{◌≡◌, ◌≢◌, ℕ, zero, suc, ◌+◌, ◌-◌, ◌<◌, ◌≤◌, true, false, cond, eqb, leb, ◌&&◌, List, [], ◌∷◌, ◌++◌, length, take, get_or, Option, Some, None, refl, ap, sym, ◌∙◌, subst, inl, inr, arith, option_map, option_to_list}
use Rattle.std.specs.List.{All, Contains, find, filter_map, cons_option}
use Rattle.std.specs.Option.{option_map_or}
use Rattle.std.proofs.lemmas.List.{append-nil, get_or_default, get_or-take, length-take-le, take_more, take_all}
use Rattle.std.proofs.lemmas.List.Elements.{All-contains, Contains-push_cases, filter_map-append}
use Rattle.std.proofs.lemmas.Bool.{cases_lt, cases_eq, cond_both, cond-true, and_parts, and_from, leb-true, le-leb, eqb-true, true≢false}
use Rattle.causal_deps.specs.declared.answers.Newest.TheVariants.{Absent}
use Rattle.causal_deps.specs.declared.record.Place.{Place}
use Rattle.causal_deps.specs.Kinds.{is_update}
use Rattle.abstract_log.specs.Updates.{told_by}
use Rattle.tag_indexer.specs.declared.post.Post.{Post}
use Rattle.tag_indexer.specs.Rows.{is_tagged, newest_row, tagged_row, tagged_places, told_row}
use Rattle.tag_indexer.specs.Indexers.{AreInOrder}
use Rattle.tag_indexer.specs.TagIndexes.{AreLidsRising, AreTagsListed, AreUpdatesListed, IsLastUpdate, IsListed, has_update_at, place_tagged_at}
use Rattle.tag_indexer.proofs.RowLemmas.{AreRows}
use Rattle.tag_indexer.proofs.FindLemmas.{find_row}
use Rattle.tag_indexer.proofs.NewestLemmas.{is_update_row, newest_from, newest_from-upper, newest_from-reached, told_first, told_of}
use Rattle.tag_indexer.proofs.TaggedLemmas.{find_tells, find_none}
use Rattle.tag_indexer.proofs.TagLemmas.{front_rises}

-- an update's row is found at its position
update_found : (rows : List Post) (x : Post) (key : List ℕ) (s : ℕ) → AreRows rows → Contains rows x → is_update_row key s x ≡ true → has_update_at rows key x.place.lid ≡ true
update_found rows x key s rise has is =
    let outer = and_parts (is_update x.kind) (leb x.place.lid s && is_tagged key x) is in
    let inner = and_parts (leb x.place.lid s) (is_tagged key x) outer.1 in
    ap (λ o. option_map_or (λ (post : Post). is_update post.kind && is_tagged key post) o false) (find_row rows x rise has) ∙ and_from (is_update x.kind) (is_tagged key x) outer.0 inner.1

module _ (rows : List Post) (key : List ℕ) (s : ℕ) (h : AreInOrder rows) where
  -- the last update that is listed up to s is the newest
  newest_some : (updates : List (List ℕ × List ℕ)) (lids : List ℕ) (post : Post) → AreUpdatesListed updates rows key → All (λ p. p ≤ s) lids → ((p : ℕ) → p ≤ s → IsListed updates key p → Contains lids p) → IsLastUpdate rows key lids post → post.place.lid ≡ newest_row rows key s
  newest_some updates lids post listed low whole its =
      let up : post.place.lid ≤ s = All-contains (λ (p : ℕ). p ≤ s) lids post.place.lid low its.there in
      let here : is_update_row key s post ≡ true = and_from (is_update post.kind) (leb post.place.lid s && is_tagged key post) its.is.update (and_from (leb post.place.lid s) (is_tagged key post) (le-leb post.place.lid s up) its.is.tagged) in
      let least : post.place.lid ≤ newest_row rows key s = All-contains (λ (y : Post). is_update_row key s y ≡ true → y.place.lid ≤ newest_from 0 rows key s) rows post (newest_from-upper 0 rows key s) its.is.row here in
      let most : newest_row rows key s ≤ post.place.lid = elim (newest_from-reached 0 rows key s) [
        | inl none ↦ omega (arith, none)
        | inr at ↦
            let outer = and_parts (is_update at.0.kind) (leb at.0.place.lid s && is_tagged key at.0) at.2 in
            let inner = and_parts (leb at.0.place.lid s) (is_tagged key at.0) outer.1 in
            let there : IsListed updates key at.0.place.lid = All-contains (λ (y : Post). is_update y.kind ≡ true → is_tagged key y ≡ true → IsListed updates key y.place.lid) rows at.0 listed at.1 outer.0 inner.1 in
            omega (arith, at.3, its.last at.0.place.lid (whole at.0.place.lid (leb-true at.0.place.lid s inner.0) there) (update_found rows at.0 key s h.rising at.1 at.2))
      ] in
      omega (arith, least, most)

  newest_none : (updates : List (List ℕ × List ℕ)) (lids : List ℕ) → AreUpdatesListed updates rows key → ((p : ℕ) → p ≤ s → IsListed updates key p → Contains lids p) → All (λ p. has_update_at rows key p ≡ false) lids → newest_row rows key s ≡ 0
  newest_none updates lids listed whole none = elim (newest_from-reached 0 rows key s) [
    | inl is ↦ is
    | inr at ↦
        let outer = and_parts (is_update at.0.kind) (leb at.0.place.lid s && is_tagged key at.0) at.2 in
        let inner = and_parts (leb at.0.place.lid s) (is_tagged key at.0) outer.1 in
        let there : IsListed updates key at.0.place.lid = All-contains (λ (y : Post). is_update y.kind ≡ true → is_tagged key y ≡ true → IsListed updates key y.place.lid) rows at.0 listed at.1 outer.0 inner.1 in
        absurd (true≢false (sym (update_found rows at.0 key s h.rising at.1 at.2) ∙ All-contains (λ (p : ℕ). has_update_at rows key p ≡ false) lids at.0.place.lid none (whole at.0.place.lid (leb-true at.0.place.lid s inner.0) there)))
  ]

  -- what the last update that is listed tells is what the newest row tells, and nothing is told where none is listed
  pub told_some : (updates : List (List ℕ × List ℕ)) (lids : List ℕ) (post : Post) → AreUpdatesListed updates rows key → All (λ p. p ≤ s) lids → ((p : ℕ) → p ≤ s → IsListed updates key p → Contains lids p) → IsLastUpdate rows key lids post
      → told_by post.kind post.place ≡ told_row rows (newest_row rows key s)
  told_some updates lids post listed low whole its = sym (told_of rows post h.rising its.is.row) ∙ ap (told_row rows) (newest_some updates lids post listed low whole its)

  pub told_none : (updates : List (List ℕ × List ℕ)) (lids : List ℕ) → AreUpdatesListed updates rows key → ((p : ℕ) → p ≤ s → IsListed updates key p → Contains lids p) → All (λ p. has_update_at rows key p ≡ false) lids
      → Absent ≡ told_row rows (newest_row rows key s)
  told_none updates lids listed whole none = sym (ap (told_row rows) (newest_none updates lids listed whole none) ∙ told_first rows h.first)

  -- the row at a position shows its place, if it has the tag
  place_is : (p : ℕ) → option_map (λ (post : Post). post.place) (tagged_row rows key p) ≡ place_tagged_at rows key p
  place_is p = by_row (tagged_row rows key p) refl
    where
      by_row : (o : Option Post) → tagged_row rows key p ≡ o → option_map (λ (post : Post). post.place) o ≡ place_tagged_at rows key p
      by_row (Some x) is =
          let found = find_tells (λ (post : Post). eqb post.place.lid p && is_tagged key post) rows x is in
          let tests = and_parts (eqb x.place.lid p) (is_tagged key x) found.1 in
          let at : find (λ post. eqb post.place.lid p) rows ≡ Some x = ap (λ q. find (λ post. eqb post.place.lid q) rows) (sym (eqb-true x.place.lid p tests.0)) ∙ find_row rows x h.rising found.0 in
          sym (ap (λ o. option_map_or (λ (post : Post). cond (is_tagged key post) (Some post.place) None) o None) at ∙ cond-true (is_tagged key x) (Some x.place) None tests.1)
      by_row None is = sym (nothing (find (λ post. eqb post.place.lid p) rows) refl)
        where
          nothing : (o : Option Post) → find (λ post. eqb post.place.lid p) rows ≡ o → option_map_or (λ (post : Post). cond (is_tagged key post) (Some post.place) None) o None ≡ None
          nothing None none = refl
          nothing (Some x) some =
              let found = find_tells (λ (post : Post). eqb post.place.lid p) rows x some in
              cond_both (is_tagged key x) (Some x.place) None (λ o. o ≡ None) (λ tagged. absurd (find_none (λ (post : Post). eqb post.place.lid p && is_tagged key post) rows x is found.0 (and_from (eqb x.place.lid p) (is_tagged key x) found.1 tagged))) (λ _. refl)

  -- a tagged row up to s is among the positions
  pub tagged_among : (tagged : List (List ℕ × List ℕ)) (lids : List ℕ) → AreTagsListed tagged rows key → ((p : ℕ) → p ≤ s → IsListed tagged key p → Contains lids p) → (p : ℕ) (x : Post) → p ≤ s → tagged_row rows key p ≡ Some x → Contains lids p
  tagged_among tagged lids listed whole p x low is =
      let found = find_tells (λ (post : Post). eqb post.place.lid p && is_tagged key post) rows x is in
      let tests = and_parts (eqb x.place.lid p) (is_tagged key x) found.1 in
      whole p low (subst (IsListed tagged key) (eqb-true x.place.lid p tests.0) (All-contains (λ (y : Post). is_tagged key y ≡ true → IsListed tagged key y.place.lid) rows x listed found.0 tests.1))

  -- no row is at 0
  none_at_0 : place_tagged_at rows key 0 ≡ None
  none_at_0 = by_row (tagged_row rows key 0) refl ∙ refl
    where
      by_row : (o : Option Post) → tagged_row rows key 0 ≡ o → place_tagged_at rows key 0 ≡ None
      by_row None is = sym (place_is 0) ∙ ap (option_map (λ (post : Post). post.place)) is
      by_row (Some x) is =
          let found = find_tells (λ (post : Post). eqb post.place.lid 0 && is_tagged key post) rows x is in
          let tests = and_parts (eqb x.place.lid 0) (is_tagged key x) found.1 in
          absurd (omega (arith, eqb-true x.place.lid 0 tests.0, All-contains (λ (y : Post). 1 ≤ y.place.lid) rows x h.first found.0))

  abbrev f : ℕ → Option Place
  f = place_tagged_at rows key

  abbrev AreAmong : List ℕ → ℕ → Type 0
  AreAmong lids n = (p : ℕ) (x : Post) → p ≤ n → tagged_row rows key p ≡ Some x → Contains lids p

  -- no row stands at the next position
  places_none : (lids : List ℕ) (m : ℕ) → All (λ p. p ≤ m) lids → AreAmong lids (suc m) → filter_map f lids ≡ tagged_places rows key m → filter_map f lids ≡ tagged_places rows key (suc m)
  places_none lids m low among is = by_row (tagged_row rows key (suc m)) refl
    where
      by_row : (o : Option Post) → tagged_row rows key (suc m) ≡ o → filter_map f lids ≡ tagged_places rows key (suc m)
      by_row (Some x) found = absurd (omega (arith, All-contains (λ (p : ℕ). p ≤ m) lids (suc m) low (among (suc m) x (omega arith) found)))
      by_row None found = is ∙ sym (ap (λ o. tagged_places rows key m ++ option_to_list (option_map (λ (post : Post). post.place) o)) found ∙ append-nil (tagged_places rows key m))

  listed_option : {X : Type 0} (o : Option X) → cons_option o [] ≡ option_to_list o
  listed_option None = refl
  listed_option (Some x) = refl

  -- the last of them is the next position
  places_last : (front : List ℕ) (m : ℕ) → filter_map f front ≡ tagged_places rows key m → filter_map f (front ++ suc m ∷ []) ≡ tagged_places rows key (suc m)
  places_last front m is =
      filter_map-append f front (suc m ∷ [])
      ∙ ap (λ ps. ps ++ cons_option (f (suc m)) []) is
      ∙ ap (λ ps. tagged_places rows key m ++ ps) (listed_option (f (suc m)) ∙ ap option_to_list (sym (place_is (suc m))))

  places_first : (lids : List ℕ) → AreLidsRising lids → All (λ p. p ≤ 0) lids → filter_map f lids ≡ []
  places_first [] rise low = refl
  places_first (x ∷ []) rise low =
      let zeroth : x ≡ 0 = omega (arith, low 0 0 (omega arith)) in
      ap (λ o. cons_option o []) (ap f zeroth ∙ none_at_0)
  places_first (x ∷ y ∷ ys) rise low = absurd (omega (arith, rise 0 1 0 (omega arith) (omega arith), low 1 0 (omega arith)))

  -- the places at the positions up to n are all that the rows have
  pub places_are : (n : ℕ) (lids : List ℕ) → AreLidsRising lids → All (λ p. p ≤ n) lids → AreAmong lids n → filter_map f lids ≡ tagged_places rows key n
  places_are zero lids rise low among = places_first lids rise low
  places_are (suc m) lids rise low among =
      let k : ℕ = length lids in
      let below : (get_or lids (k - 1) 0 ≢ suc m) → All (λ p. p ≤ m) lids = λ other. λ j d within. elim (cases_eq j (k - 1)) [
        | inl last ↦ omega (arith, low j d within, other, get_or_default lids j d 0 within, ap (λ i. get_or lids i 0) last)
        | inr before ↦ omega (arith, rise j (k - 1) d (omega (arith, before)) (omega arith), low (k - 1) d (omega arith))
      ] in
      elim (cases_eq (get_or lids (k - 1) 0) (suc m)) [
        | inr other ↦ places_none lids m (below other) among (places_are m lids rise (below other) (λ p x up. among p x (omega arith)))
        | inl last ↦
            let some : 0 < k = elim (cases_lt 0 k) [
              | inl is ↦ is
              | inr none ↦ absurd (omega (arith, last, get_or-past lids (k - 1) none))
            ] in
            let one : k ≡ (k - 1) + 1 = omega arith in
            let split : lids ≡ take (k - 1) lids ++ suc m ∷ [] =
            sym (take_all k lids (omega arith)) ∙ ap (λ i. take i lids) one ∙ take_more lids (k - 1) 0 (omega arith) ∙ ap (λ x. take (k - 1) lids ++ x ∷ []) last in
            let front : List ℕ = take (k - 1) lids in
            let front_low : All (λ p. p ≤ m) front = λ j d within.
            (let short : j < k - 1 = omega (arith, within, length-take-le (k - 1) lids (omega arith)) in
            omega (arith, get_or-take (k - 1) lids j d short, rise j (k - 1) d short (omega arith), get_or_default lids (k - 1) d 0 (omega arith), last)) in
            let front_among : AreAmong front m = λ p x up is. elim (Contains-push_cases front (suc m) p (subst (λ xs. Contains xs p) split (among p x (omega arith) is))) [
              | inl before ↦ before
              | inr same ↦ absurd (omega (arith, same))
            ] in
            ap (filter_map f) split ∙ places_last front m (places_are m front (front_rises lids (k - 1) (omega arith) rise) front_low front_among)
      ]
    where
      get_or-past : (xs : List ℕ) (i : ℕ) → length xs ≤ 0 → get_or xs i 0 ≡ 0
      get_or-past [] i none = refl
      get_or-past (x ∷ xs) i none = absurd (omega arith)
