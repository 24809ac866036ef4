-- The places that rows have under a tag, and that the log has.
use Rattle.std.proofs.Common.{◌≡◌, ◌⊎◌, ℕ, zero, suc, ◌-◌, ◌<◌, ◌≤◌, Bool, true, false, cond, eqb, ◌&&◌, List, [], ◌∷◌, ◌++◌, take, option_to_list, option_map, ap₂, ◌+◌, length, refl, ap, sym, ◌∙◌, subst, inl, inr, arith, Option, Some, None, slice_get}
use Rattle.std.specs.List.{Contains, find}
use Rattle.std.proofs.lemmas.List.{take_more, length-take-le}
use Rattle.std.proofs.lemmas.List.Elements.{All-contains}
use Rattle.std.proofs.lemmas.Option.{same_Some, get_or_from_slice_get}
use Rattle.std.proofs.lemmas.Bool.{cond-true, cond-false, and_parts, and_from, eqb-true, eq-eqb, true≢false, false_from_ne_true}
use Rattle.causal_deps.proofs.Lists.{Contains-here, Contains-there, Contains-cons, slice_get_some}
use Rattle.causal_deps.specs.declared.record.Record.{Record}
use Rattle.abstract_log.specs.Answers.{has_tag, places_with, place_at}
use Rattle.flstore_rounds.specs.Heads.{head, IsBelowMark}
use Rattle.flstore_rounds.proofs.HeadLemmas.{head_below}
use Rattle.tag_indexer.specs.declared.post.Post.{Post}
use Rattle.tag_indexer.specs.Rows.{home, is_tagged, post_of, tagged_row, tagged_places}
use Rattle.tag_indexer.specs.Indexers.{IndexerState}
use Rattle.tag_indexer.specs.Indexed.{IsIndexed, IsRowOf}
use Rattle.tag_indexer.proofs.NewestLemmas.{tag_at_home}

find_at : {X : Type 0} (test : X → Bool) (x : X) (xs : List X) (y : X) (b : Bool) → test x ≡ b → (find test xs ≡ Some y → Contains xs y × (test y ≡ true)) → cond b (Some x) (find test xs) ≡ Some y → Contains (x ∷ xs) y × (test y ≡ true)
find_at test x xs y true is ih e = let same : x ≡ y = same_Some x y e in (subst (λ u. Contains (u ∷ xs) y) (sym same) (Contains-here y xs), ap test (sym same) ∙ is)
find_at test x xs y false is ih e = let rest = ih e in (Contains-there x xs y rest.0, rest.1)

pub find_tells : {X : Type 0} (test : X → Bool) (xs : List X) (y : X) → find test xs ≡ Some y → Contains xs y × (test y ≡ true)
find_tells test [] y e = absurd (cc)
find_tells test (x ∷ xs) y e = find_at test x xs y (test x) refl (find_tells test xs y) e

none_at : {X : Type 0} (test : X → Bool) (x : X) (xs : List X) (y : X) (b : Bool) → test x ≡ b → (find test xs ≡ None → Contains xs y → test y ≡ true → ⊥) → cond b (Some x) (find test xs) ≡ None → (x ≡ y) ⊎ Contains xs y → test y ≡ true → ⊥
none_at test x xs y true is ih e has passes = cc
none_at test x xs y false is ih e (inl same) passes = true≢false (sym passes ∙ ap test (sym same) ∙ is)
none_at test x xs y false is ih e (inr rest) passes = ih e rest passes

pub find_none : {X : Type 0} (test : X → Bool) (xs : List X) (y : X) → find test xs ≡ None → Contains xs y → test y ≡ true → ⊥
find_none test [] y e has passes = absurd (omega (arith, has.1))
find_none test (x ∷ xs) y e has passes = none_at test x xs y (test x) refl (find_none test xs y) e (Contains-cons x xs y has) passes

pub places_with-push : (tag : List ℕ) (p : ℕ) (xs : List Record) (r : Record) → places_with tag p (xs ++ r ∷ []) ≡ places_with tag p xs ++ cond (has_tag tag r) (place_at (p + length xs) r ∷ []) []
places_with-push tag p [] r = ap (λ q. cond (has_tag tag r) (place_at q r ∷ []) []) (omega arith)
places_with-push tag p (x ∷ xs) r =
    let rest : places_with tag (p + 1) (xs ++ r ∷ []) ≡ places_with tag (p + 1) xs ++ cond (has_tag tag r) (place_at (p + length (x ∷ xs)) r ∷ []) [] =
    places_with-push tag (p + 1) xs r ∙ ap (λ q. places_with tag (p + 1) xs ++ cond (has_tag tag r) (place_at q r ∷ []) []) (omega arith) in
    by_tag (has_tag tag x) rest
  where
    by_tag : (b : Bool) → places_with tag (p + 1) (xs ++ r ∷ []) ≡ places_with tag (p + 1) xs ++ cond (has_tag tag r) (place_at (p + length (x ∷ xs)) r ∷ []) []
        → cond b (place_at p x ∷ places_with tag (p + 1) (xs ++ r ∷ [])) (places_with tag (p + 1) (xs ++ r ∷ []))
        ≡ cond b (place_at p x ∷ places_with tag (p + 1) xs) (places_with tag (p + 1) xs) ++ cond (has_tag tag r) (place_at (p + length (x ∷ xs)) r ∷ []) []
    by_tag true rest = ap (λ ps. place_at p x ∷ ps) rest
    by_tag false rest = rest

-- the row at a covered position has the tag exactly where its record has it
tagged_row_is : (log : List Record) (i : IndexerState) (tag : List ℕ) (p : ℕ) (r : Record) → IsIndexed log i → home tag i.indexers ≡ i.number → 1 ≤ p → IsBelowMark i.pair p
    → slice_get log (p - 1) ≡ Some r → option_to_list (option_map (λ post. post.place) (tagged_row i.rows tag p)) ≡ cond (has_tag tag r) (place_at p r ∷ []) []
tagged_row_is log i tag p r indexed here first covered stands = by_row (tagged_row i.rows tag p) refl
  where
    by_row : (o : Option Post) → tagged_row i.rows tag p ≡ o → option_to_list (option_map (λ (post : Post). post.place) o) ≡ cond (has_tag tag r) (place_at p r ∷ []) []
    by_row (Some post) is =
        let found = find_tells (λ (y : Post). eqb y.place.lid p && is_tagged tag y) i.rows post is in
        let tests = and_parts (eqb post.place.lid p) (is_tagged tag post) found.1 in
        let at : post.place.lid ≡ p = eqb-true post.place.lid p tests.0 in
        let row = All-contains (λ (y : Post). (1 ≤ y.place.lid) × IsBelowMark i.pair y.place.lid × IsRowOf log y) i.rows post indexed.rows found.0 in
        let same : post ≡ post_of p r = row.2 r (ap (λ q. slice_get log (q - 1)) at ∙ stands) ∙ ap (λ q. post_of q r) at in
        let tagged : has_tag tag r ≡ true = ap (is_tagged tag) (sym same) ∙ tests.1 in
        ap (λ (y : Post). y.place ∷ []) same ∙ sym (cond-true (has_tag tag r) (place_at p r ∷ []) [] tagged)
    by_row None is = sym (cond-false (has_tag tag r) (place_at p r ∷ []) [] (false_from_ne_true (has_tag tag r) (λ tagged.
        find_none (λ (y : Post). eqb y.place.lid p && is_tagged tag y) i.rows (post_of p r) is (indexed.complete p r first covered stands (tag_at_home i.indexers i.number tag r.tags here tagged))
        (and_from (eqb p p) (has_tag tag r) (eq-eqb p p refl) tagged))))

-- the places that the rows have under a tag are the log's, up to what is covered
pub tagged_is : (log : List Record) (i : IndexerState) (tag : List ℕ) (s : ℕ) → IsIndexed log i → home tag i.indexers ≡ i.number → s ≤ length log → s ≤ head i.pair → tagged_places i.rows tag s ≡ places_with tag 1 (take s log)
tagged_is log i tag zero indexed here within covered = refl
tagged_is log i tag (suc s) indexed here within covered =
    let low : s < length log = omega arith in
    let some = slice_get_some log s low in
    let r : Record = some.0 in
    let stands : slice_get log s ≡ Some r = some.1 in
    let one_up : suc s ≡ s + 1 = omega arith in
    let longer : take (suc s) log ≡ take s log ++ r ∷ [] = ap (λ n. take n log) one_up ∙ take_more log s r low ∙ ap (λ x. take s log ++ x ∷ []) (get_or_from_slice_get log s r r stands) in
    ap₂ (λ a b. a ++ b) (tagged_is log i tag s indexed here (omega arith) (omega arith))
    (tagged_row_is log i tag (suc s) r indexed here (omega arith) (head_below i.pair (suc s) (omega arith) covered) (ap (slice_get log) (omega arith) ∙ stands)
    ∙ ap (λ q. cond (has_tag tag r) (place_at q r ∷ []) []) (omega (arith, length-take-le s log (omega arith))))
    ∙ sym (places_with-push tag 1 (take s log) r) ∙ ap (places_with tag 1) (sym longer)
