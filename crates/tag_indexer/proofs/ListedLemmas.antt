-- Rows that are listed under their tags.
use Rattle.std.proofs.Common.{◌≡◌, ℕ, ◌+◌, ◌<◌, ◌≤◌, true, List, [], ◌∷◌, length, take, get_or, sym, ◌∙◌, subst, inl, inr}
use Rattle.std.specs.List.{All, list_any}
use Rattle.std.specs.Str.{bytes_eq}
use Rattle.std.proofs.lemmas.List.{take_more, take_all}
use Rattle.std.proofs.lemmas.List.Elements.{All-head, All-tail, All-push, All-weaker}
use Rattle.std.proofs.lemmas.Slice.Eq.{bytes_eq-Decides}
use Rattle.std.proofs.lemmas.Bool.{or_cases}
use Rattle.causal_deps.specs.Kinds.{is_update}
use Rattle.tag_indexer.specs.declared.post.Post.{Post}
use Rattle.tag_indexer.specs.Rows.{home, is_tagged}
use Rattle.tag_indexer.specs.TagIndexes.{AreTagsListed, AreUpdatesListed, IsListed, IsListedUnder, IsRowListed, ListsAll}

-- one element more
pub All-take_more : {X : Type 0} (P : X → Type 0) (xs : List X) (i : ℕ) (x : X) → i < length xs → x ≡ get_or xs i x → All P (take i xs) → P x → All P (take (i + 1) xs)
All-take_more P xs i x within is all here = subst (All P) (sym (take_more xs i x within)) (All-push P (take i xs) (get_or xs i x) all (subst P is here))

-- what is listed stays so
pub under_more : (number indexers : ℕ) (updates tagged updates_new tagged_new : List (List ℕ × List ℕ)) (post : Post) → ListsAll updates updates_new → ListsAll tagged tagged_new → (tag : List ℕ) → IsListedUnder number indexers updates tagged post tag → IsListedUnder number indexers updates_new tagged_new post tag
under_more number indexers updates tagged updates_new tagged_new post more_updates more_tagged tag listed here = let both = listed here in (more_tagged tag post.place.lid both.0, λ update. more_updates tag post.place.lid (both.1 update))

pub listed_more : (number indexers : ℕ) (updates tagged updates_new tagged_new : List (List ℕ × List ℕ)) → ListsAll updates updates_new → ListsAll tagged tagged_new → (post : Post) → IsRowListed number indexers updates tagged post → IsRowListed number indexers updates_new tagged_new post
listed_more number indexers updates tagged updates_new tagged_new more_updates more_tagged post listed =
    record { under = All-weaker (IsListedUnder number indexers updates tagged post) (IsListedUnder number indexers updates_new tagged_new post) (under_more number indexers updates tagged updates_new tagged_new post more_updates more_tagged) post.tags listed.under }

-- what holds of all names holds of one that is among them
pub name_among : (P : List ℕ → Type 0) (tag : List ℕ) (tags : List (List ℕ)) → All P tags → list_any (λ t. bytes_eq t tag) tags ≡ true → P tag
name_among P tag [] all is = absurd (cc)
name_among P tag (t ∷ ts) all is = elim (or_cases (bytes_eq t tag) (list_any (λ u. bytes_eq u tag) ts) is) [
  | inl here ↦ subst P ((bytes_eq-Decides t tag).0 here) (All-head P t ts all)
  | inr later ↦ name_among P tag ts (All-tail P t ts all) later
]

-- all of them were gone through
pub All-whole : {X : Type 0} (P : X → Type 0) (xs ys : List X) (i : ℕ) → xs ≡ ys → length xs ≤ i → All P (take i xs) → All P ys
All-whole P xs ys i same ended all = subst (All P) (take_all i xs ended ∙ same) all

-- so each row with a tag at home here is listed under it
pub tags_listed : (number indexers : ℕ) (updates tagged : List (List ℕ × List ℕ)) (rows : List Post) (tag : List ℕ) → home tag indexers ≡ number → All (IsRowListed number indexers updates tagged) rows → AreTagsListed tagged rows tag
tags_listed number indexers updates tagged rows tag here listed =
    All-weaker (IsRowListed number indexers updates tagged) (λ post. is_tagged tag post ≡ true → IsListed tagged tag post.place.lid) (λ post is tags. (name_among (IsListedUnder number indexers updates tagged post) tag post.tags is.under tags here).0) rows listed

pub updates_listed : (number indexers : ℕ) (updates tagged : List (List ℕ × List ℕ)) (rows : List Post) (key : List ℕ) → home key indexers ≡ number → All (IsRowListed number indexers updates tagged) rows → AreUpdatesListed updates rows key
updates_listed number indexers updates tagged rows key here listed =
    All-weaker (IsRowListed number indexers updates tagged) (λ post. is_update post.kind ≡ true → is_tagged key post ≡ true → IsListed updates key post.place.lid) (λ post is update tags. (name_among (IsListedUnder number indexers updates tagged post) key post.tags is.under tags here).1 update) rows listed
