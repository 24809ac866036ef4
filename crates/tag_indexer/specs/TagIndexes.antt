-- A tag index: for each tag, positions that may have it.
use Rattle.std.specs.Prelude.{◌≡◌, ℕ, ◌<◌, ◌≤◌, ◌==◌, ◌&&◌, if◌then◌else◌, Bool, true, false, List, [], Option, Some, None, All, Contains, find}
use Rattle.std.specs.List.{AllPairs}
use Rattle.std.specs.Option.{unwrap_or, option_map_or}
use Rattle.causal_deps.specs.declared.record.Place.{Place}
use Rattle.causal_deps.specs.Kinds.{is_update}
use Rattle.std.specs.Map.{lookup}
use Rattle.std.specs.Ordering.{nat_cmp, is_eq}
use Rattle.std.specs.Cmp.Lexicographic.{slice_cmp}
use Rattle.tag_indexer.specs.declared.post.Post.{Post}
use Rattle.tag_indexer.specs.Rows.{home, is_tagged}

-- two names are the same
abbrev pub is_name : List ℕ → List ℕ → Bool
is_name tag name = is_eq (slice_cmp nat_cmp tag name)

-- the positions listed under a tag
abbrev pub lids_of : List (List ℕ × List ℕ) → List ℕ → List ℕ
lids_of index tag = unwrap_or (lookup (is_name tag) index) []

-- position p is listed under the tag
abbrev pub IsListed : List (List ℕ × List ℕ) → List ℕ → ℕ → Type 0
IsListed index tag p = Contains (lids_of index tag) p

abbrev pub AreLidsRising : List ℕ → Type 0
AreLidsRising lids = AllPairs (λ a b. a < b) lids

-- under each tag positions rise
abbrev pub IsTagIndex : List (List ℕ × List ℕ) → Type 0
IsTagIndex index = (tag : List ℕ) → AreLidsRising (lids_of index tag)

-- what is listed in one is listed in the other
abbrev pub ListsAll : List (List ℕ × List ℕ) → List (List ℕ × List ℕ) → Type 0
ListsAll index more = (tag : List ℕ) (p : ℕ) → IsListed index tag p → IsListed more tag p

-- an update of the key stands at position p
abbrev pub has_update_at : List Post → List ℕ → ℕ → Bool
has_update_at rows key p = option_map_or (λ post. is_update post.kind && is_tagged key post) (find (λ post. post.place.lid == p) rows) false

-- the place of the row at position p, if it has the tag
abbrev pub place_tagged_at : List Post → List ℕ → ℕ → Option Place
place_tagged_at rows tag p = option_map_or (λ post. if is_tagged tag post then Some post.place else None) (find (λ post. post.place.lid == p) rows) None

-- the row is an update of the key
pub record IsUpdate (rows : List Post) (key : List ℕ) (post : Post) : Type 0 where
  pub row : Contains rows post
  pub update : is_update post.kind ≡ true
  pub tagged : is_tagged key post ≡ true

-- the row is the last of those at these positions that are updates of the key
pub record IsLastUpdate (rows : List Post) (key lids : List ℕ) (post : Post) : Type 0 where
  pub is : IsUpdate rows key post
  pub there : Contains lids post.place.lid
  pub last : (p : ℕ) → Contains lids p → has_update_at rows key p ≡ true → p ≤ post.place.lid

-- the row is listed under the tag, if that has its home here, and as an update if it is one
abbrev pub IsListedUnder : ℕ → ℕ → List (List ℕ × List ℕ) → List (List ℕ × List ℕ) → Post → List ℕ → Type 0
IsListedUnder number indexers updates tagged post tag = home tag indexers ≡ number → IsListed tagged tag post.place.lid × (is_update post.kind ≡ true → IsListed updates tag post.place.lid)

-- the row is listed under each of its tags that have their home here
pub record IsRowListed (number indexers : ℕ) (updates tagged : List (List ℕ × List ℕ)) (post : Post) : Type 0 where
  pub under : All (IsListedUnder number indexers updates tagged post) post.tags

-- each row with the tag is listed under it
abbrev pub AreTagsListed : List (List ℕ × List ℕ) → List Post → List ℕ → Type 0
AreTagsListed index rows tag = All (λ post. is_tagged tag post ≡ true → IsListed index tag post.place.lid) rows

-- each update of the key is listed under it
abbrev pub AreUpdatesListed : List (List ℕ × List ℕ) → List Post → List ℕ → Type 0
AreUpdatesListed index rows key = All (λ post. is_update post.kind ≡ true → is_tagged key post ≡ true → IsListed index key post.place.lid) rows
