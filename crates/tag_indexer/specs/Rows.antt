-- Rows: what an indexer has of records, and what is found in them.
use Rattle.std.specs.Prelude.{ℕ, zero, suc, ◌%◌, ◌==◌, ◌&&◌, max, Bool, if◌then◌else◌, nat_lt, nat_le, List, [], ◌∷◌, ◌++◌, Option, find, fold, sum, bytes_eq}
use Rattle.std.specs.Option.{option_map, option_map_or, option_to_list}
use Rattle.std.specs.List.{list_any}
use Rattle.causal_deps.specs.declared.record.Record.{Record}
use Rattle.causal_deps.specs.declared.record.Place.{Place}
use Rattle.causal_deps.specs.declared.answers.Newest.{Newest}
use Rattle.causal_deps.specs.declared.answers.Newest.TheVariants.{Absent}
use Rattle.causal_deps.specs.Kinds.{is_update}
use Rattle.abstract_log.specs.Answers.{place_at}
use Rattle.abstract_log.specs.Updates.{told_by}
use Rattle.tag_indexer.specs.declared.post.Post.{Post}

-- Home: the number of the indexer, of so many, that a tag is looked up at
abbrev pub home : List ℕ → ℕ → ℕ
home tag indexers = sum tag % indexers

-- one of the tags is looked up at indexer i of n
abbrev pub has_home : ℕ → ℕ → List (List ℕ) → Bool
has_home n i tags = list_any (λ tag. home tag n == i) tags

-- the row of the record at position p
abbrev pub post_of : ℕ → Record → Post
post_of p r = record { place = place_at p r; kind = r.kind; tags = r.tags }

-- the row has the tag
abbrev pub is_tagged : List ℕ → Post → Bool
is_tagged tag post = list_any (λ t. bytes_eq t tag) post.tags

-- the row is of a position up to s, and has the tag
abbrev pub is_row_of : List ℕ → ℕ → Post → Bool
is_row_of tag s post = nat_le post.place.lid s && is_tagged tag post

-- the greatest position up to s at which a row is an update of the key, or 0
abbrev pub newest_row : List Post → List ℕ → ℕ → ℕ
newest_row rows key s = fold (λ best post. if is_update post.kind && is_row_of key s post then max best post.place.lid else best) 0 rows

-- what the row at position p tells of its key, if there is one
abbrev pub told_row : List Post → ℕ → Newest
told_row rows p = option_map_or (λ post. told_by post.kind post.place) (find (λ post. post.place.lid == p) rows) Absent

-- the row at position p, if it has the tag
abbrev pub tagged_row : List Post → List ℕ → ℕ → Option Post
tagged_row rows tag p = find (λ post. (post.place.lid == p) && is_tagged tag post) rows

-- the places of the rows up to s that have the tag, in rising order
abbrev pub tagged_places : List Post → List ℕ → ℕ → List Place
tagged_places rows tag zero = []
tagged_places rows tag (suc s) = tagged_places rows tag s ++ option_to_list (option_map (λ post. post.place) (tagged_row rows tag (suc s)))

-- the row in its place by position
abbrev pub row_in : Post → List Post → List Post
row_in post [] = post ∷ []
row_in post (x ∷ xs) = if nat_lt post.place.lid x.place.lid then post ∷ x ∷ xs else x ∷ row_in post xs

-- several rows, one after another
abbrev pub rows_in : List Post → List Post → List Post
rows_in rows more = fold (λ rows post. row_in post rows) rows more
