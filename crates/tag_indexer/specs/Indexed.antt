-- What an indexer has of a log.
use Rattle.std.specs.Prelude.{◌≡◌, ℕ, ◌-◌, ◌<◌, ◌≤◌, true, List, length, Some, All, Contains, slice_get}
use Rattle.std.specs.List.{AllPairs}
use Rattle.causal_deps.specs.declared.record.Record.{Record}
use Rattle.flstore_rounds.specs.Heads.{IsBelowMark}
use Rattle.tag_indexer.specs.declared.post.Post.{Post}
use Rattle.tag_indexer.specs.Rows.{has_home, post_of}
use Rattle.tag_indexer.specs.Indexers.{IndexerState}
use Rattle.cz_base.specs.declared.limits.TheConstants.{MEMBERS}

-- the row is that of the log's record at its position, where the log is that long
abbrev pub IsRowOf : List Record → Post → Type 0
IsRowOf log post = (r : Record) → slice_get log (post.place.lid - 1) ≡ Some r → post ≡ post_of post.place.lid r

-- An indexer has what the log has at the positions that it covers, where a tag's home is there; its rows rise by position.
pub record IsIndexed (log : List Record) (i : IndexerState) : Type 0 where
  pub size : length i.pair.marks ≡ MEMBERS
  pub rows : All (λ post. (1 ≤ post.place.lid) × IsBelowMark i.pair post.place.lid × IsRowOf log post) i.rows
  pub homes : All (λ post. has_home i.indexers i.number post.tags ≡ true) i.rows
  pub rising : AllPairs (λ a b. a.place.lid < b.place.lid) i.rows
  pub complete : (p : ℕ) (r : Record) → 1 ≤ p → IsBelowMark i.pair p → slice_get log (p - 1) ≡ Some r → has_home i.indexers i.number r.tags ≡ true → Contains i.rows (post_of p r)
