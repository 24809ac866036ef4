-- Indexers: each has the rows of the records whose tags have their home there, up to a mark of each maintainer.
use Rattle.std.specs.Prelude.{◌≡◌, ℕ, ◌<◌, ◌≤◌, ◌==◌, true, if◌then◌else◌, nat_lt, List, [], map, filter, length, Option, Some, None, All, Contains}
use Rattle.std.specs.List.{AllPairs}
use Rattle.std.specs.List.Sorted.{IsNonDecreasingBy}
use Rattle.causal_deps.specs.declared.answers.Newest.{Newest}
use Rattle.causal_deps.specs.declared.answers.Newest.TheVariants.{Behind, Found, Deleted, Absent}
use Rattle.flstore_rounds.specs.Epochs.{EpochList, owner, later_than}
use Rattle.flstore_rounds.specs.Heads.{Pair, blank, head, mark_at, with_own, IsBelowMark}
use Rattle.tag_indexer.specs.declared.post.Post.{Post}
use Rattle.tag_indexer.specs.Rows.{has_home, newest_row, rows_in, told_row}
use Rattle.cz_base.specs.declared.limits.TheConstants.{MEMBERS}

-- What contracts see of an indexer: its number, how many indexers there are, the epochs and the mark of each maintainer,
-- and its rows by rising position.
pub record IndexerState : Type 0 where
  pub number : ℕ
  pub indexers : ℕ
  pub pair : Pair
  pub rows : List Post

-- with nothing posted yet
abbrev pub empty : ℕ → ℕ → EpochList → IndexerState
empty number indexers epochs = record { number = number; indexers = indexers; pair = blank epochs; rows = [] }

-- once maintainer m, with this list, has posted these rows up to a mark: those with a tag at home here stay
abbrev pub posted : IndexerState → EpochList → ℕ → ℕ → List Post → IndexerState
posted i e m upto rows = record i {
  pair = with_own i.pair e m upto;
  rows = rows_in i.rows (filter (λ post. has_home i.indexers i.number post.tags) rows);
}

-- no mark is above the start of an epoch that this list adds
abbrev pub AreBegun : Pair → EpochList → Type 0
AreBegun v e = (m : ℕ) → All (λ n. mark_at v m ≤ n.start) (later_than v.epochs e)

-- The rows are of the positions of member m by the list, from low on and below top: of each, and by rising positions.
pub record AreOwnRows (e : EpochList) (m low top : ℕ) (rows : List Post) : Type 0 where
  pub rising : AllPairs (λ a b. a.place.lid < b.place.lid) rows
  pub own : All (λ post. (low ≤ post.place.lid) × (post.place.lid < top) × (owner e post.place.lid ≡ m)) rows
  pub whole : (p : ℕ) → low ≤ p → p < top → owner e p ≡ m → Contains (map (λ post. post.place.lid) rows) p

-- Newest: the last update of the key at or below s, unless less than s is covered
abbrev pub newest_found : IndexerState → List ℕ → ℕ → Newest
newest_found i key s = if nat_lt (head i.pair) s then Behind (head i.pair) else told_row i.rows (newest_row i.rows key s)

-- where the update stands that is told, if one is
abbrev pub newest_lid : Newest → Option ℕ
newest_lid (Behind covered) = None
newest_lid (Found p) = Some p
newest_lid (Deleted place) = Some place.lid
newest_lid Absent = None

-- where the last update of the key at or below s stands, if there is one and s is covered
abbrev pub newest_position : IndexerState → List ℕ → ℕ → Option ℕ
newest_position i key s =
    let p = newest_row i.rows key s in
    if nat_lt (head i.pair) s then None else if p == 0 then None else Some p

-- positions do not fall along the rows
abbrev pub AreSorted : List Post → Type 0
AreSorted rows = IsNonDecreasingBy (λ post. post.place.lid) rows

-- positions rise along the rows, and begin at 1
pub record AreInOrder (rows : List Post) : Type 0 where
  pub rising : AllPairs (λ a b. a.place.lid < b.place.lid) rows
  pub first : All (λ post. 1 ≤ post.place.lid) rows

-- What each indexer keeps: its marks begin at 1, and its rows rise by position, are of positions below the mark of their
-- owner, and have a tag at home here.
pub record AreKept (number indexers : ℕ) (v : Pair) (rows : List Post) : Type 0 where
  pub size : length v.marks ≡ MEMBERS
  pub some : All (λ k. 1 ≤ k) v.marks
  pub marked : All (λ post. (1 ≤ post.place.lid) × IsBelowMark v post.place.lid) rows
  pub homes : All (λ post. has_home indexers number post.tags ≡ true) rows
  pub rising : AllPairs (λ a b. a.place.lid < b.place.lid) rows
