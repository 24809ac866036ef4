-- What one vector tells another.
use Rattle.std.specs.Prelude.{ℕ, ◌<◌, List, length, slice_set}
use Rattle.causal_deps.specs.declared.record.Record.{Record}
use Rattle.flstore_rounds.specs.Epochs.{EpochList, IsPrefix}
use Rattle.flstore_rounds.specs.Heads.{Pair, joined, with_own}
use Rattle.maintainer.specs.Maintainers.{MaintainerState, mark_of}
use Rattle.stage_world.specs.Stages.{vector_at}

-- the vectors at `from` and `to` are there, and the epoch lists are beginnings of one
pub record MayGossip (x : MaintainerState Record) (vs : List Pair) (from to : ℕ) : Type 0 where
  pub teller : from < length vs
  pub hearer : to < length vs
  pub whole : EpochList
  pub own : IsPrefix x.epochs whole
  pub told : IsPrefix (vector_at vs from).epochs whole
  pub heard : IsPrefix (vector_at vs to).epochs whole

-- the vector at `from`, once it took the list and the mark of its maintainer x, which has number m
abbrev pub own_vector : ℕ → MaintainerState Record → List Pair → ℕ → Pair
own_vector m x vs from = with_own (vector_at vs from) x.epochs m (mark_of x)

-- the vectors, once the one at `to` heard it
abbrev pub vectors_told : List Pair → ℕ → ℕ → Pair → List Pair
vectors_told vs from to own = slice_set (slice_set vs from own) to (joined (vector_at (slice_set vs from own) to) own)
