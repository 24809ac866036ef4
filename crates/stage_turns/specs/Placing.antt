-- What a maintainer takes from a queue.
use Rattle.std.specs.Prelude.{ℕ, ◌^◌, ◌<◌, ◌≤◌, ◌⊎◌, List, All}
use Rattle.cz_base.specs.declared.limits.TheConstants.{NUMBERS_END}
use Rattle.causal_deps.specs.declared.record.Record.{Record}
use Rattle.flstore_rounds.specs.Epochs.{IsPrefix, IsSettled}
use Rattle.maintainer.specs.Maintainers.{MaintainerState, IsFilled, IsOwn, learned}
use Rattle.token_queue.specs.declared.entry.Entry.{Entry}
use Rattle.token_queue.specs.Queues.{QueueState, outbox_for, times_among}

-- maintainer x owns the entry's position, and has nothing there
pub record MayPlace (x : MaintainerState Record) (e : Entry) : Type 0 where
  pub own : IsOwn x e.lid
  pub small : e.lid < NUMBERS_END
  pub vacant : ¬ IsFilled x e.lid

-- each of the entries may be placed, and no position stands twice
pub record MayPlaceAll (x : MaintainerState Record) (es : List Entry) : Type 0 where
  pub each : All (MayPlace x) es
  pub once : (p : ℕ) → times_among p es ≤ 1

-- maintainer x may learn queue q's list, and then place what the queue has for member m
pub record MayPlaceFrom (q : QueueState) (m : ℕ) (x : MaintainerState Record) : Type 0 where
  pub known : IsPrefix x.epochs q.epochs ⊎ IsPrefix q.epochs x.epochs
  pub settled : (p : ℕ) → IsFilled x p → IsSettled q.epochs x.epochs p
  pub entries : MayPlaceAll (learned x q.epochs) (outbox_for q m)

-- the position of an entry
abbrev pub lid_of : Entry → ℕ
lid_of e = e.lid
