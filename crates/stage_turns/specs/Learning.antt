-- What a datacentre learns of its own log.
use Rattle.std.specs.Prelude.{◌≡◌, ℕ, ◌-◌, ◌<◌, ◌≤◌, max, if◌then◌else◌, List, [], ◌∷◌, length, Some}
use Rattle.causal_deps.specs.declared.record.Record.{Record}
use Rattle.causal_deps.specs.Counts.{row_of}
use Rattle.abstract_log.specs.declared.event.Event.{Event}
use Rattle.abstract_log.specs.declared.event.Event.TheVariants.{Learn}
use Rattle.flstore_rounds.specs.Epochs.{EpochList, owner}
use Rattle.flstore_rounds.specs.Heads.{Pair, head}
use Rattle.maintainer.specs.Maintainers.{MaintainerState, IsOwn, value_at}
use Rattle.stage_world.specs.Stages.{maintainer_at}
use Rattle.stage_world.specs.MoreTurns.{record_kept, counts_after, same_counts}

-- the record at p is that of p's owner by list e, and of no other maintainer before it
pub record IsAtOwner (dcs : ℕ) (e : EpochList) (ms : List (MaintainerState Record)) (p : ℕ) : Type 0 where
  pub member : owner e p < length ms
  pub own : IsOwn (maintainer_at ms (owner e p)) p
  pub rec : Record
  pub host : rec.host < dcs
  pub there : value_at p (maintainer_at ms (owner e p)).entries ≡ Some rec
  pub kept : record_kept ms p ≡ Some rec

-- each position after `low` up to the head has its record at its owner
abbrev pub MayLearn : ℕ → List (MaintainerState Record) → Pair → ℕ → Type 0
MayLearn dcs ms v low = (p : ℕ) → low < p → p ≤ head v → IsAtOwner dcs v.epochs ms p

-- the position up to which may be learnt, where it was `low`
abbrev pub learnable_by : Pair → ℕ → ℕ
learnable_by v low = max (head v) low

-- the counts up to there, where those up to `low` are row d of the table
abbrev pub row_learnt : ℕ → List (MaintainerState Record) → Pair → List (List ℕ) → ℕ → List ℕ
row_learnt d ms v table low = counts_after ms (row_of table d) low (learnable_by v low - low)

-- an event where the row changed
abbrev pub row_events : ℕ → List ℕ → List ℕ → List Event
row_events d old row = if same_counts row old then [] else Learn d row ∷ []
