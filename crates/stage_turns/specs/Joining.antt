-- What members that join ask of the stages, and what they leave.
use Rattle.std.specs.Prelude.{◌≡◌, ℕ, ◌+◌, ◌<◌, if◌then◌else◌, nat_lt, List, [], ◌∷◌, ◌++◌, length}
use Rattle.cz_base.specs.declared.limits.TheConstants.{MEMBERS}
use Rattle.causal_deps.specs.declared.record.Record.{Record}
use Rattle.abstract_log.specs.declared.script.Outcome.{Outcome}
use Rattle.abstract_log.specs.declared.script.Outcome.TheVariants.{EpochAdded, LateMark}
use Rattle.flstore_rounds.specs.Epochs.{last_epoch}
use Rattle.flstore_rounds.specs.Heads.{Pair, blank}
use Rattle.maintainer.specs.Maintainers.{MaintainerState, empty}
use Rattle.token_queue.specs.Queues.{QueueState, TokenState, mark_bound, with_maintainer}
use Rattle.stage_turns.specs.Lent.{HaveToken}

-- One of the queues has the token, which counts them, and there is room for one more.
pub record MayAddQueue (qs : List QueueState) (t : TokenState) : Type 0 where
  pub has : HaveToken qs t
  pub ring : t.queues ≡ length qs
  pub room : length qs < MEMBERS

-- One of the queues has the token, whose last epoch counts the maintainers, and there is room for one more.
pub record MayAddMaintainer (qs : List QueueState) (t : TokenState) (ms : List (MaintainerState Record)) : Type 0 where
  pub has : HaveToken qs t
  pub members : (last_epoch t.epochs).members ≡ length ms
  pub room : length ms < MEMBERS

-- the token once a maintainer was asked for from position p on; the maintainers and vectors, and what is answered
abbrev pub token_adopted : TokenState → ℕ → TokenState
token_adopted t p = if nat_lt (mark_bound t) p then with_maintainer t p else t

abbrev pub maintainers_with : TokenState → ℕ → List (MaintainerState Record) → List (MaintainerState Record)
maintainers_with t p ms = if nat_lt (mark_bound t) p then ms ++ empty (length ms) (with_maintainer t p).epochs ∷ [] else ms

abbrev pub vectors_with : TokenState → ℕ → List Pair → List Pair
vectors_with t p vs = if nat_lt (mark_bound t) p then vs ++ blank (with_maintainer t p).epochs ∷ [] else vs

abbrev pub maintainer_outcome : TokenState → ℕ → ℕ → Outcome
maintainer_outcome t p maintainers = if nat_lt (mark_bound t) p then EpochAdded p (maintainers + 1) else LateMark (mark_bound t)
