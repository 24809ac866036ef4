-- What the stage world sees of the stages that a turn is lent.
use Rattle.std.specs.Prelude.{◌≡◌, ◌≢◌, ℕ, ◌+◌, ◌%◌, ◌<◌, Bool, is_some, List, [], ◌∷◌, length, map, Option, Some, None}
use Rattle.causal_deps.specs.declared.record.Record.{Record}
use Rattle.maintainer.specs.Maintainers.{MaintainerState, plain}
use Rattle.token_queue.specs.Queues.{QueueState, TokenState, tokenless}
use Rattle.stage_world.specs.Stages.{no_epochs, queue_at}

-- the queues without the token
abbrev pub queues_seen : List QueueState → List QueueState
queues_seen qs = map tokenless qs

-- what stands for a token where there is none
abbrev pub no_token : TokenState
no_token = record { dc = 0; counts = []; last = 0; deferred = []; epochs = no_epochs; at = 0; queues = 0 }

-- the token of the first queue that has one
abbrev pub token_seen : List QueueState → TokenState
token_seen [] = no_token
token_seen (q ∷ qs) = token_or q.token (token_seen qs)
  where
    token_or : Option TokenState → TokenState → TokenState
    token_or (Some t) later = t
    token_or None later = later

-- the maintainers, whatever room they have
abbrev pub maintainers_seen : List (MaintainerState Record) → List (MaintainerState Record)
maintainers_seen ms = map plain ms

abbrev pub has_token : QueueState → Bool
has_token q = is_some q.token

-- One queue has the token, the one that the token names.
pub record HaveToken (qs : List QueueState) (t : TokenState) : Type 0 where
  pub there : t.at < length qs
  pub holder : (queue_at qs t.at).token ≡ Some t
  pub others : (i : ℕ) → i < length qs → i ≢ t.at → (queue_at qs i).token ≡ None

-- the token once it is at the next queue
abbrev pub token_at_next : TokenState → TokenState
token_at_next t = record t { at = (t.at + 1) % t.queues }

-- The queues stand by number, one of them has the token, and the token counts them.
pub record MayMoveToken (qs : List QueueState) (t : TokenState) : Type 0 where
  pub has : HaveToken qs t
  pub numbers : (i : ℕ) → i < length qs → (queue_at qs i).number ≡ i
  pub ring : t.queues ≡ length qs
