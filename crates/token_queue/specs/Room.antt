-- Room that is taken before anything is moved.
use Rattle.std.specs.Prelude.{ℕ, zero, suc, ◌+◌, ◌<◌, ◌≤◌, ◌==◌, if◌then◌else◌, List, [], map, length, slice_index_or}
use Rattle.flstore_rounds.specs.Epochs.{EpochList, owner}
use Rattle.token_queue.specs.declared.entry.Entry.{Entry}

-- an outbox, and how many entries it takes without memory
pub record OutboxState : Type 0 where
  pub entries : List Entry
  pub room : ℕ

abbrev pub no_outbox : OutboxState
no_outbox = record { entries = []; room = 0 }

abbrev pub entries_of : List OutboxState → List (List Entry)
entries_of os = map (λ (o : OutboxState). o.entries) os

-- how many of so many positions from p on member m owns
abbrev pub owned_among : EpochList → ℕ → ℕ → ℕ → ℕ
owned_among epochs m p zero = 0
owned_among epochs m p (suc n) = (if owner epochs p == m then 1 else 0) + owned_among epochs m (p + 1) n

-- each outbox has room for what its member owns of so many positions from p on
abbrev pub HaveRoom : EpochList → ℕ → ℕ → List OutboxState → Type 0
HaveRoom epochs p n os = (m : ℕ) → m < length os → owned_among epochs m p n ≤ (slice_index_or os m no_outbox).room
