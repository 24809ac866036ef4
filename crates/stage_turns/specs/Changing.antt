-- Whether a turn changed one of the stages that it was lent.
use Rattle.std.specs.Prelude.{ℕ, ◌||◌, Bool, true, false, List, [], ◌∷◌, map}
use Rattle.std.specs.Option.{option_map_or}
use Rattle.flstore_rounds.specs.Heads.{Pair}
use Rattle.causal_deps.specs.declared.record.Record.{Record}
use Rattle.record_codec.specs.declared.message.Message.{Message}
use Rattle.causal_deps.specs.Counts.{greater_rows}
use Rattle.token_queue.specs.Queues.{QueueState}
use Rattle.stage_world.specs.Idle.{TellsApart}
use Rattle.stage_turns.specs.Stamping.{drained_of}

-- something is in the list
abbrev pub has_some : {X : Type 0} → List X → Bool
has_some [] = false
has_some (x ∷ xs) = true

-- the queue has the token, and an item of its own or one that may be stamped
abbrev pub stamp_changes : QueueState → Bool
stamp_changes q = option_map_or (λ t. has_some q.items || has_some (drained_of q t).records) q.token false

-- the marks of vectors
abbrev pub marks_in : List Pair → List (List ℕ)
marks_in vs = map (λ (v : Pair). v.marks) vs

-- a message brings records, or makes the table another one
abbrev pub TellsNews : Bool → List (List ℕ) → Message → Type 0
TellsNews changed table m = TellsApart {X = List Record × List (List ℕ)} changed ([], table) (m.records, greater_rows table m.table)
