-- What a look-up sees at a position.
use Rattle.std.specs.Prelude.{ℕ, if◌then◌else◌, nat_lt, List, [], ◌∷◌, slice_get}
use Rattle.std.specs.Option.{option_map_or}
use Rattle.causal_deps.specs.declared.record.Record.{Record}
use Rattle.abstract_log.specs.declared.command.Command.{Command}
use Rattle.abstract_log.specs.declared.command.Command.TheVariants.{Append as AppendCommand, Put as PutCommand, Del as DelCommand, Get as GetCommand, Tx as TxCommand, Read as ReadCommand, Last as LastCommand}
use Rattle.abstract_log.specs.Answers.{found_at}
use Rattle.hyksos.specs.declared.looking.Seen.{Seen}
use Rattle.hyksos.specs.declared.looking.Seen.TheVariants.{Behind, Key, Places, Whole}
use Rattle.hyksos.specs.Shelves.{ShelfState, covered_for, last_at}

abbrev pub key_seen : List Record → ShelfState → List ℕ → ℕ → Seen
key_seen log m key s = if nat_lt (covered_for m key) s then Behind (covered_for m key) else Key (found_at log s key)

abbrev pub tag_seen : List Record → ShelfState → List ℕ → ℕ → ℕ → Seen
tag_seen log m tag n s = if nat_lt (covered_for m tag) s then Behind (covered_for m tag) else Places (last_at log s tag n)

-- what the next of these keys shows, where so many are found
abbrev pub next_key_seen : List Record → List (List ℕ) → ShelfState → ℕ → ℕ → Seen
next_key_seen log keys m found s = option_map_or (λ key. key_seen log m key s) (slice_get keys found) Whole

-- what a command sees at s, where so many of its keys are found
abbrev pub sight : List Record → Command → ShelfState → ℕ → ℕ → Seen
sight log (AppendCommand tags body) m found s = Whole
sight log (PutCommand key body) m found s = Whole
sight log (DelCommand key) m found s = Whole
sight log (GetCommand key) m found s = next_key_seen log (key ∷ []) m found s
sight log (TxCommand keys) m found s = next_key_seen log keys m found s
sight log (ReadCommand p) m found s = Whole
sight log (LastCommand tag n) m found s = tag_seen log m tag n s
