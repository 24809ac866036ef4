-- The loops of `Words::names`: what holds at each turn, and why they end.
use Rattle.std.proofs.Common.{◌≡◌, ◌++◌, length}
use Rattle.std.specs.List.{list_all}
use Rattle.script_text.specs.Words.{is_name}
use Rattle.script_text.proofs.words.Words.names.Given as goal

-- the names so far are the words before those that are left, and all are names where those that are left are
abbrev pub invariant-loop-word : goal.invariant-loop-word
invariant-loop-word l = record {
  so_far : l.initial.self ≡ l.names ++ l.self;
  good : list_all is_name l.initial.self ≡ list_all is_name l.self;
}

abbrev pub decreases-loop-word : goal.decreases-loop-word
decreases-loop-word l = length l.self
