-- The loops of `has_empty_word`: what holds at each turn, and why they end.
use Rattle.std.proofs.Common.{◌≡◌, length}
use Rattle.std.specs.List.{list_any}
use Rattle.script_text.specs.Words.{words, is_empty_word}
use Rattle.script_text.proofs.shared.has_empty_word.Given as goal

-- no word so far was empty
abbrev pub invariant-loop-word : goal.invariant-loop-word
invariant-loop-word l = list_any is_empty_word l.left ≡ list_any is_empty_word (words l.line)

abbrev pub decreases-loop-word : goal.decreases-loop-word
decreases-loop-word l = length l.left
