-- The loop of `copy_words`: what holds at each turn, and why it ends.
use Rattle.std.proofs.Common.{◌≡◌, ◌++◌, true, length}
use Rattle.std.specs.List.{list_all}
use Rattle.script_text.specs.Words.{words, is_line_byte}
use Rattle.script_text.proofs.shared.copy_words.Given as goal

-- the words so far are the words before those that are left, and each that is left has bytes of a line
abbrev pub invariant-loop-word : goal.invariant-loop-word
invariant-loop-word l = record {
  so_far : words l.line ≡ l.found ++ l.left;
  good : list_all (λ word. list_all is_line_byte word) l.left ≡ true;
}

abbrev pub decreases-loop-word : goal.decreases-loop-word
decreases-loop-word l = length l.left
