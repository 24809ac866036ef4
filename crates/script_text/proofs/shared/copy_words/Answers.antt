use Rattle.std.proofs.Common.{◌++◌, ℕ, List, sym, ◌∙◌, ap}
use Rattle.std.specs.List.{list_all}
use Rattle.script_text.specs.Words.{is_line_byte}
use Rattle.script_text.proofs.WordLemmas.{all_in_words, first_word_good, word_is_text}
use Rattle.script_text.proofs.shared.copy_words.Goals as goal

pub loop-word-init : goal.loop-word-init
loop-word-init c = record {
  so_far = sym (λ i. (c.from_vec-found.ensures ∙ c.in_ok-with_capacity.ensures.items) i ++ c.new-left.ensures i);
  good = ap (list_all (λ (word : List ℕ). list_all is_line_byte word)) c.new-left.ensures ∙ all_in_words c.args.line.now c.requires;
}

pub unreachable-requires : goal.unreachable-requires
unreachable-requires c =
    (c.in_default-from_utf8.ensures.cases).0 (word_is_text _ (first_word_good _ _ _ c.in-Some.ensures c.loop-word.invariant.good))
