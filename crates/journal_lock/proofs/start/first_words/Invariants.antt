-- What holds in the loop of `first_words`.
use Rattle.std.proofs.Common.{◌≡◌, ℕ, ◌<◌, ◌≤◌, slice_index, vec_capacity, vec_len}
use Rattle.journal_lock.specs.Start.{first_word}
use Rattle.journal_lock.proofs.start.first_words.Given as goal

abbrev pub invariant-loop-word : goal.invariant-loop-word
invariant-loop-word l = (vec_len l.words ≡ l.word) × (258 ≤ vec_capacity l.words) × ((w : ℕ) → w < l.word → slice_index l.words.items w ≡ first_word l.fn.maintainers w)
