-- In which order replies stand.
use Rattle.std.specs.Prelude.{ℕ, List, map, take}
use Rattle.std.specs.List.{range_with_len}
use Rattle.abstract_log.specs.declared.event.Event.{Event}
use Rattle.report_text.specs.Report.{index_words, replies_of}

-- the session and the number that each reply of a session begins with
abbrev pub reply_heads : List Event → ℕ → List (List (List ℕ))
reply_heads events s = map (take 2) (replies_of events s)

-- those of its first n commands, which count from 1
abbrev pub heads_upto : ℕ → ℕ → List (List (List ℕ))
heads_upto s n = map (index_words s) (range_with_len 1 n)
