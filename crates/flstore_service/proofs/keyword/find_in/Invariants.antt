-- The loops of `find_in`: what holds at each turn, and why they end.
use Rattle.std.proofs.Common.{◌≡◌, drop}
use Rattle.std.specs.Prelude.{bytes_eq}
use Rattle.std.specs.List.{find}
use Rattle.flstore_service.specs.Keywords.{text_of}
use Rattle.flstore_service.proofs.keyword.find_in.Given as goal

-- none of the keywords so far is the word
abbrev pub invariant-loop-keyword : goal.invariant-loop-keyword
invariant-loop-keyword l = find (λ keyword. bytes_eq (text_of keyword) l.word) (drop l.keyword-index l.keywords) ≡ find (λ keyword. bytes_eq (text_of keyword) l.word) l.keywords
