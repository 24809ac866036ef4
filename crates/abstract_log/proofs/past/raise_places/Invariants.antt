use Rattle.std.proofs.Common.{◌≡◌, drop}
use Rattle.abstract_log.specs.Answers.{past_with}
use Rattle.abstract_log.proofs.past.raise_places.Given as goal

abbrev pub invariant-loop-place : goal.invariant-loop-place
invariant-loop-place l = past_with l.past (drop l.place-index l.places) ≡ past_with l.initial.past l.places
