-- The loops of `given_at`: what holds at each turn, and why they end.
use Rattle.std.proofs.Common.{◌≡◌, drop, nat_eq}
use Rattle.std.specs.List.{find}
use Rattle.script_text.proofs.progress.given_at.Given as goal

-- none of the lines so far gives the sizes of that datacentre
abbrev pub invariant-loop-given : goal.invariant-loop-given
invariant-loop-given l = find (λ given. nat_eq given.dc l.number) (drop l.given-index l.stages) ≡ find (λ given. nat_eq given.dc l.number) l.stages
