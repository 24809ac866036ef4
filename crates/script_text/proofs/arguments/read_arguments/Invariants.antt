-- The loops of `read_arguments`: what holds at each turn, and why they end.
use Rattle.std.proofs.Common.{◌≡◌, drop}
use Rattle.script_text.specs.Arguments.{no_arguments, arguments_at}
use Rattle.script_text.proofs.arguments.read_arguments.Given as goal

-- the words that are left go on from what was given so far
abbrev pub invariant-loop-kind : goal.invariant-loop-kind
invariant-loop-kind l = arguments_at l.dcs l.sessions l.given (drop l.kind-index l.kinds) l.words ≡ arguments_at l.dcs l.sessions no_arguments l.kinds l.initial.words
