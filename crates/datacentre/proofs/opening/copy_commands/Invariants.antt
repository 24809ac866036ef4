use Rattle.std.proofs.Common.{◌≡◌, take}
use Rattle.datacentre.proofs.opening.copy_commands.Given as goal

abbrev pub invariant-loop-command : goal.invariant-loop-command
invariant-loop-command l = l.copy ≡ take l.command-index l.commands
