-- The words of a step line after the first, and the step that they give.
use Rattle.std.specs.Prelude.{ℕ, List, [], ◌∷◌, Result, Ok}
use Rattle.cz_base.specs.declared.limits.TheConstants.{MEMBERS, PACKETS}
use Rattle.abstract_log.specs.declared.script.Step.{Step}
use Rattle.abstract_log.specs.declared.script.Step.TheVariants as step
use Rattle.script_text.specs.declared.fault.Cause.{Cause}
use Rattle.script_text.specs.declared.keyword.TurnWord.{TurnWord}
use Rattle.script_text.specs.declared.keyword.TurnWord.TheVariants.{Client, Flush, Pass, Stamp, Token, Place, Gossip, Post, Learn, Send, Deliver, Lose, Copy, Floor, Collect, Announce, Mark, AddMaintainer, AddBatcher, AddQueue, AddSender, AddReceiver, Upgrade}
use Rattle.script_text.specs.declared.arguments.Argument.{Argument}
use Rattle.script_text.specs.declared.arguments.Argument.TheVariants.{Datacentre, Other, Session, Member, Second, Packet, Position}
use Rattle.script_text.specs.declared.arguments.Arguments.{Arguments}
use Rattle.script_text.specs.Reading.{◌>>=◌, greatest_number, number_at, number_below_at, datacentre_at, other_datacentre_at}

-- nothing has been given
abbrev pub no_arguments : Arguments
no_arguments = record { dc = 0; other = 0; session = 0; member = 0; second = 0; packet = 0; position = 0 }

-- One argument of a kind, where there are so many datacentres and sessions. The other datacentre is not the one that was given before.
unfoldable pub argument_at : ℕ → ℕ → Arguments → Argument → List (List ℕ) → Result (Arguments × List (List ℕ)) Cause
argument_at dcs sessions given Datacentre left = do
  dc ← datacentre_at dcs left
  Ok (record given { dc = dc.0 }, dc.1)
argument_at dcs sessions given Other left = do
  dc ← other_datacentre_at dcs given.dc left
  Ok (record given { other = dc.0 }, dc.1)
argument_at dcs sessions given Session left = do
  n ← number_below_at sessions left
  Ok (record given { session = n.0 }, n.1)
argument_at dcs sessions given Member left = do
  n ← number_below_at MEMBERS left
  Ok (record given { member = n.0 }, n.1)
argument_at dcs sessions given Second left = do
  n ← number_below_at MEMBERS left
  Ok (record given { second = n.0 }, n.1)
argument_at dcs sessions given Packet left = do
  n ← number_at 1 PACKETS left
  Ok (record given { packet = n.0 }, n.1)
argument_at dcs sessions given Position left = do
  n ← number_at 1 greatest_number left
  Ok (record given { position = n.0 }, n.1)

-- the arguments of some kinds, from left to right
abbrev pub arguments_at : ℕ → ℕ → Arguments → List Argument → List (List ℕ) → Result Arguments Cause
arguments_at dcs sessions given [] left = Ok given
arguments_at dcs sessions given (kind ∷ kinds) left = argument_at dcs sessions given kind left >>= λ read. arguments_at dcs sessions read.0 kinds read.1

-- the step that a word and what was given with it say
abbrev pub step_said : TurnWord → Arguments → Step
step_said Client given = step.Client given.session
step_said Flush given = step.Flush given.dc given.member
step_said Pass given = step.Pass given.dc given.member given.second
step_said Stamp given = step.Stamp given.dc given.member
step_said Token given = step.Token given.dc
step_said Place given = step.Place given.dc given.member given.second
step_said Gossip given = step.Gossip given.dc given.member given.second
step_said Post given = step.Post given.dc given.member given.second
step_said Learn given = step.Learn given.dc
step_said Send given = step.Send given.dc given.member given.other
step_said Deliver given = step.Deliver given.dc given.other given.packet given.member
step_said Lose given = step.Lose given.dc given.other given.packet
step_said Copy given = step.Copy given.dc given.other given.packet
step_said Floor given = step.Floor given.dc given.position
step_said Collect given = step.Collect given.dc given.member
step_said Announce given = step.Announce given.dc given.other given.position
step_said Mark given = step.Mark given.dc
step_said AddMaintainer given = step.AddMaintainer given.dc given.position
step_said AddBatcher given = step.AddBatcher given.dc
step_said AddQueue given = step.AddQueue given.dc
step_said AddSender given = step.AddSender given.dc
step_said AddReceiver given = step.AddReceiver given.dc
step_said Upgrade given = step.Upgrade given.dc
