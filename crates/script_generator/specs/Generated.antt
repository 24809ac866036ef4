-- The script that a seed gives.
use Rattle.std.specs.Prelude.{ℕ, ◌+◌, ◌%◌, ◌==◌, nat_lt, if◌then◌else◌, List, [], ◌∷◌, ◌++◌, codes}
use Rattle.std.specs.Fmt.{decimal}
use Rattle.abstract_log.specs.declared.command.Command.{Command}
use Rattle.abstract_log.specs.declared.command.Command.TheVariants.{Append, Put, Get, Tx, Last}
use Rattle.abstract_log.specs.declared.command.SessionPlan.{SessionPlan}
use Rattle.abstract_log.specs.declared.script.Script.{Script}
use Rattle.abstract_log.specs.declared.script.Sizes.{Sizes}
use Rattle.abstract_log.specs.declared.script.Step.{Step}
use Rattle.abstract_log.specs.declared.script.Step.TheVariants.{Client, Flush, Pass, Stamp, Token, Place, Gossip, Post, Learn, Send, Deliver, Lose, Copy, Floor, Collect}
use Rattle.script_generator.specs.Draws.{Drawn, seeded, draw, give, ◌>>=◌, ◌<*>◌, many}

-- A name is a letter and a number.

-- a key
abbrev pub key_name : ℕ → List ℕ
key_name n = codes "k" ++ decimal n

-- a tag
abbrev pub tag_name : ℕ → List ℕ
tag_name n = codes "t" ++ decimal n

-- A body names its command: `v3.17` is what command 17 of session 3 puts, and `a3.17` what it appends.

-- the name of command k of session s
abbrev pub command_name : ℕ → ℕ → List ℕ
command_name s k = decimal s ++ (codes "." ++ decimal k)

-- what it puts, and what it appends
abbrev pub put_body : ℕ → ℕ → List ℕ
put_body s k = codes "v" ++ command_name s k

abbrev pub append_body : ℕ → ℕ → List ℕ
append_body s k = codes "a" ++ command_name s k

-- Commands.

-- one of 32 keys
unfoldable pub key : Drawn (List ℕ)
key = give key_name <*> draw 32

-- one of 8 tags
unfoldable pub tag : Drawn (List ℕ)
tag = give tag_name <*> draw 8

-- the table of commands, by a number below 10
unfoldable pub command_by : ℕ → ℕ → ℕ → Drawn Command
command_by s k choice =
    if nat_lt choice 4 then give (λ x. Put x (put_body s k)) <*> key
    else if nat_lt choice 7 then give Get <*> key
    else if choice == 7 then give (λ x y z. Tx (x ∷ y ∷ z ∷ [])) <*> key <*> key <*> key
    else if choice == 8 then give (λ t. Append (t ∷ []) (append_body s k)) <*> tag
    else give (λ t. Last t 3) <*> tag

-- command k of session s
unfoldable pub command : ℕ → ℕ → Drawn Command
command s k = do
  choice ← draw 10
  command_by s k choice

-- session s, with its 100 commands, which count from 1
unfoldable pub plan : ℕ → Drawn SessionPlan
plan s = give (λ commands. record { home = s % 3; commands = commands }) <*> many (λ n. command s (n + 1)) 100

-- Steps.

-- a datacentre other than d
unfoldable pub other : ℕ → Drawn ℕ
other d = give (λ n. (d + 1 + n) % 3) <*> draw 2

-- a number from 1 to k
unfoldable pub draw_from_1 : ℕ → Drawn ℕ
draw_from_1 k = give (λ n. 1 + n) <*> draw k

-- the table of steps at datacentre d, by a number below 16
unfoldable pub step_by : ℕ → ℕ → Drawn Step
step_by d choice =
    if nat_lt choice 2 then give Client <*> draw 12
    else if choice == 2 then give (Flush d) <*> draw 2
    else if choice == 3 then give (Pass d) <*> draw 2 <*> draw 2
    else if choice == 4 then give (Stamp d) <*> draw 2
    else if choice == 5 then give (Token d)
    else if choice == 6 then give (Place d) <*> draw 2 <*> draw 3
    else if choice == 7 then give (Gossip d) <*> draw 3 <*> draw 3
    else if choice == 8 then give (Post d) <*> draw 3 <*> draw 2
    else if choice == 9 then give (Learn d)
    else if choice == 10 then give (Send d) <*> draw 2 <*> other d
    else if choice == 11 then give (Deliver d) <*> other d <*> draw_from_1 4 <*> draw 2
    else if choice == 12 then give (Lose d) <*> other d <*> draw_from_1 4
    else if choice == 13 then give (Copy d) <*> other d <*> draw_from_1 4
    else if choice == 14 then give (Floor d) <*> draw_from_1 600
    else give (Collect d) <*> draw 3

-- a step: its datacentre is drawn, and then its row
unfoldable pub step : Drawn Step
step = do
  d ← draw 3
  choice ← draw 16
  step_by d choice

-- The script.

-- how many members the stages of each datacentre have
abbrev pub sizes : Sizes
sizes = record { batchers = 2; filters = 2; queues = 2; maintainers = 3; indexers = 2; senders = 2; receivers = 2 }

-- twelve sessions and 20000 steps at three datacentres
unfoldable pub script : Drawn Script
script = do
  plans ← many plan 12
  steps ← many (λ _. step) 20000
  give (record { workload = record { dcs = 3; sessions = plans }; round = 4; sizes = sizes ∷ sizes ∷ sizes ∷ []; steps = steps })

-- the script of a seed
unfoldable pub generated : ℕ → Script
generated seed = (script (seeded seed)).0
