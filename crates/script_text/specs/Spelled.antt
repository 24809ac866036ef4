-- Which lines spell a script, told by writing the script: comments and empty lines apart, they are its lines.
use Rattle.std.specs.Prelude.{◌≡◌, ℕ, ◌+◌, ◌<◌, false, true, List, [], ◌∷◌, ◌++◌, map, codes, if◌then◌else◌, All}
use Rattle.std.specs.List.{flat_map, list_all}
use Rattle.std.specs.Fmt.{decimal}
use Rattle.abstract_log.specs.declared.command.Command.{Command}
use Rattle.abstract_log.specs.declared.command.Command.TheVariants.{Append, Put, Del, Get, Tx, Read, Last}
use Rattle.abstract_log.specs.declared.command.SessionPlan.{SessionPlan}
use Rattle.abstract_log.specs.declared.script.Script.{Script}
use Rattle.abstract_log.specs.declared.script.Step.{Step}
use Rattle.abstract_log.specs.declared.script.Step.TheVariants as step
use Rattle.script_text.specs.declared.progress.SizesLine.{SizesLine}
use Rattle.script_text.specs.Words.{words, is_line_byte}
use Rattle.abstract_log.specs.Fits.{FitsSizes, FitsScript}
use Rattle.abstract_log.specs.Turns.{FitsStep}
use Rattle.script_text.specs.Members.{FitsMembers}
use Rattle.script_text.specs.Meaning.{is_passed_over, is_given, sizes_upto}

-- the letter of a datacentre
abbrev pub letter : ℕ → List ℕ
letter dc = (65 + dc) ∷ []

-- The lines by their words.

abbrev pub command_words : Command → List (List ℕ)
command_words (Append tags body) = codes "append" ∷ (61 ∷ body) ∷ tags
command_words (Put key body) = codes "put" ∷ key ∷ (61 ∷ body) ∷ []
command_words (Del key) = codes "del" ∷ key ∷ []
command_words (Get key) = codes "get" ∷ key ∷ []
command_words (Tx keys) = codes "tx" ∷ keys
command_words (Read lid) = codes "read" ∷ decimal lid ∷ []
command_words (Last tag n) = codes "last" ∷ tag ∷ decimal n ∷ []

-- a session and its commands
abbrev pub plan_lines : SessionPlan → List (List (List ℕ))
plan_lines plan = (codes "session" ∷ letter plan.home ∷ []) ∷ map command_words plan.commands

-- the sizes of one datacentre
abbrev pub stages_words : SizesLine → List (List ℕ)
stages_words given = codes "stages" ∷ letter given.dc ∷ decimal given.sizes.batchers ∷ decimal given.sizes.filters ∷ decimal given.sizes.queues
    ∷ decimal given.sizes.maintainers ∷ decimal given.sizes.indexers ∷ decimal given.sizes.senders ∷ decimal given.sizes.receivers ∷ []

abbrev pub first_words : List (List ℕ)
first_words = codes "chariots" ∷ decimal 1 ∷ []

abbrev pub datacentres_words : ℕ → List (List ℕ)
datacentres_words dcs = codes "datacentres" ∷ decimal dcs ∷ []

abbrev pub round_words : ℕ → List (List ℕ)
round_words round = codes "round" ∷ decimal round ∷ []

-- The step lines.
abbrev pub turn_words : Step → List (List ℕ)
turn_words (step.Client s) = codes "client" ∷ decimal s ∷ []
turn_words (step.Flush d b) = codes "flush" ∷ letter d ∷ decimal b ∷ []
turn_words (step.Pass d f q) = codes "pass" ∷ letter d ∷ decimal f ∷ decimal q ∷ []
turn_words (step.Stamp d q) = codes "stamp" ∷ letter d ∷ decimal q ∷ []
turn_words (step.Token d) = codes "token" ∷ letter d ∷ []
turn_words (step.Place d q m) = codes "place" ∷ letter d ∷ decimal q ∷ decimal m ∷ []
turn_words (step.Gossip d m k) = codes "gossip" ∷ letter d ∷ decimal m ∷ decimal k ∷ []
turn_words (step.Post d m i) = codes "post" ∷ letter d ∷ decimal m ∷ decimal i ∷ []
turn_words (step.Learn d) = codes "learn" ∷ letter d ∷ []
turn_words (step.Send d k e) = codes "send" ∷ letter d ∷ decimal k ∷ letter e ∷ []
turn_words (step.Deliver d e k r) = codes "deliver" ∷ letter d ∷ letter e ∷ decimal k ∷ decimal r ∷ []
turn_words (step.Lose d e k) = codes "lose" ∷ letter d ∷ letter e ∷ decimal k ∷ []
turn_words (step.Copy d e k) = codes "copy" ∷ letter d ∷ letter e ∷ decimal k ∷ []
turn_words (step.Floor d p) = codes "floor" ∷ letter d ∷ decimal p ∷ []
turn_words (step.Collect d m) = codes "collect" ∷ letter d ∷ decimal m ∷ []
turn_words (step.Announce d h t) = codes "announce" ∷ letter d ∷ letter h ∷ decimal t ∷ []
turn_words (step.Mark d) = codes "mark" ∷ letter d ∷ []
turn_words (step.AddMaintainer d p) = codes "addmaintainer" ∷ letter d ∷ decimal p ∷ []
turn_words (step.AddBatcher d) = codes "addbatcher" ∷ letter d ∷ []
turn_words (step.AddQueue d) = codes "addqueue" ∷ letter d ∷ []
turn_words (step.AddSender d) = codes "addsender" ∷ letter d ∷ []
turn_words (step.AddReceiver d) = codes "addreceiver" ∷ letter d ∷ []
turn_words (step.Upgrade d) = codes "upgrade" ∷ letter d ∷ []

-- all before `steps`
unfoldable pub before_steps : ℕ → ℕ → List SizesLine → List SessionPlan → List (List (List ℕ))
before_steps dcs round stages plans = first_words ∷ datacentres_words dcs ∷ round_words round ∷ (map stages_words stages ++ flat_map plan_lines plans)

abbrev pub steps_words : List (List ℕ)
steps_words = codes "steps" ∷ []

abbrev pub end_words : List (List ℕ)
end_words = codes "end" ∷ []

-- the words of the lines that are not passed over
abbrev pub said_words : List (List ℕ) → List (List (List ℕ))
said_words [] = []
said_words (line ∷ more) = if is_passed_over line then said_words more else words line ∷ said_words more

-- some `stages` lines give the script's sizes, and with them the lines are those of the script
pub record Spells (script : Script) (lines : List (List ℕ)) : Type 0 where
  pub stages : List SizesLine
  pub sizes : script.sizes ≡ sizes_upto stages script.workload.dcs
  pub written : said_words lines ≡ before_steps script.workload.dcs script.round stages script.workload.sessions ++ steps_words ∷ (map turn_words script.steps ++ end_words ∷ [])

-- the sizes of each datacentre are given at most once
abbrev pub AreGivenOnce : List SizesLine → Type 0
AreGivenOnce [] = Unit {0}
AreGivenOnce (given ∷ more) = (is_given more given.dc ≡ false) × AreGivenOnce more

-- the sizes of a datacentre that there is
pub record FitsStages (dcs : ℕ) (given : SizesLine) : Type 0 where
  pub dc : given.dc < dcs
  pub sizes : FitsSizes given.sizes

-- The lines spell the script as it has to be written: each byte is one of a line, the sizes of a datacentre
-- are given at most once, all ranges are kept, and no stage gets more members than it may have.
pub record IsWritten (script : Script) (lines : List (List ℕ)) : Type 0 where
  pub spells : Spells script lines
  pub bytes : All (λ line. list_all is_line_byte line ≡ true) lines
  pub stages : All (FitsStages script.workload.dcs) spells.stages
  pub once : AreGivenOnce spells.stages
  pub fits : FitsScript script
  pub steps : All (FitsStep script.workload) script.steps
  pub members : FitsMembers script
