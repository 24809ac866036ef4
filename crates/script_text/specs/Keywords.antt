-- The table of lines: the word that begins each, where it may stand, and how many words it has.
use Rattle.std.specs.Prelude.{ℕ, ◌+◌, ◌||◌, Bool, true, false, Option, List, [], ◌∷◌, length, codes, bytes_eq}
use Rattle.std.specs.List.{find}
use Rattle.cz_base.specs.declared.limits.TheConstants.{TAGS, KEYS}
use Rattle.script_text.specs.declared.section.Section.{Section}
use Rattle.script_text.specs.declared.section.Section.TheVariants as section
use Rattle.script_text.specs.declared.keyword.Keyword.{Keyword}
use Rattle.script_text.specs.declared.keyword.Keyword.TheVariants.{Chariots, Datacentres, Round, Stages, Session, Command, Steps, Turn, End}
use Rattle.script_text.specs.declared.keyword.CommandWord.{CommandWord}
use Rattle.script_text.specs.declared.keyword.CommandWord.TheVariants.{Append, Put, Del, Get, Tx, Read, Last}
use Rattle.script_text.specs.declared.keyword.TurnWord.{TurnWord}
use Rattle.script_text.specs.declared.keyword.TurnWord.TheVariants.{Client, Flush, Pass, Stamp, Token, Place, Gossip, Post, Learn, Send, Deliver, Lose, Copy, Floor, Collect, Announce, Mark, AddMaintainer, AddBatcher, AddQueue, AddSender, AddReceiver, Upgrade}
use Rattle.script_text.specs.declared.arguments.Argument.{Argument}
use Rattle.script_text.specs.declared.arguments.Argument.TheVariants as argument

-- the first word of a command
abbrev pub command_text : CommandWord → List ℕ
command_text Append = codes "append"
command_text Put = codes "put"
command_text Del = codes "del"
command_text Get = codes "get"
command_text Tx = codes "tx"
command_text Read = codes "read"
command_text Last = codes "last"

-- the first word of a step line
abbrev pub turn_text : TurnWord → List ℕ
turn_text Client = codes "client"
turn_text Flush = codes "flush"
turn_text Pass = codes "pass"
turn_text Stamp = codes "stamp"
turn_text Token = codes "token"
turn_text Place = codes "place"
turn_text Gossip = codes "gossip"
turn_text Post = codes "post"
turn_text Learn = codes "learn"
turn_text Send = codes "send"
turn_text Deliver = codes "deliver"
turn_text Lose = codes "lose"
turn_text Copy = codes "copy"
turn_text Floor = codes "floor"
turn_text Collect = codes "collect"
turn_text Announce = codes "announce"
turn_text Mark = codes "mark"
turn_text AddMaintainer = codes "addmaintainer"
turn_text AddBatcher = codes "addbatcher"
turn_text AddQueue = codes "addqueue"
turn_text AddSender = codes "addsender"
turn_text AddReceiver = codes "addreceiver"
turn_text Upgrade = codes "upgrade"

-- the first word of a line
unfoldable pub text_of : Keyword → List ℕ
text_of Chariots = codes "chariots"
text_of Datacentres = codes "datacentres"
text_of Round = codes "round"
text_of Stages = codes "stages"
text_of Session = codes "session"
text_of (Command word) = command_text word
text_of Steps = codes "steps"
text_of (Turn word) = turn_text word
text_of End = codes "end"

-- all keywords
abbrev pub keywords : List Keyword
keywords = Chariots ∷ Datacentres ∷ Round ∷ Stages ∷ Session
    ∷ Command Append ∷ Command Put ∷ Command Del ∷ Command Get ∷ Command Tx ∷ Command Read ∷ Command Last ∷ Steps
    ∷ Turn Client ∷ Turn Flush ∷ Turn Pass ∷ Turn Stamp ∷ Turn Token ∷ Turn Place ∷ Turn Gossip ∷ Turn Post ∷ Turn Learn ∷ Turn Send ∷ Turn Deliver
    ∷ Turn Lose ∷ Turn Copy ∷ Turn Floor ∷ Turn Collect ∷ Turn Announce ∷ Turn Mark ∷ Turn AddMaintainer ∷ Turn AddBatcher ∷ Turn AddQueue ∷ Turn AddSender ∷ Turn AddReceiver ∷ Turn Upgrade
    ∷ End ∷ []

-- the keyword that a word spells
unfoldable pub keyword_of : List ℕ → Option Keyword
keyword_of word = find (λ keyword. bytes_eq (text_of keyword) word) keywords

-- the sections
abbrev pub is_start : Section → Bool
is_start section.Start = true
is_start _ = false

abbrev pub is_datacentres : Section → Bool
is_datacentres section.Datacentres = true
is_datacentres _ = false

abbrev pub is_round : Section → Bool
is_round section.Round = true
is_round _ = false

abbrev pub is_stages : Section → Bool
is_stages section.Stages = true
is_stages _ = false

abbrev pub is_sessions : Section → Bool
is_sessions section.Sessions = true
is_sessions _ = false

abbrev pub is_steps : Section → Bool
is_steps section.Steps = true
is_steps _ = false

abbrev pub is_ended : Section → Bool
is_ended section.Ended = true
is_ended _ = false

-- where a line may stand
abbrev pub stands : Keyword → Section → Bool
stands Chariots here = is_start here
stands Datacentres here = is_datacentres here
stands Round here = is_round here
stands Stages here = is_stages here
stands Session here = is_stages here || is_sessions here
stands (Command word) here = is_sessions here
stands Steps here = is_stages here || is_sessions here
stands (Turn word) here = is_steps here
stands End here = is_steps here

-- The words after the first of each step line.
abbrev pub turn_arguments : TurnWord → List Argument
turn_arguments Client = argument.Session ∷ []
turn_arguments Flush = argument.Datacentre ∷ argument.Member ∷ []
turn_arguments Pass = argument.Datacentre ∷ argument.Member ∷ argument.Second ∷ []
turn_arguments Stamp = argument.Datacentre ∷ argument.Member ∷ []
turn_arguments Token = argument.Datacentre ∷ []
turn_arguments Place = argument.Datacentre ∷ argument.Member ∷ argument.Second ∷ []
turn_arguments Gossip = argument.Datacentre ∷ argument.Member ∷ argument.Second ∷ []
turn_arguments Post = argument.Datacentre ∷ argument.Member ∷ argument.Second ∷ []
turn_arguments Learn = argument.Datacentre ∷ []
turn_arguments Send = argument.Datacentre ∷ argument.Member ∷ argument.Other ∷ []
turn_arguments Deliver = argument.Datacentre ∷ argument.Other ∷ argument.Packet ∷ argument.Member ∷ []
turn_arguments Lose = argument.Datacentre ∷ argument.Other ∷ argument.Packet ∷ []
turn_arguments Copy = argument.Datacentre ∷ argument.Other ∷ argument.Packet ∷ []
turn_arguments Floor = argument.Datacentre ∷ argument.Position ∷ []
turn_arguments Collect = argument.Datacentre ∷ argument.Member ∷ []
turn_arguments Announce = argument.Datacentre ∷ argument.Other ∷ argument.Position ∷ []
turn_arguments Mark = argument.Datacentre ∷ []
turn_arguments AddMaintainer = argument.Datacentre ∷ argument.Position ∷ []
turn_arguments AddBatcher = argument.Datacentre ∷ []
turn_arguments AddQueue = argument.Datacentre ∷ []
turn_arguments AddSender = argument.Datacentre ∷ []
turn_arguments AddReceiver = argument.Datacentre ∷ []
turn_arguments Upgrade = argument.Datacentre ∷ []

-- how many words follow the first, at least and at most
abbrev pub least_command_words : CommandWord → ℕ
least_command_words Append = 1
least_command_words Put = 2
least_command_words Del = 1
least_command_words Get = 1
least_command_words Tx = 1
least_command_words Read = 1
least_command_words Last = 2

abbrev pub most_command_words : CommandWord → ℕ
most_command_words Append = TAGS + 1
most_command_words Put = 2
most_command_words Del = 1
most_command_words Get = 1
most_command_words Tx = KEYS
most_command_words Read = 1
most_command_words Last = 2

-- and of each line
abbrev pub least_words : Keyword → ℕ
least_words Chariots = 1
least_words Datacentres = 1
least_words Round = 1
least_words Stages = 8
least_words Session = 1
least_words (Command word) = least_command_words word
least_words Steps = 0
least_words (Turn word) = length (turn_arguments word)
least_words End = 0

abbrev pub most_words : Keyword → ℕ
most_words Chariots = 1
most_words Datacentres = 1
most_words Round = 1
most_words Stages = 8
most_words Session = 1
most_words (Command word) = most_command_words word
most_words Steps = 0
most_words (Turn word) = length (turn_arguments word)
most_words End = 0
